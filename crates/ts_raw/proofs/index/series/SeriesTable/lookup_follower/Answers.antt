use Rattle.std.proofs.Common.{◌≡◌, ◌<◌, List, length, get_or, subst, rules}
use Rattle.ts_core.specs.facts.Facts.{Series}
use Rattle.ts_core.specs.lists.Numbered.{IsAt}
use Rattle.ts_core.proofs.lists.TableLemmas.{found_at}
use Rattle.ts_raw.proofs.index.series.SeriesTable.lookup_follower.Goals as goal

pub returns-then-has_key : goal.returns-then-has_key
returns-then-has_key g c =
    let within : c.in_ok-number.field-0.now < length c.self.inside.keys.items = search rules in
    let found : c.in_ok-other.other.now ≡ get_or c.self.inside.keys.items c.in_ok-number.field-0.now c.in_ok-other.other.now = search rules in
    subst (λ (all : List Series). IsAt all c.in_ok-number.field-0.now c.args.key.now) c.self.view_is
    (found_at c.self.inside.keys.items c.in_ok-number.field-0.now c.in_ok-other.other.now c.args.key.now within found (c.has_key.ensures.0 c.if-has_key.true))
