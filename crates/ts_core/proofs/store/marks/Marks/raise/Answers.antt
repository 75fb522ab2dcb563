use Rattle.std.proofs.Common.{rules, ◌≡◌, ◌∙◌, ap, ap₂, length, ℕ, ℤ, List, SFits, to_z, of_z, to_z-of_z}
use Rattle.std.specs.Int.{w128, int_max}
use Rattle.std.specs.Vec.{with_items}
use Rattle.std.proofs.lemmas.List.{with_items_is}
use Rattle.ts_core.specs.store.History.{kept_since}
use Rattle.ts_core.specs.moves.StoreMoves.{raised}
use Rattle.ts_core.specs.store.Marks.{Marks}
use Rattle.ts_core.proofs.store.marks.Marks.raise.Goals as goal

marks : ℤ → List ℤ → Marks
marks raw lows = record { raw = raw; lows = lows }

pub returns : goal.returns
unfolding marks
returns g c =
    let now = c.args.now in
    let counted = c.self.inside.lows.ok.0 in
    let long : length c.raise_lows.new.lows ≡ c.self.inside.lows.len = cc (c.raise_lows.auto.lows, c.as_mut_slice.ensures.value, counted) in
    let written : (with_items c.self.inside.lows c.raise_lows.new.lows).items ≡ c.raise_lows.new.lows = with_items_is c.self.inside.lows c.raise_lows.new.lows long in
    let fits : SFits w128 c.kept_since.result = search rules in
    let cast : to_z w128 (of_z w128 c.kept_since.result) ≡ c.kept_since.result = to_z-of_z fits in
    let viewed : marks c.self.inside.raw c.self.inside.lows.items ≡ c.args.self.now = c.self.view_is in
    let since = cast ∙ (c.kept_since.ensures.value ∙ ap (λ (d : ℕ). kept_since d now) c.raw_duration.ensures.value) in
    let raw = c.max_mark-self-inside.ensures ∙ ap₂ int_max (ap (λ (m : Marks). m.raw) viewed) since in
    let lows = c.raise_lows.ensures ∙ ap₂ (raised now) c.rules.ensures.value (c.as_mut_slice.ensures.value ∙ ap (λ (m : Marks). m.lows) viewed) in
    ap₂ marks raw (written ∙ lows)
