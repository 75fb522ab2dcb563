use Rattle.std.proofs.Common.{List, subst}
use Rattle.ts_core.specs.facts.Facts.{Text, Series}
use Rattle.ts_raw.specs.TagChains.{AreAmongTagged}
use Rattle.ts_raw.proofs.TagLemmas.{if_ok, among_led}
use Rattle.ts_raw.proofs.index.series.SeriesTable.with_tag.Goals as goal

pub returns : goal.returns
returns g c =
    let tag : Text × Text = (c.args.tag.now, c.args.value.now) in
    if_ok c.series_of.result
    (λ v all.
    subst (λ (series : List Series). AreAmongTagged series c.args.measurement.now tag v.items) c.self.view_is
    (among_led c.self.inside.seed c.self.inside.keys.items c.self.inside.tags c.self.invariant.tagged c.args.measurement.now tag c.hash_tag.result c.hash_tag.ensures v.items all))
    c.series_of.ensures
