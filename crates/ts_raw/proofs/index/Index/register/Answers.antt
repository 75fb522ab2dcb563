use Rattle.std.proofs.Common.{List, sym, ◌∙◌, ap, subst}
use Rattle.ts_core.specs.facts.Facts.{Series}
use Rattle.ts_raw.specs.IndexParts.{IsIndexOfParts}
use Rattle.ts_raw.specs.Indexed.{Indexed}
use Rattle.ts_raw.proofs.IndexLemmas.{index_sound}
use Rattle.ts_raw.proofs.IndexSteps.{index_registers, columns_registered}
use Rattle.ts_raw.proofs.index.Index.register.Goals as goal

pub invariant_of-self : goal.invariant_of-self
invariant_of-self g c = subst (λ (ss : List Series). IsIndexOfParts ss c.self.inside.fields c.self.inside.columns) (sym c.in_err-series.ensures.registered.kept) c.self.invariant

pub returns-in_err-series-clause-sound : goal.returns-in_err-series-clause-sound
returns-in_err-series-clause-sound g c = index_sound c.register.new.self c.self.inside.fields c.self.inside.columns (invariant_of-self g c)

pub invariant_of-self-2 : goal.invariant_of-self-2
invariant_of-self-2 g c =
    index_registers c.self.inside.series c.register.new.self c.self.inside.fields c.self.inside.columns c.self.invariant c.args.key.now c.in_ok-series.ensures.registered.gains c.register.ensures.once

pub returns-clause-columns : goal.returns-clause-columns
returns-clause-columns g c =
    columns_registered c.self.inside.series c.register.new.self c.self.inside.fields c.self.inside.columns c.self.invariant c.args.key.now c.in_ok-series.ensures.registered.gains
    ∙ ap (λ (i : Indexed). i.columns) c.self.view_is

pub returns-clause-sound : goal.returns-clause-sound
returns-clause-sound g c = index_sound c.register.new.self c.self.inside.fields c.self.inside.columns (invariant_of-self-2 g c)
