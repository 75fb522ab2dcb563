use Rattle.std.proofs.Common.{sym, ◌∙◌, ap, arith}
use Rattle.ts_core.specs.facts.Facts.{is_of}
use Rattle.ts_raw.specs.Indexed.{Indexed}
use Rattle.ts_core.specs.lists.Numbered.{numbers_where}
use Rattle.ts_core.proofs.lists.NumberedLemmas.{at_within}
use Rattle.ts_raw.proofs.IndexLemmas.{numbers_of_field, numbers_of_none}
use Rattle.ts_raw.proofs.index.Index.columns_of.Goals as goal

pub returns-in-Some : goal.returns-in-Some
returns-in-Some g c =
    c.of_field.ensures
    ∙ numbers_of_field c.self.inside.series c.self.inside.fields c.self.inside.columns c.self.invariant c.args.measurement.now c.args.field.now c.in-Some.field c.in-Some.ensures.found
    ∙ ap (λ (i : Indexed). numbers_where (is_of c.args.measurement.now c.args.field.now) i.columns) c.self.view_is

pub returns-in-None : goal.returns-in-None
returns-in-None g c =
    sym (numbers_of_none c.self.inside.series c.self.inside.fields c.self.inside.columns c.self.invariant c.args.measurement.now c.args.field.now c.in-None.ensures.absent)
    ∙ ap (λ (i : Indexed). numbers_where (is_of c.args.measurement.now c.args.field.now) i.columns) c.self.view_is

pub of_field-requires : goal.of_field-requires
of_field-requires g c = omega (arith, at_within c.self.inside.fields c.in-Some.field _ c.in-Some.ensures.found, c.self.invariant.spare)
