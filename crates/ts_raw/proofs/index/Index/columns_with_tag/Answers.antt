use Rattle.std.proofs.Common.{ℕ, List, ◌∙◌, ap, subst}
use Rattle.ts_core.specs.lists.Numbered.{numbers_where}
use Rattle.ts_raw.specs.Indexed.{Indexed}
use Rattle.ts_raw.specs.Tagged.{is_tagged, AreTaggedAt}
use Rattle.ts_raw.proofs.TaggedIndex.{tagged_of_none, tagged_of_field}
use Rattle.ts_raw.proofs.index.Index.columns_with_tag.Goals as goal

pub returns-in_ok-found-in-Some : goal.returns-in_ok-found-in-Some
returns-in_ok-found-in-Some g c =
    let walked : AreTaggedAt c.self.inside.series c.self.inside.columns.columns c.in-Some.field c.args.tag.now c.args.value.now c.in_ok-numbers-in-Some.numbers.items c.in_ok-found-in-Some.found.items =
    subst (λ (ns : List ℕ). AreTaggedAt c.self.inside.series c.self.inside.columns.columns c.in-Some.field c.args.tag.now c.args.value.now ns c.in_ok-found-in-Some.found.items) c.deref.ensures.value c.in_ok-found-in-Some.ensures in
    tagged_of_field c.self.inside.series c.self.inside.fields c.self.inside.columns c.self.invariant c.args.measurement.now c.args.field.now c.args.tag.now c.args.value.now c.in-Some.field c.in-Some.ensures.found c.requires
    c.in_ok-numbers-in-Some.numbers.items c.in_ok-found-in-Some.found.items c.sort_and_dedup.new.columns.items c.in_ok-numbers-in-Some.ensures walked c.sort_and_dedup.ensures.rise c.sort_and_dedup.ensures.same
    ∙ ap (λ (i : Indexed). numbers_where (is_tagged c.args.measurement.now c.args.field.now c.args.tag.now c.args.value.now) i.columns) c.self.view_is

pub returns-in-None : goal.returns-in-None
returns-in-None g c =
    c.new.ensures.items
    ∙ tagged_of_none c.self.inside.series c.self.inside.fields c.self.inside.columns c.self.invariant c.args.measurement.now c.args.field.now c.args.tag.now c.args.value.now c.in-None.ensures.absent
    ∙ ap (λ (i : Indexed). numbers_where (is_tagged c.args.measurement.now c.args.field.now c.args.tag.now c.args.value.now) i.columns) c.self.view_is
