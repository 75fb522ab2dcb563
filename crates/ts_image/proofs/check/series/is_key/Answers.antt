use Rattle.std.proofs.Common.{rules, arith, List, map, refl, sym, ap, subst, ◌∙◌}
use Rattle.std.specs.Prelude.{String}
use Rattle.std.proofs.lemmas.List.{length-map}
use Rattle.std.proofs.lemmas.Simd.{map-map}
use Rattle.std.specs.List.{AllByRecursion}
use Rattle.ts_store.specs.image.SavedContent.{AreRising}
use Rattle.ts_core.specs.facts.Facts.{Text, text_cmp}
use Rattle.ts_image.specs.SeriesParts.{tag_of}
use Rattle.ts_image.specs.TestParts.{IsTag, key_of_tag}
use Rattle.ts_image.proofs.check.series.is_key.Goals as goal

pub returns-then-are_tags : goal.returns-then-are_tags
returns-then-are_tags g c =
    let items = c.args.key.now.tags.items in
    let e = ap (map key_of_tag) c.deref-then-are_tags.ensures.value ∙ sym (map-map (λ (x : Text × Text). x.0) tag_of items) in
    let all = subst (λ (l : List (String g.row.A.Denot × String g.row.A.Denot)). AllByRecursion IsTag (map tag_of l)) c.deref.ensures.value (c.if-are_tags.ensures.0 refl) in (
      λ h. record {
        measured = search rules;
        few = omega (arith, length-map c.args.key.now.tags.items tag_of, c.len.ensures);
        tags = all;
        rising = subst (AreRising text_cmp) e (c.are_tags_rising.ensures.0 h);
      },
      λ k. c.are_tags_rising.ensures.1 (subst (AreRising text_cmp) (sym e) k.rising),
    )
