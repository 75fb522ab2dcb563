use Rattle.std.proofs.Common.{List, map, refl, sym, ap, subst, ◌∙◌}
use Rattle.std.proofs.lemmas.Simd.{map-map}
use Rattle.std.specs.List.{AllByRecursion}
use Rattle.ts_store.specs.image.SavedContent.{AreRising}
use Rattle.ts_core.specs.facts.Facts.{text_cmp}
use Rattle.ts_image.specs.Images.{ImageColumn}
use Rattle.ts_image.specs.declared.read.series.ColumnParts.{ColumnParts}
use Rattle.ts_image.specs.ImageTests.{IsImageColumn}
use Rattle.ts_image.specs.SeriesParts.{column_of_parts}
use Rattle.ts_image.specs.TestParts.{field_of}
use Rattle.ts_image.proofs.check.series.is_series.Goals as goal

pub returns-then-are_columns : goal.returns-then-are_columns
returns-then-are_columns g c =
    let items = c.args.series.now.columns.items in
    let e = ap (map field_of) c.deref-then-are_columns.ensures.value ∙ sym (map-map (λ (x : ImageColumn). x.field) column_of_parts items) in
    let all = subst (λ (l : List (ColumnParts g.row.A.Denot)). AllByRecursion (IsImageColumn c.args.mark.now c.args.runs) (map column_of_parts l)) c.deref.ensures.value (c.if-are_columns.ensures.0 refl) in (
      λ h. record {
        key = c.if-not-is_key.ensures.0 refl;
        columns = all;
        rising = subst (AreRising text_cmp) e (c.are_columns_rising.ensures.0 h);
      },
      λ k. c.are_columns_rising.ensures.1 (subst (AreRising text_cmp) (sym e) k.rising),
    )
