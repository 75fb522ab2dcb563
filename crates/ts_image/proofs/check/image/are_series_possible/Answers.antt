use Rattle.std.proofs.Common.{arith, List, map, refl, sym, ap, subst, ◌∙◌}
use Rattle.std.proofs.lemmas.Simd.{map-map}
use Rattle.std.specs.List.{AllByRecursion}
use Rattle.ts_core.specs.facts.Facts.{series_cmp}
use Rattle.ts_image.specs.declared.read.series.SeriesParts.{SeriesParts}
use Rattle.ts_image.specs.Images.{ImageSeries}
use Rattle.ts_image.specs.ImageTests.{IsImageSeries, points_in_all}
use Rattle.ts_store.specs.image.SavedContent.{AreRising}
use Rattle.ts_image.specs.SeriesParts.{series_of_parts}
use Rattle.ts_image.specs.TestParts.{series_key_of}
use Rattle.ts_image.proofs.Testing.{taken}
use Rattle.ts_image.proofs.check.image.are_series_possible.Goals as goal

pub returns-then-not-are_series : goal.returns-then-not-are_series
returns-then-not-are_series g c =
    let p = c.args.parts.now in
    (λ e. absurd cc, λ k. c.if-not-are_series.ensures.1 (subst (λ (l : List (SeriesParts g.row.A.Denot)). AllByRecursion (IsImageSeries p.marks.raw p.runs) (map series_of_parts l)) (sym c.deref.ensures.value) k.series))

pub returns-then-not-are_series_rising : goal.returns-then-not-are_series_rising
returns-then-not-are_series_rising g c =
    let e = ap (map series_key_of) c.deref-2.ensures.value ∙ sym (map-map (λ (x : ImageSeries). x.series) series_of_parts c.args.parts.now.series.items) in
    (λ h. absurd cc, λ k. c.if-not-are_series_rising.ensures.1 (subst (AreRising series_cmp) (sym e) k.rising))

pub returns : goal.returns
returns g c =
    let p = c.args.parts.now in
    let all = subst (λ (l : List (SeriesParts g.row.A.Denot)). AllByRecursion (IsImageSeries p.marks.raw p.runs) (map series_of_parts l)) c.deref.ensures.value (c.if-not-are_series.ensures.0 refl) in
    let e = ap (map series_key_of) c.deref-2.ensures.value ∙ sym (map-map (λ (x : ImageSeries). x.series) series_of_parts p.series.items) in
    let q = ap (λ (l : List (SeriesParts g.row.A.Denot)). points_in_all (map series_of_parts l)) c.deref-3.ensures.value in
    let t = taken p.accepted (points_in_all (map series_of_parts c.deref-3.result.now)) c.subtract_series.result c.subtract_series.ensures in (
      λ h. record {
        series = all;
        rising = subst (AreRising series_cmp) e (c.if-not-are_series_rising.ensures.0 refl);
        points = let m = t.0 (sym c.is_some.ensures ∙ h) in omega (arith, m, q);
      },
      λ k. let m = k.points in c.is_some.ensures ∙ t.1 (omega (arith, m, q)),
    )
