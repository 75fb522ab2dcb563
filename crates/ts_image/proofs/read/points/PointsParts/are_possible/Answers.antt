use Rattle.std.proofs.Common.{rules, ◌≡◌, [], ℕ, ℤ, List, map, int_cmp, inl, inr, sym, subst}
use Rattle.std.specs.FinMap as finmap
use Rattle.std.specs.List.{AllByRecursion}
use Rattle.ts_store.specs.image.SavedContent.{AreRising}
use Rattle.ts_image.specs.ImageTests.{IsImagePoint}
use Rattle.ts_image.proofs.PartedPoints.{points_rise, image_points, all_timed, all_marked, column_alone, alone}
use Rattle.ts_image.proofs.read.points.PointsParts.are_possible.Goals as goal

abbrev ArePossible : ℤ → ℕ → List (ℤ × ℤ) → Type 0
ArePossible mark waits ps = AllByRecursion (IsImagePoint mark waits) ps × AreRising int_cmp (map (λ (p : ℤ × ℤ). p.0) ps)

pub returns-then-waits-eq1 : goal.returns-then-waits-eq1
returns-then-waits-eq1 g c =
    let i = c.self.inside in
    let ps : List (ℤ × ℤ) = finmap.entries i.column.points in
    let e : c.args.self.now ≡ ps = column_alone ps i.others.items c.args.self.now c.self.view_is (search rules) in
    let one : c.args.waits ≡ 1 = search rules in
    (λ t. subst (ArePossible c.args.mark.now c.args.waits) (sym e) (image_points c.args.mark.now c.args.waits ps c.self.invariant.timed (inl one), points_rise i.column.points), λ h. search rules)

pub returns-else-waits-eq1 : goal.returns-else-waits-eq1
returns-else-waits-eq1 g c =
    let i = c.self.inside in
    let ps : List (ℤ × ℤ) = finmap.entries i.column.points in
    let e : c.args.self.now ≡ ps = column_alone ps i.others.items c.args.self.now c.self.view_is (search rules) in (
      λ t. subst (ArePossible c.args.mark.now c.args.waits) (sym e) (image_points c.args.mark.now c.args.waits ps c.self.invariant.timed (inr (c.is_from.ensures.0 t)), points_rise i.column.points),
      λ h.
          let k : ArePossible c.args.mark.now c.args.waits ps = subst (ArePossible c.args.mark.now c.args.waits) e h in
          c.is_from.ensures.1 (all_marked c.args.mark.now c.args.waits ps (λ one. search rules) k.0),
    )

pub returns-else-is_empty : goal.returns-else-is_empty
returns-else-is_empty g c =
    let i = c.self.inside in
    let ps : List (ℤ × ℤ) = finmap.entries i.column.points in (
      λ t. absurd cc,
      λ h. let none : i.others.items ≡ [] = alone ps i.last i.others.items c.args.self.now c.self.invariant c.self.view_is (all_timed c.args.mark.now c.args.waits c.args.self.now h.0) h.1 in search rules,
    )
