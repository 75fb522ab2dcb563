use Rattle.std.proofs.Common.{rules, ◌≡◌, ℤ, ◌≤ℤ◌, ◌∷◌, List, map, int_cmp, SFits, w64, to_z-of_z, sym, subst, ◌∙◌}
use Rattle.std.specs.FinMap as finmap
use Rattle.std.specs.List.{AllByRecursion}
use Rattle.ts_core.proofs.lists.Comparisons.{le_from, le_true}
use Rattle.ts_store.specs.image.SavedContent.{AreRising}
use Rattle.ts_image.proofs.PartedPoints.{points_rise, all_from}
use Rattle.ts_image.proofs.read.points.is_from.Goals as goal

pub returns-in-Some : goal.returns-in-Some
returns-in-Some g c =
    let mark : ℤ = c.args.mark.now in
    let p : ℤ × ℤ = c.in-Some.point in
    let rest : List (ℤ × ℤ) = c.next.new.self in
    let e : finmap.entries c.args.column.now.points ≡ p ∷ rest = sym c.all.ensures.points ∙ c.in-Some.ensures.steps in
    let rises : AreRising int_cmp (map (λ (q : ℤ × ℤ). q.0) (p ∷ rest)) = subst (λ (qs : List (ℤ × ℤ)). AreRising int_cmp (map (λ (q : ℤ × ℤ). q.0) qs)) e (points_rise c.args.column.now.points) in
    let f1 : SFits w64 mark = search rules in
    let f2 : SFits w64 c.nanos.result = search rules in
    rw (to_z-of_z f1, to_z-of_z f2, e, c.nanos.ensures.value) (λ h. all_from mark p rest rises (le_from mark p.0 h), λ (h : AllByRecursion (λ (q : ℤ × ℤ). mark ≤ℤ q.0) (p ∷ rest)). le_true mark p.0 h.0)
