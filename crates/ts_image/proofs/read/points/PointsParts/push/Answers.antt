use Rattle.std.proofs.Common.{rules, ◌≡◌, ◌++◌, ◌∷◌, [], ℤ, List, SFits, w64, to_z-of_z, ap₂, subst, ◌∙◌}
use Rattle.std.specs.FinMap as finmap
use Rattle.ts_image.specs.PointParts.{IsNextPoint}
use Rattle.ts_image.proofs.PartedPoints.{next_parted}
use Rattle.ts_image.proofs.read.points.PointsParts.push.Goals as goal

pub invariant_of-self-in-Some : goal.invariant_of-self-in-Some
invariant_of-self-in-Some g c =
    let i = c.self.inside in
    let ps : List (ℤ × ℤ) = finmap.entries i.column.points in
    let t : ℤ = c.args.point.0 in
    let v : ℤ = c.args.point.1 in
    let t_fits : SFits w64 t = search rules in
    let v_fits : SFits w64 v = search rules in
    let same : c.in-Some.time ≡ t = c.in-Some.ensures.next.0 in
    let next : IsNextPoint i.last i.others.items t = subst (IsNextPoint i.last i.others.items) same (subst (λ (qs : List (ℤ × ℤ)). IsNextPoint i.last qs c.in-Some.time) c.deref.ensures.value c.in-Some.ensures.next.1) in
    let put : finmap.entries c.append.new.column.points ≡ ps ++ (t, v) ∷ [] = c.in_ok-append-in-Some.ensures.ok ∙ ap₂ (λ (a b : ℤ). ps ++ (a, b) ∷ []) same (to_z-of_z v_fits) in
    rw (to_z-of_z t_fits, put) (next_parted ps i.others.items i.last t v c.self.invariant next)
