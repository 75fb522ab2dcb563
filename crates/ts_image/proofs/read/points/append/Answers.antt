use Rattle.std.proofs.Common.{rules, ◌≡◌, ℤ, Option, Some, IfSome, SFits, w64, to_z-of_z, ap, subst, ◌∙◌}
use Rattle.std.specs.FinMap as finmap
use Rattle.ts_raw.specs.Columns.{PointMap}
use Rattle.ts_image.proofs.PartedPoints.{inserted_last}
use Rattle.ts_image.proofs.read.points.append.Goals as goal

pub returns-clause-ok : goal.returns-clause-ok
returns-clause-ok g c =
    let m : PointMap = c.args.column.now.points in
    let t : ℤ = c.args.time in
    let v : ℤ = c.args.value in
    let fits : SFits w64 v = search rules in
    let staged = c.in_ok-prepare.ensures.staged ∙ ap (λ (x : ℤ). Some (t, x)) (to_z-of_z fits) in
    let put = subst (λ (a : Option (ℤ × ℤ)). IfSome a (λ p. c.commit.new.self.points ≡ finmap.insert c.prepare.new.self.points p.0 p.1)) staged c.commit.ensures.put in
    ap finmap.entries (put ∙ ap (λ (n : PointMap). finmap.insert n t v) c.in_ok-prepare.ensures.unchanged) ∙ inserted_last m t v c.requires
