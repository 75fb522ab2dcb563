use Rattle.std.proofs.Common.{rules, ◌≡◌, ◌<◌, ℕ, zero, suc, ℤ, List, [], ◌∷◌, ap, sym, refl, ◌∙◌, arith, get_or, length, replicate, SFits, w64, to_z-of_z}
use Rattle.std.specs.FinMap as finmap
use Rattle.ts_core.specs.facts.Facts.{Column}
use Rattle.ts_raw.specs.Columns.{PointMap, points_within}
use Rattle.ts_store.specs.store.ColumnStates.{with_points}
use Rattle.ts_store.specs.read.PointsRead.{points_between}
use Rattle.ts_store.specs.read.ViewResults.{no_points}
use Rattle.ts_tests.proofs.many_series.VisitedView.raw_range.Goals as goal

-- each column has the points
same_points : (cs : List Column) (m : PointMap) (n : ℕ) → n < length (with_points cs (replicate (length cs) m)) → (get_or (with_points cs (replicate (length cs) m)) n no_points).points ≡ finmap.entries m
same_points [] m n l = absurd (omega (arith, l))
same_points (c ∷ cs) m zero l = refl
same_points (c ∷ cs) m (suc n) l = same_points cs m n (omega (arith, l))

pub returns : goal.returns
returns g c =
    let from : SFits w64 c.args.from = search rules in
    let to : SFits w64 c.args.to = search rules in
    let m : PointMap = c.args.self.now.points.points in
    c.range.ensures.points
    ∙ (λ i. points_within m (to_z-of_z from i) (to_z-of_z to i))
    ∙ sym (ap (λ (ps : List (ℤ × ℤ)). points_between c.args.from c.args.to ps) (same_points c.args.self.now.index.now.columns m c.args._column c.requires))
