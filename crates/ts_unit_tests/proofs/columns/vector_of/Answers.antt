use Rattle.std.proofs.Common.{◌≡◌, ℤ, List, sym, subst}
use Rattle.std.specs.FinMap.{entries}
use Rattle.std.proofs.lemmas.Iterator.{items_from_collect}
use Rattle.std.proofs.lemmas.Iterator.Consumers.{YieldsList-from_first}
use Rattle.std.proofs.lemmas.Result.{IfOk-weaker}
use Rattle.ts_raw.specs.PlainColumns.{IsRising}
use Rattle.ts_raw.proofs.ColumnLaws.{points-rising}
use Rattle.ts_unit_tests.proofs.columns.vector_of.Goals as goal

pub returns-clause-rising : goal.returns-clause-rising
returns-clause-rising g =
    let all : List (ℤ × ℤ) = entries g.args.column.now.points in
    IfOk-weaker g.collect.result (λ points. points.items ≡ all) (λ points. IsRising points.items) (λ points same. subst IsRising (sym same) (points-rising g.args.column.now.points))
    (items_from_collect g.collect.result g.collect.ensures.ran (YieldsList-from_first (λ x. x) (λ x. x) all g.all.ensures.points))
