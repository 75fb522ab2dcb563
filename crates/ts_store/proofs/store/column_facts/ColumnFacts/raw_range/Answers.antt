use Rattle.std.proofs.Common.{◌∙◌, ap, sym, subst, rules, SFits, w64, to_z-of_z, get_or, arith}
use Rattle.ts_raw.specs.PlainColumns.{IsRising}
use Rattle.ts_raw.proofs.ColumnLaws.{within-rising}
use Rattle.ts_store.specs.read.PointsRead.{points_between}
use Rattle.ts_store.proofs.read.ColumnRefLemmas.{points_shown}
use Rattle.ts_store.proofs.store.ColumnsLemmas.{its_columns}
use Rattle.ts_store.proofs.store.column_facts.ColumnFacts.raw_range.Goals as goal

pub index-requires : goal.index-requires
index-requires g c =
    let many = its_columns _ _ _ _ c.self.invariant c.self.view_is in
    omega (arith, c.requires, c.number.ensures, many)

pub returns-clause-points : goal.returns-clause-points
returns-clause-points g c =
    let points =
    points_shown _ _ _ _ c.args.column c.index.result.now c.self.invariant c.self.view_is c.requires
    (c.index.ensures ∙ ap (λ n. get_or c.self.inside.columns.items n c.index.result.now) c.number.ensures) in
    let from : SFits w64 c.args.from = search rules in
    let to : SFits w64 c.args.to = search rules in
    c.range.ensures.points ∙ (λ i. points_between (to_z-of_z from i) (to_z-of_z to i) (points i))

pub returns-clause-rising : goal.returns-clause-rising
returns-clause-rising g c = subst IsRising (sym c.range.ensures.points) (within-rising c.index.result.now.points _ _)
