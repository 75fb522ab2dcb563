use Rattle.std.proofs.Common.{◌≡◌, ◌<◌, ◌+◌, ◌∙◌, None, List, length, take, set, ap, sym, subst, arith}
use Rattle.std.specs.List.{AllByRecursion}
use Rattle.std.proofs.lemmas.List.{set-get_or}
use Rattle.ts_cells.proofs.GridMoves.{all_at}
use Rattle.ts_store.specs.rollup.Rollups.{RollupState, rollup_series_at}
use Rattle.ts_store.proofs.image.ListedColumns.{sorted_more, all_taken}
use Rattle.ts_store.proofs.write.PointsPut.{without_rollup_series}
use Rattle.ts_store.proofs.write.committing.is_rolled.Goals as goal

pub rolls-requires : goal.rolls-requires
rolls-requires g c =
    subst (λ (s : RollupState). c.args.column < length s.series_of_column) (sym c.rollup-item.is)
    (all_at (λ (s : RollupState). c.args.column < length s.series_of_column) c.args.rollups.now c.loop-rollup.rollup-index c.rollup-item.result c.loop-rollup-test.true c.requires)

pub loop-rollup-preserved : goal.loop-rollup-preserved
loop-rollup-preserved g c =
    let us : List RollupState = c.args.rollups.now in
    let i = c.loop-rollup.rollup-index in
    let u : RollupState = c.rollup-item.result in
    let none : rollup_series_at u c.args.column ≡ None = without_rollup_series (rollup_series_at u c.args.column) (sym c.rolls.ensures ∙ c.if-rolls.false) in
    subst (λ (vs : List RollupState). AllByRecursion (λ (s : RollupState). rollup_series_at s c.args.column ≡ None) (take (i + 1) vs)) (ap (set us i) c.rollup-item.is ∙ set-get_or us i u)
    (sorted_more (λ (s : RollupState). rollup_series_at s c.args.column ≡ None) us i u c.loop-rollup-test.true c.loop-rollup.invariant none)

pub returns : goal.returns
returns g c = all_taken (λ (s : RollupState). rollup_series_at s c.args.column ≡ None) c.args.rollups.now c.loop-rollup.rollup-index (omega arith) c.loop-rollup.invariant
