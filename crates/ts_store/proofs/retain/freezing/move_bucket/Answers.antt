use Rattle.std.proofs.Common.{rules, ◌≡◌, ◌∙◌, ℤ, Some, None, sym}
use Rattle.std.proofs.lemmas.Option.{none-some}
use Rattle.ts_core.specs.settings.Settings.{Rule}
use Rattle.ts_core.specs.aggregates.Aggregates.{merged, IsSound}
use Rattle.ts_core.specs.aggregates.Remainders.{IsOnlyRest}
use Rattle.ts_core.specs.store.Cells.{total_of}
use Rattle.ts_cells.specs.Grids.{cell_at}
use Rattle.ts_store.specs.rollup.Rollups.{RollupState, rollup_series_under, rollup_series_at}
use Rattle.ts_store.specs.retain.RollupSteps.{facts_left}
use Rattle.ts_store.proofs.retain.PointsFrozen.{with_grid}
use Rattle.ts_store.proofs.retain.BucketsMoved.{left_folded, left_determined, bucket_replaced, bucket_missing}
use Rattle.ts_store.proofs.retain.freezing.move_bucket.Goals.{in-Some-without, in-None}
use Rattle.ts_store.proofs.retain.freezing.move_bucket.Goals as goal

pub returns-in_default-clause-cells : goal.returns-in_default-clause-cells
returns-in_default-clause-cells g c = λ cs d its.
    let none : rollup_series_at c.args.rollup.now c.args.column ≡ None = search rules in
    absurd (none-some its.rolled.0 (sym none ∙ its.rolled.1))

pub returns-in_default-live-clause-cells : goal.returns-in_default-live-clause-cells
returns-in_default-live-clause-cells g c = λ cs d its.
    let s : RollupState = c.args.rollup.now in
    let series : rollup_series_at s c.args.column ≡ Some c.in-Some.series = search rules in
    let none : c.live.result ≡ None = search rules in
    bucket_missing c.args.rule.now c.args.mark cs d c.args.columns.now s c.args.column c.in-Some.series c.args.index.now its.over its.at series c.args.part (sym c.live.ensures ∙ none)

pub returns-clause-kept : goal.returns-clause-kept
returns-clause-kept g c = with_grid _ _ c.correct.new.self c.rollup.view_is (c.correct.ensures.kept ∙ c.freeze.ensures.kept)

pub returns-clause-cells : goal.returns-clause-cells
returns-clause-cells g c = λ cs d its.
    let r : Rule = c.args.rule.now in
    let s : RollupState = c.args.rollup.now in
    let n = c.args.column in
    let index : ℤ = c.args.index.now in
    let series : rollup_series_at s n ≡ Some c.in-Some.series = search rules in
    let some : c.live.result ≡ Some c.in-Some-live.live = search rules in
    let rest : c.match-without.rest ≡ total_of r (cell_at index (rollup_series_under r d)) (facts_left c.args.mark d cs c.args.columns.now) =
    elim c.match-without.branch [
      | in-Some-without w ↦
          let only : IsOnlyRest IsSound merged c.in-Some-live.live c.args.part w.in-Some-without.rest = search rules in
          w.rest-is ∙ left_determined r c.args.mark cs d c.args.columns.now s n c.in-Some.series index its.over its.at series c.in-Some-live.live c.args.part w.in-Some-without.rest (sym c.live.ensures ∙ some) its.live its.total only
      | in-None w ↦
          w.rest-is ∙ left_folded r c.args.mark cs d c.args.columns.now s n c.in-Some.series index its.over its.at series w.rollup_series_left-rest.result w.rollup_series_left-rest.ensures.once w.rollup_series_left-rest.ensures.total
    ] in
    bucket_replaced r c.args.mark cs d c.args.columns.now s n c.in-Some.series index its.over its.at series c.args.part c.match-without.rest _ c.freeze.new.self c.correct.new.self c.rollup.view_is c.freeze.ensures.kept c.freeze.ensures.cells c.correct.ensures.cells rest
