use Rattle.std.proofs.Common.{◌∙◌, [], Some, ap, sym, subst}
use Rattle.std.proofs.lemmas.List.{append-nil}
use Rattle.ts_store.specs.rollup.ColumnLists.{lists_in, capacities_in}
use Rattle.ts_store.specs.rollup.Rollups.{IsRollup, has_spare}
use Rattle.ts_store.proofs.rollup.RollupsGrow.{keeps_view}
use Rattle.ts_store.proofs.rollup.RollupLemmas.{columns_kept, lists_kept, spare_from}
use Rattle.ts_store.proofs.rollup.Rollup.prepare.Goals as goal
use Rattle.ts_store.proofs.rollup.Rollup.prepare.Goals.{then-eq+in_ok-group+in_ok-rollup_series_for, else-eq}

pub returns-clause-kept : goal.returns-clause-kept
returns-clause-kept g c = elim c.if-eq.branch [
  | then-eq+in_ok-group+in_ok-rollup_series_for w ↦
      let kept = w.rollup_series_for.ensures.kept in
      keeps_view _ _ _ c.self.view_is (kept.made.0, ap (λ s. s.cells.rollup_series) w.self-inside-is ∙ kept.made.1) (ap (λ s. s.cells.cells) w.self-inside-is ∙ kept.cells) (ap (λ s. s.series_of_column.items) w.self-inside-is ∙ c.reserve_eighth.ensures.items)
  | else-eq w ↦
      keeps_view _ _ _ c.self.view_is ([], ap (λ s. s.cells.rollup_series) w.self-inside-is ∙ sym (append-nil _)) (ap (λ s. s.cells.cells) w.self-inside-is) (ap (λ s. s.series_of_column.items) w.self-inside-is ∙ c.reserve_eighth.ensures.items)
]

pub returns-in_err-rollup_series_for-clause-kept : goal.returns-in_err-rollup_series_for-clause-kept
returns-in_err-rollup_series_for-clause-kept g c = let kept = c.rollup_series_for.ensures.kept in keeps_view _ _ _ c.self.view_is kept.made kept.cells c.reserve_eighth.ensures.items

pub invariant_of-self : goal.invariant_of-self
invariant_of-self g c = columns_kept _ _ _ _ _ _ _ _ _ _ c.self.invariant c.reserve_eighth.ensures.items tt

pub invariant_of-self-in_err-group : goal.invariant_of-self-in_err-group
invariant_of-self-in_err-group g c = columns_kept _ _ _ _ _ _ _ _ _ _ c.self.invariant c.reserve_eighth.ensures.items tt

pub invariant_of-self-in_err-rollup_series_for : goal.invariant_of-self-in_err-rollup_series_for
invariant_of-self-in_err-rollup_series_for g c =
    let kept = c.rollup_series_for.ensures.kept in
    lists_kept _ _ _ _ _ _ _ _ _ _ _ c.self.invariant c.reserve_eighth.ensures.items kept tt

pub invariant_of-self-2 : goal.invariant_of-self-2
invariant_of-self-2 g c = elim c.if-eq.branch [
  | then-eq+in_ok-group+in_ok-rollup_series_for w ↦
      subst (λ s. IsRollup s.cells.rollup_series s.series_of_column.items (lists_in s.columns.items) (Some c.if-eq.series) (has_spare s.series_of_column) (capacities_in s.columns.items)) (sym w.self-inside-is)
      (subst (λ o. IsRollup w.rollup_series_for.new.cells.rollup_series c.reserve_eighth.new.list.items (lists_in w.rollup_series_for.new.columns.items) (Some o) (has_spare c.reserve_eighth.new.list) (capacities_in w.rollup_series_for.new.columns.items)) (sym w.series-is)
      (lists_kept _ _ _ _ _ _ _ _ _ _ _ c.self.invariant c.reserve_eighth.ensures.items w.rollup_series_for.ensures.kept (spare_from _ _ c.in_ok-reserve_eighth.ensures.spare, w.in_ok-rollup_series_for.ensures.capacity)))
  | else-eq w ↦
      subst (λ s. IsRollup s.cells.rollup_series s.series_of_column.items (lists_in s.columns.items) (Some c.if-eq.series) (has_spare s.series_of_column) (capacities_in s.columns.items)) (sym w.self-inside-is)
      (subst (λ o. IsRollup c.self.inside.cells.rollup_series c.reserve_eighth.new.list.items (lists_in c.self.inside.columns.items) (Some o) (has_spare c.reserve_eighth.new.list) (capacities_in c.self.inside.columns.items)) (sym w.series-is)
      (columns_kept _ _ _ _ _ _ _ _ _ _ c.self.invariant c.reserve_eighth.ensures.items (spare_from _ _ c.in_ok-reserve_eighth.ensures.spare)))
]
