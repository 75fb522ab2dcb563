use Rattle.std.proofs.Common.{◌≡◌, ◌∙◌, List, length, ap, ap₂, sym, subst}
use Rattle.std.specs.Vec.{with_items}
use Rattle.ts_store.proofs.store.ColumnsLemmas.{written_back}
use Rattle.ts_cells.proofs.ExpiryLemmas.{on_true, on_false}
use Rattle.ts_store.specs.store.ColumnStates.{StoreContent, columns_in}
use Rattle.ts_store.specs.rollup.Rollups.{RollupState, cells_of}
use Rattle.ts_store.specs.retain.RollupSteps.{with_all_grid_cells, content_with_cells}
use Rattle.ts_core.specs.lists.Beside.{OfEach}
use Rattle.ts_cells.specs.Expiry.{IsAbove}
use Rattle.ts_store.specs.rollup.ChangedLists.{FirstChanges}
use Rattle.ts_store.specs.retain.WholeRuns.{LosesCells}
use Rattle.ts_store.proofs.store.column_facts.ColumnFacts.expire.Given.{Over}
use Rattle.ts_store.proofs.store.column_facts.ColumnFacts.expire.Goals as goal

-- the rollups that were there
rollups : (g : Over) (c : goal.After-self-1 g) → c.as_mut_slice.result.now ≡ c.args.self.now.rollups
rollups g c = c.as_mut_slice.ensures.value ∙ ap (λ (h : StoreContent). h.rollups) c.self.view_is

-- those that are there now
written : (g : Over) (c : goal.After-self-1 g) → (with_items c.self.inside.rollups c.expire_first.new.rollups).items ≡ c.expire_first.new.rollups
written g c = written_back c.self.inside.rollups _ c.expire_first.new.rollups c.expire_first.auto.rollups c.as_mut_slice.ensures.value

pub expire_first-requires : goal.expire_first-requires
expire_first-requires g c = c.requires ∙ sym (ap length (c.as_mut_slice.ensures.value ∙ ap (λ (h : StoreContent). h.rollups) c.self.view_is))

pub returns-clause-none : goal.returns-clause-none
returns-clause-none g c =
    on_false c.expire_first.result (λ h. (
      (λ i. record { series = c.self.inside.index.series; columns = columns_in c.self.inside.index c.self.inside.columns.items; rollups = (written g c ∙ h.0 ∙ c.as_mut_slice.ensures.value) i }) ∙ c.self.view_is,
      subst (λ (ss : List RollupState). OfEach IsAbove c.args.lows.now (cells_of ss)) (rollups g c) h.1,
    )) c.expire_first.ensures.none

pub returns-clause-kept : goal.returns-clause-kept
returns-clause-kept g c =
    let before : List RollupState = c.self.inside.rollups.items in
    let after : List RollupState = (with_items c.self.inside.rollups c.expire_first.new.rollups).items in
    let is : after ≡ c.expire_first.new.rollups = written g c in
    let kept : after ≡ with_all_grid_cells (cells_of after) before = is ∙ c.expire_first.ensures.kept ∙ ap₂ (λ us ss. with_all_grid_cells (cells_of us) ss) (sym is) c.as_mut_slice.ensures.value in
    (λ i. record { series = c.self.inside.index.series; columns = columns_in c.self.inside.index c.self.inside.columns.items; rollups = kept i }) ∙ ap (content_with_cells (cells_of after)) c.self.view_is

pub returns-clause-some : goal.returns-clause-some
returns-clause-some g c =
    let after : List RollupState = (with_items c.self.inside.rollups c.expire_first.new.rollups).items in
    on_true c.expire_first.result (λ h.
    subst (λ (ss : List RollupState). FirstChanges IsAbove LosesCells c.args.lows.now (cells_of ss) (cells_of after)) (rollups g c)
    (subst (λ (us : List RollupState). FirstChanges IsAbove LosesCells c.args.lows.now (cells_of c.as_mut_slice.result.now) (cells_of us)) (sym (written g c)) h)) c.expire_first.ensures.some
