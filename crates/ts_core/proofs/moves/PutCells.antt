-- One more fact, or another live part, by cells: the effect of a write on the cell of its fact.
use Rattle.std.proofs.Common.{◌≡◌, ◌+◌, ◌≤◌, ◌^◌, ◌&&◌, true, false, cond, ap₂, List, Some, None, Option, refl, sym, ◌∙◌, ap}
use Rattle.std.specs.declared.cmp.Ordering.{Ordering}
use Rattle.std.specs.FinMap as finmap
use Rattle.std.specs.FinMap.{FinMap}
use Rattle.ts_core.specs.lists.Members.{Among, AllDistinct}
use Rattle.ts_core.specs.facts.Facts.{Fact, id_of, same_id}
use Rattle.ts_core.specs.settings.Settings.{Rule}
use Rattle.ts_core.specs.aggregates.Aggregates.{Aggregate, merged, IsSound, count_in}
use Rattle.ts_core.specs.aggregates.MergeLaws.{aggregate_laws}
use Rattle.ts_core.specs.aggregates.Remainders.{IsOnlyRest}
use Rattle.ts_core.specs.store.Cells.{cell_of, is_rolled, is_in_cell, total_of}
use Rattle.ts_core.specs.lists.Changes.{changed, with_change, joined_within}
use Rattle.ts_core.specs.store.TwoParts.{in_live, with_live}
use Rattle.ts_core.specs.store.StoreStates.{ColumnPoints, CellParts, facts_of}
use Rattle.ts_core.specs.store.StoreData.{CellMap, IsLive}
use Rattle.ts_core.specs.moves.StoreLaws.{IsOldOf}
use Rattle.ts_core.specs.moves.StoreMoves.{refolded, put_cell, PutsFact}
use Rattle.ts_core.proofs.store.Cuts.{one_fact}
use Rattle.ts_core.proofs.aggregates.AggregatesLemmas.{merged_within-fits}
use Rattle.ts_core.proofs.moves.LiveWays.{new_total, replaced_total}
use Rattle.ts_core.proofs.plans.PieceCells.{same_cell-refl}

-- two changes are one where they agree at what is there
pub changed_agree : {K X : Type 0} {R : K → K → Ordering} (m : FinMap R X) (k : K) (f g : X → X) → ((a : X) → finmap.get m k ≡ Some a → f a ≡ g a) → changed m k f ≡ changed m k g
changed_agree {K} {X} m k f g same =
    elim (finmap.get m k) as (λ (o : Option X). ((a : X) → o ≡ Some a → f a ≡ g a) → with_change m k f o ≡ with_change m k g o) [
      | None ↦ λ h. refl
      | Some a ↦ λ h. ap (finmap.insert m k) (h a refl)
    ] same

module _ (before after : List ColumnPoints) (f : Fact) (once : AllDistinct (facts_of before)) (put : PutsFact before after f) (r : Rule) (m : CellMap) (live : IsLive before r m) (rolled : is_rolled r f ≡ true) where
  its_cell : is_in_cell r (cell_of r f) f ≡ true
  its_cell = ap₂ (λ x y. x && y) rolled (same_cell-refl (cell_of r f))

  -- the cell's live part is what is said here
  put_is : (a : Aggregate) → total_of r (cell_of r f) (facts_of after) ≡ a → changed m (cell_of r f) (with_live a) ≡ put_cell r f (facts_of after) m
  put_is a e = ap (λ x. changed m (cell_of r f) (with_live x)) (sym e) ∙ sym (ap (λ b. cond b (refolded r (cell_of r f) (facts_of after) m) m) rolled)

  -- a new id: one fact more is added
  pub add_puts : ((g : Fact) → Among g (facts_of before) → same_id (id_of g) (id_of f) ≡ false) → ((p : CellParts) → finmap.get m (cell_of r f) ≡ Some p → p.live.count + 1 ≤ 2 ^ 62)
      → changed m (cell_of r f) (in_live (joined_within count_in merged (one_fact f))) ≡ put_cell r f (facts_of after) m
  add_puts new few =
      let total = new_total before after f once put r (cell_of r f) its_cell new in
      changed_agree m (cell_of r f) (in_live (joined_within count_in merged (one_fact f))) (with_live (total_of r (cell_of r f) (facts_of after)))
      (λ p e.
      let fits : joined_within count_in merged (one_fact f) p.live ≡ merged p.live (one_fact f) = merged_within-fits (one_fact f) p.live (few p e) in
      let now : joined_within count_in merged (one_fact f) p.live ≡ total_of r (cell_of r f) (facts_of after) =
      fits ∙ aggregate_laws.comm p.live (one_fact f) ∙ ap (merged (one_fact f)) (live (cell_of r f) p e) ∙ sym total in
      λ i. record { frozen = p.frozen; live = now i })
      ∙ put_is (total_of r (cell_of r f) (facts_of after)) refl

  -- instead of an old fact: the rest, where it is determined, with the new one
  pub correct_puts : (g : Fact) → IsOldOf before f g → (rest : Aggregate) → IsOnlyRest IsSound merged (total_of r (cell_of r f) (facts_of before)) (one_fact g) rest
      → changed m (cell_of r f) (with_live (merged (one_fact f) rest)) ≡ put_cell r f (facts_of after) m
  correct_puts g old rest is = put_is (merged (one_fact f) rest) (replaced_total before after f once put r (cell_of r f) its_cell g old.there old.same old.only rest is)
