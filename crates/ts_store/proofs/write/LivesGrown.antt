-- Live parts after cells are created: still those of the raw facts, as a new cell has none.
use Rattle.std.proofs.Common.{◌≡◌, ℤ, ◌≤ℤ◌, List, [], ◌∷◌, filter, sym, ◌∙◌, ap, subst, refl, Some, None}
use Rattle.std.specs.FinMap as finmap
use Rattle.std.specs.List.{AllByRecursion}
use Rattle.std.proofs.lemmas.Bool.{and_parts}
use Rattle.std.proofs.lemmas.Int.{by_lt_z}
use Rattle.std.proofs.lemmas.Option.{none-some}
use Rattle.ts_core.specs.lists.Members.{Among}
use Rattle.ts_core.specs.facts.Facts.{Fact}
use Rattle.ts_core.specs.settings.Settings.{Rule}
use Rattle.ts_core.specs.aggregates.Aggregates.{empty_aggregate, aggregate_of}
use Rattle.ts_core.specs.store.Cells.{Cell, same_cell, cell_of, is_rolled, is_in_cell, total_of}
use Rattle.ts_core.specs.lists.Changes.{or_else}
use Rattle.ts_core.specs.store.StoreStates.{ColumnPoints, CellParts, facts_of}
use Rattle.ts_core.specs.store.StoreData.{CellMap, RuleData, no_parts, IsLive, AreLive}
use Rattle.ts_core.specs.moves.StoreMoves.{GainsEmptyCells, GainEmptyCells}
use Rattle.ts_core.proofs.lists.MembersLemmas.{no_members, Among-filter_was, Among-filter_passes}
use Rattle.ts_core.proofs.plans.PieceCells.{same_cell-eq}
use Rattle.ts_core.proofs.moves.MovesStand.{key_not}
use Rattle.ts_store.specs.store.SizedStores.{IsSizedRule}

-- a cell that is missing has no raw facts
none_there : (mark : ℤ) (facts : List Fact) (x : RuleData) → IsSizedRule mark facts x → (k : Cell) → x.low ≤ℤ k.index → finmap.get x.cells k ≡ None → total_of x.rule k facts ≡ empty_aggregate
none_there mark facts x has k l g =
    let r : Rule = x.rule in
    let m : CellMap = x.cells in
    ap aggregate_of (no_members (filter (is_in_cell r k) facts) (λ f a.
    let t = and_parts (is_rolled r f) (same_cell (cell_of r f) k) (Among-filter_passes (is_in_cell r k) f facts a) in
    let at : cell_of r f ≡ k = same_cell-eq (cell_of r f) k t.1 in
    key_not m k (subst (λ y. Among y (finmap.keys m)) at (has.there f (Among-filter_was (is_in_cell r k) f facts a) t.0 (subst (λ (y : Cell). x.low ≤ℤ y.index) (sym at) l))) g))

live_grown : (mark : ℤ) (before after : List ColumnPoints) → facts_of after ≡ facts_of before → (made : List Fact) (x : RuleData) (n : CellMap) → GainsEmptyCells x.rule x.low made x.cells n → IsSizedRule mark (facts_of before) x → IsLive before x.rule x.cells → IsLive after x.rule n
live_grown mark before after same made x n capacity has a k p s =
    let r : Rule = x.rule in
    let low : ℤ = x.low in
    let m : CellMap = x.cells in
    let parts : or_else no_parts (finmap.get m k) ≡ p = sym (capacity.parts k) ∙ ap (or_else no_parts) s in
    let facts_same : total_of r k (facts_of before) ≡ total_of r k (facts_of after) = ap (total_of r k) (sym same) in
    elim (finmap.get m k) as (λ o. finmap.get m k ≡ o → or_else no_parts o ≡ p → p.live ≡ total_of r k (facts_of after)) [
      | None ↦ λ g e.
          let high : low ≤ℤ k.index = by_lt_z k.index low (λ l. absurd (none-some p (sym (capacity.above k l ∙ g) ∙ s))) (λ l. l) in
          ap (λ (y : CellParts). y.live) (sym e) ∙ sym (none_there mark (facts_of before) x has k high g) ∙ facts_same
      | Some q ↦ λ g e. ap (λ (y : CellParts). y.live) (sym e) ∙ a k q g ∙ facts_same
    ] refl parts

pub lives_grown : (mark : ℤ) (before after : List ColumnPoints) → facts_of after ≡ facts_of before → (made : List Fact) (rs ss : List RuleData) → GainEmptyCells made rs ss → AllByRecursion (IsSizedRule mark (facts_of before)) rs → AreLive before rs → AreLive after ss
lives_grown mark before after same made [] [] capacity has a = tt
lives_grown mark before after same made (x ∷ rs) (y ∷ ss) capacity has a = (
  subst (λ (r : Rule). IsLive after r y.cells) (sym capacity.0.0) (live_grown mark before after same made x y.cells capacity.0.2 has.0 a.0),
  lives_grown mark before after same made rs ss capacity.1 has.1 a.1,
)
lives_grown mark before after same made _ _ capacity has a = absurd capacity
