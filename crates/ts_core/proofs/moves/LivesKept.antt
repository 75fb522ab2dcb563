-- The live part of each existing cell as the fold of its raw facts, after each transition.
use Rattle.std.proofs.Common.{◌≡◌, ℤ, ◌≤ℤ◌, true, false, List, [], ◌∷◌, filter, map, refl, sym, ◌∙◌, ap, subst, Some, None}
use Rattle.std.specs.List.{AllByRecursion}
use Rattle.std.specs.FinMap as finmap
use Rattle.std.specs.FinMap.{get-empty}
use Rattle.std.proofs.lemmas.Bool.{and_parts}
use Rattle.std.proofs.lemmas.Int.{by_lt_z}
use Rattle.std.proofs.lemmas.Option.{none-some}
use Rattle.ts_core.specs.lists.Members.{Among, AllDistinct}
use Rattle.ts_core.specs.facts.Facts.{Column, Fact}
use Rattle.ts_core.specs.settings.Settings.{Rule, Settings}
use Rattle.ts_core.specs.store.History.{History}
use Rattle.ts_core.specs.facts.Latest.{latest_of}
use Rattle.ts_core.specs.aggregates.Aggregates.{empty_aggregate, aggregate_of}
use Rattle.ts_core.specs.store.RawFacts.{kept_from}
use Rattle.ts_core.specs.store.Cells.{Cell, cell_cmp, same_cell, cell_of, is_rolled, is_in_cell, total_of}
use Rattle.ts_core.specs.lists.Changes.{or_else}
use Rattle.ts_core.specs.store.StoreStates.{ColumnPoints, CellParts, StandsFor, HasCells, column_of, facts_of}
use Rattle.ts_core.specs.store.StoreData.{CellMap, RuleData, StoreData, no_parts, rule_cells, state_of, new_data, IsLive, AreLive}
use Rattle.ts_core.specs.moves.StoreMoves.{in_cells, moved_cells, all_moved, points_below, IsOf, AreOf, GainsEmptyCells, GainEmptyCells, put_cell, put_cells, PutsFact, PutsFacts}
use Rattle.ts_core.proofs.lists.MembersLemmas.{no_members, Among-filter_was, Among-filter_passes}
use Rattle.ts_core.proofs.plans.PieceCells.{same_cell-eq}
use Rattle.ts_core.proofs.store.Cuts.{Holds}
use Rattle.ts_core.proofs.store.Moves.{left_points}
use Rattle.ts_core.proofs.store.StateLemmas.{all_map, all_of_map, StandsFor-Holds}
use Rattle.ts_core.proofs.moves.Freezing.{live_in}
use Rattle.ts_core.proofs.moves.StepStands.{live_moved, keys_column}
use Rattle.ts_core.proofs.moves.MovesStand.{key_there, key_not, GainsOf, put_here, put_else, put_cell-keys, elsewhere}
use Rattle.ts_core.proofs.moves.EachRule.{rules_keep}

-- the live parts of a rule's cells are those of the raw facts
abbrev live : List ColumnPoints → RuleData → Type 0
live columns a = IsLive columns a.rule a.cells

pub no_live : (columns : List ColumnPoints) (rs : List Rule) → AreLive columns (new_data (record { raw_duration = 0; rules = rs })).rules
no_live columns [] = tt
no_live columns (r ∷ rs) = (λ k p e. absurd (none-some p (sym (get-empty cell_cmp k) ∙ e)), no_live columns rs)

-- cells that go
pub lives_go : (columns : List ColumnPoints) (rs ss : List RuleData) → AreOf rs ss → AreLive columns rs → AreLive columns ss
lives_go columns rs ss e a = rules_keep (λ r low. IsOf) (live columns) (live columns) (λ x n c l k p s. l k p (c k p s)) rs ss e a

-- a cell that is in one of two maps with the same keys
some_of : (m n : CellMap) (k : Cell) (p : CellParts) → finmap.keys n ≡ finmap.keys m → finmap.get n k ≡ Some p → (a : CellParts) × (finmap.get m k ≡ Some a)
some_of m n k p e s =
    elim (finmap.get m k) as (λ o. finmap.get m k ≡ o → (a : CellParts) × (o ≡ Some a)) [
      | None ↦ λ g. absurd (key_not m k (subst (Among k) e (key_there n k (λ z. none-some p (sym z ∙ s)))) g)
      | Some a ↦ λ g. (a, refl)
    ] refl

module _ (c : Column) (mark : ℤ) (before : List ColumnPoints) (ps : List (ℤ × ℤ)) (once : AllDistinct (map column_of before)) (there : Among (record { column = c; points = ps }) before) where
  abbrev left_columns : List ColumnPoints
  left_columns = map (left_points c mark) before

  live_left : (r : Rule) (m : CellMap) → IsLive before r m → IsLive left_columns r (moved_cells r c (points_below mark ps) (facts_of left_columns) m)
  live_left r m a k p s =
      let was = some_of m (moved_cells r c (points_below mark ps) (facts_of left_columns) m) k p (keys_column r c (points_below mark ps) (facts_of left_columns) m) s in
      ap live_in (sym s) ∙ live_moved c mark before ps once there r k m (ap live_in was.1 ∙ a k was.0 was.1) (λ q b t i n. none-some was.0 (sym n ∙ was.1))

  -- a column is moved
  pub lives_left : (rs : List RuleData) → AreLive before rs → AreLive left_columns (all_moved c (points_below mark ps) (facts_of left_columns) rs)
  lives_left rs a = all_map (live before) (live left_columns) (in_cells (λ (r : Rule). moved_cells r c (points_below mark ps) (facts_of left_columns))) (λ x. live_left x.rule x.cells) rs a

-- ---- room

-- a cell that isn't there has no raw facts
none_there : (cut : Column → ℤ) (fs held : List Fact) → Holds cut fs held → (x : RuleData) → HasCells cut fs (rule_cells x) → (k : Cell) → x.low ≤ℤ k.index → finmap.get x.cells k ≡ None → total_of x.rule k held ≡ empty_aggregate
none_there cut fs held holds x has k l g =
    let r : Rule = x.rule in
    let m : CellMap = x.cells in
    ap aggregate_of (no_members (filter (is_in_cell r k) held) (λ f a.
    let t = and_parts (is_rolled r f) (same_cell (cell_of r f) k) (Among-filter_passes (is_in_cell r k) f held a) in
    let at : cell_of r f ≡ k = same_cell-eq (cell_of r f) k t.1 in
    let cell : Among (cell_of r f) (finmap.keys m) = has.there f (holds.only f (Among-filter_was (is_in_cell r k) f held a)).0 t.0 (subst (λ (y : Cell). x.low ≤ℤ y.index) (sym at) l) in
    key_not m k (subst (λ y. Among y (finmap.keys m)) at cell) g))

live_grown : (cut : Column → ℤ) (fs : List Fact) (before after : List ColumnPoints) → facts_of after ≡ facts_of before → Holds cut fs (facts_of before) → (facts : List Fact) (x : RuleData) (n : CellMap) → GainsEmptyCells x.rule x.low facts x.cells n
    → HasCells cut fs (rule_cells x) → IsLive before x.rule x.cells → IsLive after x.rule n
live_grown cut fs before after same holds facts x n spare has a k p s =
    let r : Rule = x.rule in
    let m : CellMap = x.cells in
    let parts : or_else no_parts (finmap.get m k) ≡ p = sym (spare.parts k) ∙ ap (or_else no_parts) s in
    let facts_same : total_of r k (facts_of before) ≡ total_of r k (facts_of after) = ap (total_of r k) (sym same) in
    elim (finmap.get m k) as (λ o. finmap.get m k ≡ o → or_else no_parts o ≡ p → p.live ≡ total_of r k (facts_of after)) [
      | None ↦ λ g e.
          let high : x.low ≤ℤ k.index = by_lt_z k.index x.low (λ l. absurd (none-some p (sym (spare.above k l ∙ g) ∙ s))) (λ l. l) in
          ap (λ (y : CellParts). y.live) (sym e) ∙ sym (none_there cut fs (facts_of before) holds x has k high g) ∙ facts_same
      | Some q ↦ λ g e. ap (λ (y : CellParts). y.live) (sym e) ∙ a k q g ∙ facts_same
    ] refl parts

-- cells are created, without raw facts
pub lives_grow : (opening : Settings) (h : History) (k : StoreData) (columns : List ColumnPoints) (rs : List RuleData) (facts : List Fact) → StandsFor opening h (state_of k) → facts_of columns ≡ facts_of k.columns
    → GainEmptyCells facts k.rules rs → AreLive k.columns k.rules → AreLive columns rs
lives_grow opening h k columns rs facts st same spare a =
    let cut : Column → ℤ = kept_from opening h k.waiting in
    let P : RuleData → Type 0 = λ x. HasCells cut (latest_of h) (rule_cells x) in
    let Q : RuleData → Type 0 = λ x. P x × live k.columns x in
    rules_keep (GainsOf facts) Q (live columns) (λ x n spare b. live_grown cut (latest_of h) k.columns columns same (StandsFor-Holds opening h (state_of k) st) facts x n spare b.0 b.1) k.rules rs spare
    (both P (live k.columns) k.rules (all_of_map P (HasCells cut (latest_of h)) rule_cells (λ x b. b) k.rules st.rolled) a)
  where
    both : (P Q : RuleData → Type 0) (xs : List RuleData) → AllByRecursion P xs → AllByRecursion Q xs → AllByRecursion (λ x. P x × Q x) xs
    both P Q [] a b = tt
    both P Q (x ∷ xs) a b = ((a.0, b.0), both P Q xs a.1 b.1)

-- ---- facts are put

pub live_put : (before after : List ColumnPoints) (f : Fact) → AllDistinct (facts_of before) → PutsFact before after f → (r : Rule) (m : CellMap) → IsLive before r m → IsLive after r (put_cell r f (facts_of after) m)
live_put before after f d p r m a k q s =
    let was = some_of m (put_cell r f (facts_of after) m) k q (put_cell-keys r f (facts_of after) m) s in
    elim (is_in_cell r k f) as (λ b. is_in_cell r k f ≡ b → q.live ≡ total_of r k (facts_of after)) [
      | true ↦ λ t.
          let i = and_parts (is_rolled r f) (same_cell (cell_of r f) k) t in
          ap live_in (sym s) ∙ put_here r f (facts_of after) m k (λ z. none-some was.0 (sym (ap (finmap.get m) (sym (same_cell-eq (cell_of r f) k i.1)) ∙ z) ∙ was.1)) t
      | false ↦ λ t. a k q (sym (put_else r f (facts_of after) m k t) ∙ s) ∙ sym (elsewhere before after f d p r k t)
    ] refl

-- a line is put
pub lives_line : (fs : List Fact) (before after : List ColumnPoints) (rs ss : List RuleData) → AllDistinct (facts_of before) → PutsFacts before rs after ss fs → AreLive before rs → AreLive after ss
lives_line [] before after rs ss d p a = subst (λ cs. AreLive cs ss) (sym p.0) (subst (AreLive before) (sym p.1) a)
lives_line (f ∷ fs) before after rs ss d p a =
    lives_line fs p.0 after (put_cells f (facts_of p.0) rs) ss p.1.1.once p.2
    (all_map (live before) (live p.0) (in_cells (λ (r : Rule). put_cell r f (facts_of p.0))) (λ x. live_put before p.0 f d p.1 x.rule x.cells) rs a)
