-- Points of a column, moved from the live to the frozen parts of cells bucket by bucket: the same as point by point.
use Rattle.std.proofs.Common.{◌≡◌, ℕ, ℤ, ◌+◌, ◌≤◌, ◌^◌, ◌<ℤ◌, ◌≤ℤ◌, ◌&&◌, Bool, true, false, cond, T, List, [], ◌∷◌, get_or, Some, None, is_some, refl, sym, ◌∙◌, ap, ap₂, subst, arith, true≢false, pos, Less, int_lt, length, map, set, option_map}
use Rattle.std.proofs.lemmas.Int.{ints}
use Rattle.std.specs.Ordering.{int_cmp}
use Rattle.std.specs.List.{slice_get, AllByRecursion}
use Rattle.std.specs.FinMap as finmap
use Rattle.std.specs.FinMap.{same_map, entries_sorted}
use Rattle.std.specs.FinMap.Entries.{below_all, is_sorted-where_key}
use Rattle.ts_core.specs.facts.Facts.{Column, Fact, same_text}
use Rattle.ts_core.specs.settings.Settings.{Rule}
use Rattle.ts_core.specs.store.Marks.{index_of}
use Rattle.ts_core.specs.aggregates.Aggregates.{Aggregate, empty_aggregate, merged, aggregate_of_one, merged_within, IsSound}
use Rattle.ts_core.specs.aggregates.MergeLaws.{aggregate_laws}
use Rattle.ts_core.specs.store.Cells.{Cell, same_cell, cell_of, is_in_cell, total_of}
use Rattle.ts_core.specs.lists.Changes.{changed, or_else, with_change}
use Rattle.ts_core.specs.store.TwoParts.{in_frozen, with_live}
use Rattle.ts_core.specs.store.StoreStates.{CellParts, fact_at, facts_at, facts_of, ColumnPoints, column_of}
use Rattle.ts_core.specs.store.StoreData.{CellMap, no_parts}
use Rattle.ts_core.specs.moves.StoreMoves.{frozen_points, refolded, refolded_points, moved_cells, points_below, kept_points}
use Rattle.ts_core.proofs.aggregates.BucketsOrder.{bucket_le}
use Rattle.ts_core.proofs.lists.Places.{both_of, less_of}
use Rattle.ts_core.proofs.moves.Freezing.{changed_here, changed_else, changed_none, changed_as}
use Rattle.ts_core.proofs.plans.PieceCells.{cells_total, exact_cells, same_cell-eq, same_cell-refl}
use Rattle.ts_cells.specs.Grids.{cell_at, Grid, no_rollup_series, cell_in}
use Rattle.ts_raw.specs.Columns.{PointMap, ColumnState, points_from}
use Rattle.ts_raw.specs.PlainColumns.{IsRising}
use Rattle.ts_store.specs.store.CellCounts.{frozen_count}
use Rattle.ts_store.specs.store.ColumnStates.{no_column, with_points, point_maps}
use Rattle.ts_store.specs.rollup.Rollups.{RollupState, IsRollupSeriesOf, rollup_series_at, rollup_series_under, with_grid_cells, live_part}
use Rattle.ts_store.specs.write.LivePuts.{IsOver}
use Rattle.ts_store.specs.retain.PointMoves.{column_below, MovesBucket, MayMove, MovesPoints}
use Rattle.ts_store.specs.retain.RollupSteps.{points_in_cell, FreezesFit, bucket_moved, HasLive, facts_left}
use Rattle.ts_store.proofs.write.CellsCreatedLemmas.{rollup_series_known}
use Rattle.ts_store.proofs.retain.BatchesLeft.{other_cell}
use Rattle.ts_store.proofs.retain.PointsFrozen.{changed_both, changed-twice, frozen_most, grid_kept_then, first_in}
use Rattle.ts_store.proofs.rollup.CellsCreated.{total-first}
use Rattle.std.proofs.lemmas.List.{length-map, map-set}
use Rattle.std.proofs.lemmas.Option.{none-some, same_Some, get_or_from_slice_get}
use Rattle.ts_core.specs.lists.Members.{Among, AllDistinct}
use Rattle.ts_core.specs.aggregates.Remainders.{IsOnlyRest}
use Rattle.ts_core.proofs.lists.NumberedLemmas.{at_among}
use Rattle.ts_core.proofs.moves.LiveWays.{left_total}
use Rattle.ts_store.specs.rollup.LivePoints.{rollup_series_total, left_state, left_states}
use Rattle.ts_store.proofs.store.ColumnsLemmas.{its_at}
use Rattle.ts_store.proofs.store.ColumnsLemmas.{names_of}
use Rattle.ts_store.proofs.write.StagedColumns.{points_at}
use Rattle.ts_store.proofs.rollup.RollupSeriesPoints.{left-length, cell_total}
use Rattle.ts_store.proofs.retain.RollupMoves.{columns_left}

-- ---- a bucket's points are moved at once

-- ---- a live part that is folded anew

maps_left : (mark : ℤ) (n : ℕ) (ss : List ColumnState) → point_maps (left_states mark n ss) ≡ set (point_maps ss) n (points_from (get_or (point_maps ss) n finmap.empty) mark)
maps_left mark n ss =
    map-set (λ (s : ColumnState). s.points) ss n (left_state mark (get_or ss n no_column))
    ∙ ap (λ (m : PointMap). set (point_maps ss) n (points_from m mark)) (sym (points_at ss n))

-- ---- a part that is moved from the live to the frozen part of its cell

module _ (r : Rule) (mark : ℤ) (cs : List Column) (c : Column) (ss : List ColumnState) (s : RollupState) (n l : ℕ) (index : ℤ) (over : IsOver r cs ss s) (at : slice_get cs n ≡ Some c) (series : rollup_series_at s n ≡ Some l) where
  abbrev its_cell : Cell
  its_cell = cell_at index (rollup_series_under r c)

  abbrev facts_still : List Fact
  facts_still = facts_left mark c cs ss

  abbrev below : List (ℤ × ℤ)
  below = points_below mark (finmap.entries (get_or ss n no_column).points)

  is : IsRollupSeriesOf r c s.grid.rollup_series (Some l)
  is = subst (IsRollupSeriesOf r c s.grid.rollup_series) series (rollup_series_known r s.grid.rollup_series cs s.series_of_column n c over.series at)

  maps : length (point_maps ss) ≡ length cs
  maps = length-map ss (λ (x : ColumnState). x.points) ∙ over.each

  key : cell_in s.grid.rollup_series index l ≡ its_cell
  key = ap (cell_at index) (get_or_from_slice_get s.grid.rollup_series l (rollup_series_under r c) no_rollup_series is.1)

  -- the rest, folded anew
  pub left_folded : (new : Aggregate) → AllDistinct s.grid.rollup_series → new ≡ rollup_series_total r s (left_states mark n ss) l index → new ≡ total_of r its_cell facts_still
  left_folded new once made =
      let each : length (left_states mark n ss) ≡ length cs = left-length mark n ss ∙ over.each in
      let columns : with_points cs (point_maps (left_states mark n ss)) ≡ map (kept_points c mark) (with_points cs (point_maps ss)) = ap (with_points cs) (maps_left mark n ss) ∙ columns_left c mark cs (point_maps ss) n over.once maps at in
      made ∙ cell_total r s its_cell l cs (left_states mark n ss) once is.1 each over.series ∙ ap (λ (xs : List ColumnPoints). total_of r its_cell (facts_of xs)) columns

  -- the rest, if the live part and the part that is removed determine it
  pub left_determined : (live part rest : Aggregate) → option_map live_part (finmap.get s.grid.cells (cell_in s.grid.rollup_series index l)) ≡ Some live → HasLive r its_cell (facts_of (with_points cs (point_maps ss))) s.grid.cells
      → part ≡ total_of r its_cell (facts_at c below) → IsOnlyRest IsSound merged live part rest → rest ≡ total_of r its_cell facts_still
  left_determined live part rest there has gone only =
      let before : List ColumnPoints = with_points cs (point_maps ss) in
      let whole : live ≡ total_of r its_cell (facts_of before) =
      elim (finmap.get s.grid.cells its_cell) as (λ o. finmap.get s.grid.cells its_cell ≡ o → option_map live_part o ≡ Some live → live ≡ total_of r its_cell (facts_of before)) [
        | None ↦ λ g e. absurd (none-some live e)
        | Some p ↦ λ g e. sym (same_Some p.live live e) ∙ has p g
      ] refl (ap (λ k. option_map live_part (finmap.get s.grid.cells k)) (sym key) ∙ there) in
      let once : AllDistinct (map column_of before) = subst (λ (xs : List Column). AllDistinct xs) (sym (names_of cs (point_maps ss) maps)) over.once in
      let its : Among (record { column = c; points = finmap.entries (get_or ss n no_column).points }) before = at_among before n _ (its_at cs ss n c (get_or ss n no_column) over.each at refl) in
      sym (left_total c mark before (finmap.entries (get_or ss n no_column).points) once its r its_cell rest
      (subst (λ x. IsOnlyRest IsSound merged x (total_of r its_cell (facts_at c below)) rest) whole (subst (λ x. IsOnlyRest IsSound merged live x rest) gone only)))

  -- the part is frozen, and the rest replaces the live part
  pub bucket_replaced : (part rest : Aggregate) (v : RollupState) (t u : Grid CellParts) → v ≡ s → t.rollup_series ≡ v.grid.rollup_series → t.cells ≡ changed v.grid.cells (cell_in v.grid.rollup_series index l) (in_frozen (merged_within part))
      → u.cells ≡ changed t.cells (cell_in t.rollup_series index l) (with_live rest) → rest ≡ total_of r its_cell facts_still → u.cells ≡ bucket_moved r its_cell part facts_still s.grid.cells
  bucket_replaced part rest v t u same kept frozen new total =
      let m : CellMap = changed s.grid.cells its_cell (in_frozen (merged_within part)) in
      let key' : cell_in v.grid.rollup_series index l ≡ its_cell = ap (λ (x : RollupState). cell_in x.grid.rollup_series index l) same ∙ key in
      let cells : t.cells ≡ m = frozen ∙ ap (λ k. changed v.grid.cells k (in_frozen (merged_within part))) key' ∙ ap (λ (x : RollupState). changed x.grid.cells its_cell (in_frozen (merged_within part))) same in
      new
      ∙ ap (λ k. changed t.cells k (with_live rest)) (ap (λ ls. cell_in ls index l) kept ∙ key')
      ∙ ap (λ (x : CellMap). changed x its_cell (with_live rest)) cells
      ∙ ap (λ a. changed m its_cell (with_live a)) total

  -- the cell is missing
  pub bucket_missing : (part : Aggregate) → option_map live_part (finmap.get s.grid.cells (cell_in s.grid.rollup_series index l)) ≡ None → s.grid.cells ≡ bucket_moved r its_cell part facts_still s.grid.cells
  bucket_missing part none =
      let gone : finmap.get s.grid.cells its_cell ≡ None =
      elim (finmap.get s.grid.cells its_cell) as (λ o. option_map live_part o ≡ None → o ≡ None) [
        | None ↦ λ e. refl
        | Some p ↦ λ e. absurd (none-some p.live (sym e))
      ] (ap (λ k. option_map live_part (finmap.get s.grid.cells k)) (sym key) ∙ none) in
      let same : changed s.grid.cells its_cell (in_frozen (merged_within part)) ≡ s.grid.cells = ap (with_change s.grid.cells its_cell (in_frozen (merged_within part))) gone in
      sym (ap (refolded r its_cell facts_still) same ∙ ap (with_change s.grid.cells its_cell (with_live (total_of r its_cell facts_still))) gone)

-- ---- changes of frozen and of live parts

changed_some : (m : CellMap) (k x : Cell) (f : CellParts → CellParts) (a : CellParts) → finmap.get m x ≡ Some a → finmap.get (changed m k f) x ≡ Some (cond (same_cell x k) (f a) a)
changed_some m k x f a e =
    elim (same_cell x k) as (λ b. same_cell x k ≡ b → finmap.get (changed m k f) x ≡ Some (cond b (f a) a)) [
      | true ↦ λ s. changed_here m k x f a s e
      | false ↦ λ s. changed_else m k x f s ∙ e
    ] refl

both_orders : (f g : CellParts → CellParts) → ((a : CellParts) → f (g a) ≡ g (f a)) → (a : CellParts) (b d : Bool) → cond b (f (cond d (g a) a)) (cond d (g a) a) ≡ cond d (g (cond b (f a) a)) (cond b (f a) a)
both_orders f g same a true true = same a
both_orders f g same a true false = refl
both_orders f g same a false true = refl
both_orders f g same a false false = refl

-- in any order
changed_swap : (m : CellMap) (q k : Cell) (f g : CellParts → CellParts) → ((a : CellParts) → f (g a) ≡ g (f a)) → changed (changed m k g) q f ≡ changed (changed m q f) k g
changed_swap m q k f g same =
    same_map cells_total exact_cells (changed (changed m k g) q f) (changed (changed m q f) k g) (λ x.
    elim (finmap.get m x) as (λ o. finmap.get m x ≡ o → finmap.get (changed (changed m k g) q f) x ≡ finmap.get (changed (changed m q f) k g) x) [
      | None ↦ λ e. changed_none (changed m k g) q x f (changed_none m k x g e) ∙ sym (changed_none (changed m q f) k x g (changed_none m q x f e))
      | Some a ↦ λ e.
          changed_some (changed m k g) q x f (cond (same_cell x k) (g a) a) (changed_some m k x g a e)
          ∙ ap Some (both_orders f g same a (same_cell x q) (same_cell x k))
          ∙ sym (changed_some (changed m q f) k x g (cond (same_cell x q) (f a) a) (changed_some m q x f a e))
    ] refl)

-- ---- points in the order of their buckets

-- no point is in a bucket before this one
abbrev pub AreFrom : Rule → ℤ → List (ℤ × ℤ) → Type 0
AreFrom r i ps = AllByRecursion (λ (p : ℤ × ℤ). i ≤ℤ index_of r p.0) ps

-- none is in a bucket before that of an earlier one
abbrev pub AreInOrder : Rule → List (ℤ × ℤ) → Type 0
AreInOrder r [] = Unit {0}
AreInOrder r (p ∷ ps) = AreFrom r (index_of r p.0) ps × AreInOrder r ps

less : (a b : ℤ) → int_cmp a b ≡ Less → a ≤ℤ b
less a b e = grind (arith, ints)

from_first : (r : Rule) (t : ℤ) (ps : List (ℤ × ℤ)) → pos 1 ≤ℤ r.interval → T (below_all int_cmp t ps) → AreFrom r (index_of r t) ps
from_first r t [] w b = tt
from_first r t (p ∷ ps) w b = let h = both_of _ _ b in (bucket_le t p.0 r.interval r.offset w (less t p.0 (less_of _ h.0)), from_first r t ps w h.1)

in_order : (r : Rule) (ps : List (ℤ × ℤ)) → pos 1 ≤ℤ r.interval → IsRising ps → AreInOrder r ps
in_order r [] w s = tt
in_order r (p ∷ ps) w s = let h = both_of _ _ s in (from_first r p.0 ps w h.0, in_order r ps w h.1)

below_in_order : (r : Rule) (mark : ℤ) (m : PointMap) → pos 1 ≤ℤ r.interval → AreInOrder r (points_below mark (finmap.entries m))
below_in_order r mark m w = in_order r (points_below mark (finmap.entries m)) w (is_sorted-where_key int_cmp (λ t. int_lt t mark) (finmap.entries m) (entries_sorted m))

-- ---- a column's points in a cell

module _ (r : Rule) (c : Column) where
  abbrev pub part_in : Cell → List (ℤ × ℤ) → Aggregate
  part_in k ps = total_of r k (facts_at c ps)

  part-here : (p : ℤ × ℤ) (ps : List (ℤ × ℤ)) (k : Cell) → same_text c.series.measurement r.measurement ≡ true → k ≡ cell_of r (fact_at c p) → part_in k (p ∷ ps) ≡ merged (aggregate_of_one p.0 p.1) (part_in k ps)
  part-here p ps k rolled is =
      let inside : is_in_cell r k (fact_at c p) ≡ true = ap₂ (λ x y. x && y) rolled (ap (same_cell (cell_of r (fact_at c p))) is ∙ same_cell-refl (cell_of r (fact_at c p))) in
      total-first r k (fact_at c p) (facts_at c ps) ∙ ap (λ b. merged (cond b (aggregate_of_one p.0 p.1) empty_aggregate) (part_in k ps)) inside

  part-else : (p : ℤ × ℤ) (ps : List (ℤ × ℤ)) (k : Cell) → (index_of r p.0 ≡ k.index → ⊥) → part_in k (p ∷ ps) ≡ part_in k ps
  part-else p ps k apart =
      let q : Cell = cell_of r (fact_at c p) in
      let rolls : Bool = same_text c.series.measurement r.measurement in
      let outside : is_in_cell r k (fact_at c p) ≡ false =
      elim (same_cell q k) as (λ b. same_cell q k ≡ b → rolls && b ≡ false) [
        | true ↦ λ e. absurd (apart (ap (λ (x : Cell). x.index) (same_cell-eq q k e)))
        | false ↦ λ e. elim rolls as (λ b. b && false ≡ false) [ true ↦ refl | false ↦ refl ]
      ] refl in
      total-first r k (fact_at c p) (facts_at c ps) ∙ ap (λ b. merged (cond b (aggregate_of_one p.0 p.1) empty_aggregate) (part_in k ps)) outside ∙ aggregate_laws.unit (part_in k ps)

  -- none of a later bucket is in it
  part-none : (ps : List (ℤ × ℤ)) (k : Cell) (i : ℤ) → k.index <ℤ i → AreFrom r i ps → part_in k ps ≡ empty_aggregate
  part-none [] k i l a = refl
  part-none (p ∷ ps) k i l a = part-else p ps k (λ e. let h = a.0 in let d = e in omega (arith, ints)) ∙ part-none ps k i l a.1

-- ---- point by point

module _ (r : Rule) (c : Column) (facts : List Fact) where
  abbrev pub points_moved : List (ℤ × ℤ) → CellMap → CellMap
  points_moved ps m = refolded_points r c ps facts (frozen_points r c ps m)

  refolded-frozen : (k : Cell) (ps : List (ℤ × ℤ)) (m : CellMap) → frozen_points r c ps (refolded r k facts m) ≡ refolded r k facts (frozen_points r c ps m)
  refolded-frozen k [] m = refl
  refolded-frozen k (p ∷ ps) m =
      let q : Cell = cell_of r (fact_at c p) in
      let f : CellParts → CellParts = in_frozen (merged_within (aggregate_of_one p.0 p.1)) in
      ap (frozen_points r c ps) (changed_swap m q k f (with_live (total_of r k facts)) (λ a. refl)) ∙ refolded-frozen k ps (changed m q f)

  -- the first point is moved alone
  points_moved-first : (p : ℤ × ℤ) (ps : List (ℤ × ℤ)) (m : CellMap) → points_moved (p ∷ ps) m ≡ points_moved ps (bucket_moved r (cell_of r (fact_at c p)) (aggregate_of_one p.0 p.1) facts m)
  points_moved-first p ps m =
      let q : Cell = cell_of r (fact_at c p) in
      ap (refolded_points r c ps facts) (sym (refolded-frozen q ps (changed m q (in_frozen (merged_within (aggregate_of_one p.0 p.1))))))

  -- two parts of a cell, one after another
  bucket_moved-twice : (q : Cell) (part one : Aggregate) (m : CellMap) → frozen_count m q + part.count + one.count ≤ 2 ^ 62 → bucket_moved r q one facts (bucket_moved r q part facts m) ≡ bucket_moved r q (merged part one) facts m
  bucket_moved-twice q part one m few =
      let n : CellMap = changed m q (in_frozen (merged_within part)) in
      ap (refolded r q facts) (changed_swap n q q (in_frozen (merged_within one)) (with_live (total_of r q facts)) (λ a. refl))
      ∙ changed_both (changed n q (in_frozen (merged_within one))) q (with_live (total_of r q facts)) (with_live (total_of r q facts))
      ∙ ap (refolded r q facts) (changed-twice m q part one few)

  bucket_moved-else : (q k : Cell) (part : Aggregate) (m : CellMap) → same_cell k q ≡ false → finmap.get (bucket_moved r q part facts m) k ≡ finmap.get m k
  bucket_moved-else q k part m e =
      changed_else (changed m q (in_frozen (merged_within part))) q k (with_live (total_of r q facts)) e ∙ changed_else m q k (in_frozen (merged_within part)) e

  bucket_moved-count : (q k : Cell) (part : Aggregate) (m : CellMap) → frozen_count (bucket_moved r q part facts m) k ≡ frozen_count (changed m q (in_frozen (merged_within part))) k
  bucket_moved-count q k part m =
      changed_as (λ o. (or_else no_parts o).frozen.count) (with_live (total_of r q facts)) (λ a. refl) (changed m q (in_frozen (merged_within part))) q k

-- ---- bucket by bucket: the points of the last bucket are folded and not yet moved

module _ (r : Rule) (c : Column) (facts whole : List Fact) (all : List (ℤ × ℤ)) (before : CellMap) where
  abbrev cell_in_bucket : ℤ → Cell
  cell_in_bucket i = cell_at i (rollup_series_under r c)

  -- the points left have the same result, and fit; they are in the order of their buckets, none before the last one; the
  -- folded ones are the first in their bucket, and cells from there on have their live parts still
  pub record IsMoving (left : List (ℤ × ℤ)) (m : CellMap) (bucket : ℤ) (part : Aggregate) : Type 0 where
    pub same : points_moved r c facts left (bucket_moved r (cell_in_bucket bucket) part facts m) ≡ points_moved r c facts all before
    pub fit : (k : Cell) → frozen_count m k + cond (same_cell k (cell_in_bucket bucket)) part.count 0 + points_in_cell r c k left ≤ 2 ^ 62
    pub order : AreInOrder r left
    pub from : AreFrom r bucket left
    pub run : merged part (part_in r c (cell_in_bucket bucket) left) ≡ part_in r c (cell_in_bucket bucket) all
    pub later : (k : Cell) → bucket <ℤ k.index → part_in r c k left ≡ part_in r c k all
    pub live : (k : Cell) (p : CellParts) → bucket ≤ℤ k.index → finmap.get m k ≡ Some p → p.live ≡ total_of r k whole

  moving-as : (left : List (ℤ × ℤ)) (m m' : CellMap) (i i' : ℤ) (part part' : Aggregate) → m' ≡ m → i' ≡ i → part' ≡ part → IsMoving left m i part → IsMoving left m' i' part'
  moving-as left m m' i i' part part' d e f h =
      subst (λ (x : CellMap). IsMoving left x i' part') (sym d) (subst (λ (x : ℤ). IsMoving left m x part') (sym e) (subst (IsMoving left m i) (sym f) h))

  moving-live : (left : List (ℤ × ℤ)) (m : CellMap) (bucket : ℤ) (part : Aggregate) → IsMoving left m bucket part → HasLive r (cell_in_bucket bucket) whole m
  moving-live left m bucket part h = λ a g. h.live (cell_in_bucket bucket) a (omega (arith, ints)) g

  -- a part counts in its cell alone
  count_here : (b : Bool) (one : Aggregate) (n k rest : ℕ) → one.count ≡ 1 → rest ≡ cond b 1 0 + k → n + rest ≤ 2 ^ 62 → n + cond b one.count 0 + k ≤ 2 ^ 62
  count_here true one n k rest o e h = omega (arith, o, e, h)
  count_here false one n k rest o e h = omega (arith, o, e, h)

  module _ (rolled : same_text c.series.measurement r.measurement ≡ true) where
    -- no point is folded before the first one
    moving-first : (p : ℤ × ℤ) (left : List (ℤ × ℤ)) → all ≡ p ∷ left → AreInOrder r all → FreezesFit r c all before → ((k : Cell) → HasLive r k whole before) → IsMoving left before (index_of r p.0) (aggregate_of_one p.0 p.1)
    moving-first p left e order fit live =
        let q : Cell = cell_of r (fact_at c p) in
        let one : Aggregate = aggregate_of_one p.0 p.1 in
        let order' : AreInOrder r (p ∷ left) = subst (AreInOrder r) e order in
        record {
          same = sym (points_moved-first r c facts p left before) ∙ ap (λ ps. points_moved r c facts ps before) (sym e);
          fit = λ k. count_here (same_cell k q) one (frozen_count before k) (points_in_cell r c k left) (points_in_cell r c k all) refl (ap (points_in_cell r c k) e ∙ first_in r c k p left rolled) (fit k);
          order = order'.1;
          from = order'.0;
          run = sym (part-here r c p left q rolled refl) ∙ ap (part_in r c q) (sym e);
          later = λ k l. sym (part-else r c p left k (λ same. let d = same in omega (arith, ints))) ∙ ap (part_in r c k) (sym e);
          live = λ k a l g. live k a g;
        }

    -- one more of the same bucket
    moving-more : (p : ℤ × ℤ) (left : List (ℤ × ℤ)) (m : CellMap) (bucket : ℤ) (part : Aggregate) → bucket ≡ index_of r p.0 → IsMoving (p ∷ left) m bucket part → IsMoving left m bucket (merged part (aggregate_of_one p.0 p.1))
    moving-more p left m bucket part e h =
        let q : Cell = cell_in_bucket bucket in
        let one : Aggregate = aggregate_of_one p.0 p.1 in
        let is : cell_of r (fact_at c p) ≡ q = ap cell_in_bucket (sym e) in
        let few : (k : Cell) → frozen_count m k + cond (same_cell k q) part.count 0 + cond (same_cell k q) 1 0 + points_in_cell r c k left ≤ 2 ^ 62 =
        λ k. let f = h.fit k in let i = first_in r c k p left rolled ∙ ap (λ (z : Cell). cond (same_cell k z) 1 0 + points_in_cell r c k left) is in omega arith in
        let here : frozen_count m q + part.count + one.count ≤ 2 ^ 62 =
        let f = few q in
        let b : cond (same_cell q q) part.count 0 ≡ part.count = ap (λ b. cond b part.count 0) (same_cell-refl q) in
        let d : cond {A = ℕ} (same_cell q q) 1 0 ≡ 1 = ap (λ b. cond {A = ℕ} b 1 0) (same_cell-refl q) in
        omega arith in
        record {
          same = ap (points_moved r c facts left) (sym (bucket_moved-twice r c facts q part one m here) ∙ ap (λ (z : Cell). bucket_moved r z one facts (bucket_moved r q part facts m)) (sym is))
              ∙ sym (points_moved-first r c facts p left (bucket_moved r q part facts m)) ∙ h.same;
          fit = λ k. elim (same_cell k q) as (λ b. frozen_count m k + cond b part.count 0 + cond b 1 0 + points_in_cell r c k left ≤ 2 ^ 62 → frozen_count m k + cond b (part.count + 1) 0 + points_in_cell r c k left ≤ 2 ^ 62) [
            | true ↦ λ f. omega arith
            | false ↦ λ f. omega arith
          ] (few k);
          order = h.order.1;
          from = h.from.1;
          run = aggregate_laws.assoc part one (part_in r c q left) ∙ ap (merged part) (sym (part-here r c p left q rolled (sym is))) ∙ h.run;
          later = λ k l. sym (part-else r c p left k (λ same. let d = same in let i = e in omega (arith, ints))) ∙ h.later k l;
          live = h.live;
        }

    -- the first of another bucket, after the last bucket is moved
    moving-next : (p : ℤ × ℤ) (left : List (ℤ × ℤ)) (m : CellMap) (bucket : ℤ) (part : Aggregate) → (bucket ≡ index_of r p.0 → ⊥) → IsMoving (p ∷ left) m bucket part
        → IsMoving left (bucket_moved r (cell_in_bucket bucket) part facts m) (index_of r p.0) (aggregate_of_one p.0 p.1)
    moving-next p left m bucket part apart h =
        let q : Cell = cell_in_bucket bucket in
        let z : Cell = cell_of r (fact_at c p) in
        let one : Aggregate = aggregate_of_one p.0 p.1 in
        let n : CellMap = bucket_moved r q part facts m in
        let after : bucket <ℤ index_of r p.0 = let l = h.from.0 in omega (arith, ints) in
        record {
          same = sym (points_moved-first r c facts p left n) ∙ h.same;
          fit = λ k. count_here (same_cell k z) one (frozen_count n k) (points_in_cell r c k left) (points_in_cell r c k (p ∷ left)) refl (first_in r c k p left rolled)
              (let f = h.fit k in let most = frozen_most m q part k in let count = bucket_moved-count r c facts q k part m in omega arith);
          order = h.order.1;
          from = h.order.0;
          run = sym (part-here r c p left z rolled refl) ∙ h.later z after;
          later = λ k l. sym (part-else r c p left k (λ same. let d = same in omega (arith, ints))) ∙ h.later k (omega (arith, ints));
          live = λ k a l g.
              let other = other_cell k q (λ same. let i : k.index ≡ bucket = ap (λ (x : Cell). x.index) same in omega (arith, ints)) in
              h.live k a (omega (arith, ints)) (sym (bucket_moved-else r c facts q k part m other) ∙ g);
        }

  -- the bucket is complete: the fold is that of all its points
  moving-part : (p : ℤ × ℤ) (left : List (ℤ × ℤ)) (m : CellMap) (bucket : ℤ) (part : Aggregate) → (bucket ≡ index_of r p.0 → ⊥) → IsMoving (p ∷ left) m bucket part → part ≡ part_in r c (cell_in_bucket bucket) all
  moving-part p left m bucket part apart h =
      let q : Cell = cell_in_bucket bucket in
      let after : bucket <ℤ index_of r p.0 = let l = h.from.0 in omega (arith, ints) in
      let none : part_in r c q (p ∷ left) ≡ empty_aggregate = part-else r c p left q (λ same. apart (sym same)) ∙ part-none r c left q (index_of r p.0) after h.order.0 in
      sym (aggregate_laws.comm part empty_aggregate ∙ aggregate_laws.unit part) ∙ ap (merged part) (sym none) ∙ h.run

  moving-last : (m : CellMap) (bucket : ℤ) (part : Aggregate) → IsMoving [] m bucket part → part ≡ part_in r c (cell_in_bucket bucket) all
  moving-last m bucket part h = sym (aggregate_laws.comm part empty_aggregate ∙ aggregate_laws.unit part) ∙ h.run

-- ---- under the rollup series of a column, which stay

module _ (r : Rule) (mark : ℤ) (cs : List Column) (c : Column) (ss : List ColumnState) (s : RollupState) (n : ℕ) (over : IsOver r cs ss s) (at : slice_get cs n ≡ Some c) (rolls : is_some (rollup_series_at s n) ≡ true) where
  abbrev its_points : List (ℤ × ℤ)
  its_points = points_below mark (finmap.entries (get_or ss n no_column).points)

  abbrev raw_facts : List Fact
  raw_facts = facts_of (with_points cs (point_maps ss))

  its_series : (l : ℕ) × (rollup_series_at s n ≡ Some l) × (same_text c.series.measurement r.measurement ≡ true)
  its_series =
      elim (rollup_series_at s n) as (λ o. is_some o ≡ true → IsRollupSeriesOf r c s.grid.rollup_series o → (l : ℕ) × (o ≡ Some l) × (same_text c.series.measurement r.measurement ≡ true)) [
        | None ↦ λ k h. absurd (true≢false (sym k))
        | Some l ↦ λ k h. (l, refl, h.0)
      ] rolls (rollup_series_known r s.grid.rollup_series cs s.series_of_column n c over.series at)

  its_rolled : same_text c.series.measurement r.measurement ≡ true
  its_rolled = its_series.2

  -- the cells after a bucket is moved, by what the call says
  bucket_cells : (t u : RollupState) (i : ℤ) (part : Aggregate) → t ≡ with_grid_cells t.grid.cells s → HasLive r (cell_at i (rollup_series_under r c)) raw_facts t.grid.cells
      → part ≡ total_of r (cell_at i (rollup_series_under r c)) (facts_at c its_points) → MovesBucket r ss n mark i part t u
      → u.grid.cells ≡ bucket_moved r (cell_at i (rollup_series_under r c)) part (facts_left mark c cs ss) t.grid.cells
  bucket_cells t u i part kept live total moved = moved cs c (record {
    rolled = (its_series.0, ap (λ (x : RollupState). rollup_series_at x n) kept ∙ its_series.1);
    over = subst (λ (x : RollupState). IsOver r cs ss x) (sym kept) (record { each = over.each; once = over.once; series = over.series });
    at = at;
    live = live;
    total = total;
  })

  -- all points are moved
  all_points_moved : (u : RollupState) → u ≡ with_grid_cells u.grid.cells s → u.grid.cells ≡ points_moved r c (facts_left mark c cs ss) its_points s.grid.cells → u ≡ with_grid_cells (moved_cells r c its_points (facts_left mark c cs ss) s.grid.cells) s
  all_points_moved u kept cells =
      kept ∙ ap (λ (m : CellMap). with_grid_cells m s) (cells ∙ sym (ap (λ b. cond b (points_moved r c (facts_left mark c cs ss) its_points s.grid.cells) s.grid.cells) its_rolled))

-- ---- the loop over a column's points

-- whatever the columns' names are
abbrev pub AreMoving : Rule → ℤ → ℕ → List ColumnState → RollupState → List (ℤ × ℤ) → CellMap → ℤ → Aggregate → Type 0
AreMoving r mark n ss s left m bucket part =
    (cs : List Column) (c : Column) → MayMove (r ∷ []) cs ss n mark (s ∷ []) c → IsMoving r c (facts_left mark c cs ss) (facts_of (with_points cs (point_maps ss))) (column_below mark n ss) s.grid.cells left m bucket part

module _ (r : Rule) (mark : ℤ) (n : ℕ) (ss : List ColumnState) (s : RollupState) (rolls : is_some (rollup_series_at s n) ≡ true) where
  its_over : (cs : List Column) (c : Column) → MayMove (r ∷ []) cs ss n mark (s ∷ []) c → IsOver r cs ss s
  its_over cs c may = record { each = may.over.each; once = may.over.once; series = may.over.rollups.0 }

  is_rolled : (cs : List Column) (c : Column) → MayMove (r ∷ []) cs ss n mark (s ∷ []) c → same_text c.series.measurement r.measurement ≡ true
  is_rolled cs c may = its_rolled r mark cs c ss s n (its_over cs c may) may.at rolls

  pub none_moving : column_below mark n ss ≡ [] → MovesPoints (r ∷ []) ss n mark (s ∷ []) (s ∷ [])
  none_moving none = λ cs c may.
      ap (λ (t : RollupState). t ∷ []) (all_points_moved r mark cs c ss s n (its_over cs c may) may.at rolls s refl (ap (λ ps. points_moved r c (facts_left mark c cs ss) ps s.grid.cells) (sym none)))

  pub first_moving : (p : ℤ × ℤ) (left : List (ℤ × ℤ)) (i : ℤ) (part : Aggregate) → pos 1 ≤ℤ r.interval → column_below mark n ss ≡ p ∷ left → i ≡ index_of r p.0 → part ≡ aggregate_of_one p.0 p.1 → AreMoving r mark n ss s left s.grid.cells i part
  first_moving p left i part long points e f = λ cs c may.
      moving-as _ _ _ _ _ _ left _ _ _ i _ part refl e f (moving-first _ _ _ _ _ _ (is_rolled cs c may) p left points (below_in_order r mark (get_or ss n no_column).points long) may.fit.0 may.over.live.0)

  module _ (p : ℤ × ℤ) (ahead left : List (ℤ × ℤ)) (t : RollupState) (bucket : ℤ) (part part' : Aggregate) (is : ahead ≡ p ∷ left) (moving : AreMoving r mark n ss s ahead t.grid.cells bucket part) where
    moving_on : AreMoving r mark n ss s (p ∷ left) t.grid.cells bucket part
    moving_on = subst (λ ps. AreMoving r mark n ss s ps t.grid.cells bucket part) is moving

    pub more_moving : bucket ≡ index_of r p.0 → part' ≡ merged part (aggregate_of_one p.0 p.1) → AreMoving r mark n ss s left t.grid.cells bucket part'
    more_moving e f = λ cs c may. moving-as _ _ _ _ _ _ left _ _ bucket _ _ part' refl refl f (moving-more _ _ _ _ _ _ (is_rolled cs c may) p left _ bucket part e (moving_on cs c may))

    pub next_moving : (u : RollupState) (i : ℤ) → (bucket ≡ index_of r p.0 → ⊥) → i ≡ index_of r p.0 → part' ≡ aggregate_of_one p.0 p.1 → t ≡ with_grid_cells t.grid.cells s → MovesBucket r ss n mark bucket part t u → AreMoving r mark n ss s left u.grid.cells i part'
    next_moving u i apart e f kept moved = λ cs c may.
        let h = moving_on cs c may in
        let cells = bucket_cells r mark cs c ss s n (its_over cs c may) may.at rolls t u bucket part kept (moving-live _ _ _ _ _ _ _ _ bucket part h) (moving-part _ _ _ _ _ _ p left _ bucket part apart h) moved in
        moving-as _ _ _ _ _ _ left _ u.grid.cells _ i _ part' cells e f (moving-next _ _ _ _ _ _ (is_rolled cs c may) p left _ bucket part apart h)

  pub all_moving : (left : List (ℤ × ℤ)) (t u : RollupState) (bucket : ℤ) (part : Aggregate) → left ≡ [] → t ≡ with_grid_cells t.grid.cells s → u ≡ with_grid_cells u.grid.cells t → MovesBucket r ss n mark bucket part t u → AreMoving r mark n ss s left t.grid.cells bucket part
      → MovesPoints (r ∷ []) ss n mark (s ∷ []) (u ∷ [])
  all_moving left t u bucket part is kept last moved moving = λ cs c may.
      let at_end : AreMoving r mark n ss s [] t.grid.cells bucket part = subst (λ ps. AreMoving r mark n ss s ps t.grid.cells bucket part) is moving in
      let h = at_end cs c may in
      let cells = bucket_cells r mark cs c ss s n (its_over cs c may) may.at rolls t u bucket part kept (moving-live _ _ _ _ _ _ _ _ bucket part h) (moving-last _ _ _ _ _ _ _ bucket part h) moved in
      ap (λ (v : RollupState). v ∷ []) (all_points_moved r mark cs c ss s n (its_over cs c may) may.at rolls u (grid_kept_then s t u u.grid.cells kept last) (cells ∙ h.same))
