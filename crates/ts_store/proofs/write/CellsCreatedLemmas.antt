-- The cells of facts, created column after column.
use Rattle.std.proofs.Common.{inr, rules, ◌≡◌, ◌≤ℤ◌, ◌<ℤ◌, int_lt, ℕ, zero, suc, ℤ, true, false, cond, List, [], ◌∷◌, ◌++◌, ◌+◌, ◌<◌, length, take, get_or, Option, Some, None, refl, sym, ◌∙◌, ap, subst, inl, ⊎_elim, true≢false, arith}
use Rattle.std.specs.FinMap as finmap
use Rattle.std.specs.List.{slice_get}
use Rattle.std.proofs.lemmas.List.{take_more, take_all}
use Rattle.std.proofs.lemmas.Option.{get_or_from_slice_get, none-some, same_Some}
use Rattle.ts_core.specs.facts.Facts.{Column, Fact}
use Rattle.ts_core.specs.lists.Members.{Among}
use Rattle.ts_core.specs.settings.Settings.{Rule}
use Rattle.ts_core.specs.store.Marks.{index_of}
use Rattle.ts_core.specs.store.Cells.{Cell, cell_of, is_rolled, same_cell}
use Rattle.ts_core.specs.lists.Changes.{or_else}
use Rattle.ts_core.specs.store.StoreStates.{CellParts}
use Rattle.ts_core.specs.store.StoreData.{CellMap, RuleData, no_parts}
use Rattle.ts_core.specs.moves.StoreMoves.{GainsEmptyCells, GainEmptyCells}
use Rattle.std.proofs.lemmas.Int.{ints}
use Rattle.ts_core.proofs.lists.Comparisons.{lt_from, lt_not}
use Rattle.ts_core.proofs.plans.PieceCells.{same_cell-eq, same_cell-refl}
use Rattle.ts_core.proofs.lists.BesideLemmas.{AllZip-then}
use Rattle.ts_core.proofs.moves.EachRule.{each_same}
use Rattle.ts_store.specs.store.RuleLists.{rules_with}
use Rattle.ts_cells.specs.CellChanges.{inserted_if_absent}
use Rattle.ts_cells.specs.Grids.{RollupSeries, no_rollup_series, cell_at, cell_in}
use Rattle.ts_cells.proofs.GridMoves.{get-inserted_if_absent}
use Rattle.ts_store.specs.rollup.Rollups.{RollupState, cells_of, rollup_series_under, IsRollupSeriesOf, HaveRollupSeries, AreRollups, with_grid_cells, cell_created_in, rollup_series_at}
use Rattle.ts_store.specs.write.CellsCreated.{bucket_indices, cells_created_for, cells_created_from, cells_created_under, IsCreatedInPart, AreCreatedInPart, KeepsRollupSeries, KeepRollupSeries}
use Rattle.ts_store.proofs.rollup.RollupsGrow.{IsOfRule}

-- the facts are of the columns of these numbers, and of one time
abbrev pub AreAt : List Column → ℤ → List ℕ → List Fact → Type 0
AreAt cs time [] [] = Unit {0}
AreAt cs time [] (f ∷ fs) = ⊥
AreAt cs time (n ∷ ns) [] = ⊥
AreAt cs time (n ∷ ns) (f ∷ fs) = (slice_get cs n ≡ Some f.column) × (f.time ≡ time) × AreAt cs time ns fs

-- ---- in one map

pub room_same : (r : Rule) (low : ℤ) (m : CellMap) → GainsEmptyCells r low [] m m
room_same r low m = record { there = λ f a. absurd a; stays = λ k e. e; parts = λ k. refl; above = λ k l. refl }

-- a cell that is created leaves the others
pub capacity-stays : (n : CellMap) (q k : Cell) (p : CellParts) → finmap.get n k ≡ Some p → finmap.get (inserted_if_absent n q no_parts) k ≡ Some p
capacity-stays n q k p e =
    get-inserted_if_absent n q no_parts k
    ∙ elim (same_cell k q) as (λ b. same_cell k q ≡ b → cond b (Some (or_else no_parts (finmap.get n q))) (finmap.get n k) ≡ Some p) [
      | true ↦ λ s. ap (λ o. Some (or_else no_parts o)) (ap (finmap.get n) (sym (same_cell-eq k q s)) ∙ e)
      | false ↦ λ s. e
    ] refl

pub capacity-new : (n : CellMap) (q k : Cell) (p : CellParts) → finmap.get n k ≡ None → finmap.get (inserted_if_absent n q no_parts) k ≡ Some p → (p ≡ no_parts) × (k ≡ q)
capacity-new n q k p none some =
    elim (same_cell k q) as (λ b. same_cell k q ≡ b → cond b (Some (or_else no_parts (finmap.get n q))) (finmap.get n k) ≡ Some p → (p ≡ no_parts) × (k ≡ q)) [
      | true ↦ λ s e.
          let is : k ≡ q = same_cell-eq k q s in
          (sym (same_Some no_parts p (sym (ap (λ o. Some (or_else no_parts o)) (ap (finmap.get n) (sym is) ∙ none)) ∙ e)), is)
      | false ↦ λ s e. absurd (none-some p (sym none ∙ e))
    ] refl (sym (get-inserted_if_absent n q no_parts k) ∙ some)

-- a cell that is missing now was missing
pub missing : (m n : CellMap) → ((k : Cell) (p : CellParts) → finmap.get m k ≡ Some p → finmap.get n k ≡ Some p) → (k : Cell) → finmap.get n k ≡ None → finmap.get m k ≡ None
missing m n stays k none =
    elim (finmap.get m k) as (λ o. finmap.get m k ≡ o → o ≡ None) [
      | None ↦ λ e. refl
      | Some p ↦ λ e. absurd (none-some p (sym none ∙ stays k p e))
    ] refl

pub roomy_there : (m : CellMap) (c : Cell) → finmap.get (inserted_if_absent m c no_parts) c ≡ None → ⊥
roomy_there m c none =
    let some : Some (or_else no_parts (finmap.get m c)) ≡ None = sym (get-inserted_if_absent m c no_parts c ∙ ap (λ b. cond b (Some (or_else no_parts (finmap.get m c))) (finmap.get m c)) (same_cell-refl c)) ∙ none in
    cc

-- created cells are empty, and from the low index on
empty_gains : (r : Rule) (low : ℤ) (m o : CellMap) → ((k : Cell) (p : CellParts) → finmap.get m k ≡ Some p → finmap.get o k ≡ Some p) → ((k : Cell) (p : CellParts) → finmap.get m k ≡ None → finmap.get o k ≡ Some p → (p ≡ no_parts) × (low ≤ℤ k.index))
    → GainsEmptyCells r low [] m o
empty_gains r low m o kept made = record {
  there = λ f a. absurd a;
  stays = missing m o kept;
  parts = λ k. elim (finmap.get m k) as (λ x. finmap.get m k ≡ x → or_else no_parts (finmap.get o k) ≡ or_else no_parts x) [
    | Some p ↦ λ e. ap (or_else no_parts) (kept k p e)
    | None ↦ λ e. elim (finmap.get o k) as (λ y. finmap.get o k ≡ y → or_else no_parts y ≡ no_parts) [ None ↦ λ none. refl | Some q ↦ λ some. (made k q e some).0 ] refl
  ] refl;
  above = λ k below. elim (finmap.get m k) as (λ x. finmap.get m k ≡ x → finmap.get o k ≡ x) [
    | Some p ↦ λ e. kept k p e
    | None ↦ λ e. elim (finmap.get o k) as (λ y. finmap.get o k ≡ y → y ≡ None) [
      | None ↦ λ none. refl
      | Some q ↦ λ some. absurd (let least = (made k q e some).1 in let n : ⊥ = omega (arith, ints, least, below) in n)
    ] refl
  ] refl;
}

-- ---- the cells of columns

-- the cell of one of the columns of these numbers, in a bucket
abbrev pub IsCellAt : RollupState → ℤ → List ℕ → Cell → Type 0
IsCellAt s index ns k = (n : ℕ) × Among n ns × (l : ℕ) × (rollup_series_at s n ≡ Some l) × (k ≡ cell_in s.grid.rollup_series index l)

one_kept : (s : RollupState) (o : Option ℕ) (index : ℤ) (k : Cell) (p : CellParts) → finmap.get s.grid.cells k ≡ Some p → finmap.get (cell_created_in s o index) k ≡ Some p
one_kept s None index k p e = e
one_kept s (Some l) index k p e = capacity-stays s.grid.cells (cell_in s.grid.rollup_series index l) k p e

one_made : (s : RollupState) (o : Option ℕ) (index : ℤ) (k : Cell) (p : CellParts) → finmap.get s.grid.cells k ≡ None → finmap.get (cell_created_in s o index) k ≡ Some p
    → (p ≡ no_parts) × (l : ℕ) × (o ≡ Some l) × (k ≡ cell_in s.grid.rollup_series index l)
one_made s None index k p none some = absurd (none-some p (sym none ∙ some))
one_made s (Some l) index k p none some = let new = capacity-new s.grid.cells (cell_in s.grid.rollup_series index l) k p none some in (new.0, l, refl, new.1)

pub all_kept : (index : ℤ) (ns : List ℕ) (s : RollupState) (k : Cell) (p : CellParts) → finmap.get s.grid.cells k ≡ Some p → finmap.get (cells_created_for index ns s).grid.cells k ≡ Some p
all_kept index [] s k p e = e
all_kept index (n ∷ ns) s k p e = all_kept index ns (with_grid_cells (cell_created_in s (rollup_series_at s n) index) s) k p (one_kept s (rollup_series_at s n) index k p e)

pub all_made : (index : ℤ) (ns : List ℕ) (s : RollupState) (k : Cell) (p : CellParts) → finmap.get s.grid.cells k ≡ None → finmap.get (cells_created_for index ns s).grid.cells k ≡ Some p → (p ≡ no_parts) × IsCellAt s index ns k
all_made index [] s k p none some = absurd (none-some p (sym none ∙ some))
all_made index (n ∷ ns) s k p none some =
    let t : RollupState = with_grid_cells (cell_created_in s (rollup_series_at s n) index) s in
    elim (finmap.get t.grid.cells k) as (λ o. finmap.get t.grid.cells k ≡ o → (p ≡ no_parts) × IsCellAt s index (n ∷ ns) k) [
      | None ↦ λ e. let later = all_made index ns t k p e some in (later.0, (later.1.0, inr later.1.1, later.1.2, later.1.3, later.1.4))
      | Some x ↦ λ e.
          let now = one_made s (rollup_series_at s n) index k x none e in
          let same : p ≡ x = same_Some p x (sym some ∙ all_kept index ns t k x e) in
          (same ∙ now.0, (n, inl refl, now.1, now.2, now.3))
    ] refl

-- ---- under a rule

all_empty : (r : Rule) (low index : ℤ) (ns : List ℕ) (s : RollupState) → low ≤ℤ index → GainsEmptyCells r low [] s.grid.cells (cells_created_for index ns s).grid.cells
all_empty r low index ns s above =
    empty_gains r low s.grid.cells (cells_created_for index ns s).grid.cells (all_kept index ns s)
    (λ k p none some. let made = all_made index ns s k p none some in (made.0, subst (λ (q : Cell). low ≤ℤ q.index) (sym made.1.4) above))

-- a fact has its cell where that of its column is created
its_there : (r : Rule) (s : RollupState) (o : Option ℕ) (f : Fact) (index : ℤ) → index ≡ index_of r f.time → IsRollupSeriesOf r f.column s.grid.rollup_series o → is_rolled r f ≡ true → finmap.get (cell_created_in s o index) (cell_of r f) ≡ None → ⊥
its_there r s None f index at other rolled none = true≢false (sym rolled ∙ other)
its_there r s (Some l) f index at is rolled none =
    let cell : Cell = cell_in s.grid.rollup_series index l in
    let same : cell ≡ cell_of r f = ap (λ i. cell_in s.grid.rollup_series i l) at ∙ ap (cell_at (index_of r f.time)) (get_or_from_slice_get s.grid.rollup_series l (rollup_series_under r f.column) no_rollup_series is.1) in
    roomy_there s.grid.cells cell (ap (finmap.get (inserted_if_absent s.grid.cells cell no_parts)) same ∙ none)

-- the rollup series of a column of a number
pub rollup_series_known : (r : Rule) (rollup_series : List RollupSeries) (cs : List Column) (os : List (Option ℕ)) (n : ℕ) (c : Column) → HaveRollupSeries r rollup_series cs os → slice_get cs n ≡ Some c → IsRollupSeriesOf r c rollup_series (get_or os n None)
rollup_series_known r rollup_series (d ∷ cs) (o ∷ os) zero c h at = subst (λ (x : Column). IsRollupSeriesOf r x rollup_series o) (same_Some d c at) h.0
rollup_series_known r rollup_series (d ∷ cs) (o ∷ os) (suc n) c h at = rollup_series_known r rollup_series cs os n c h.1 at
rollup_series_known r rollup_series _ _ n c h at = search rules

all_there : (r : Rule) (cs : List Column) (time : ℤ) (ns : List ℕ) (fs : List Fact) (s : RollupState) → HaveRollupSeries r s.grid.rollup_series cs s.series_of_column → AreAt cs time ns fs
    → (f : Fact) → Among f fs → is_rolled r f ≡ true → finmap.get (cells_created_for (index_of r time) ns s).grid.cells (cell_of r f) ≡ None → ⊥
all_there r cs time ns [] s h a f k rolled none = absurd k
all_there r cs time (n ∷ ns) (g ∷ fs) s h a f k rolled none =
    let t : RollupState = with_grid_cells (cell_created_in s (rollup_series_at s n) (index_of r time)) s in
    ⊎_elim {C = ⊥}
    (λ e.
    its_there r s (rollup_series_at s n) g (index_of r time) (ap (index_of r) (sym a.1)) (rollup_series_known r s.grid.rollup_series cs s.series_of_column n g.column h a.0) (ap (is_rolled r) (sym e) ∙ rolled)
    (ap (λ (x : Fact). finmap.get t.grid.cells (cell_of r x)) (sym e) ∙ missing t.grid.cells (cells_created_for (index_of r time) ns t).grid.cells (all_kept (index_of r time) ns t) (cell_of r f) none))
    (λ q. all_there r cs time ns fs t h a.2 f q rolled none) k
all_there r cs time _ _ s h a f k rolled none = absurd a

time_at : (cs : List Column) (time : ℤ) (ns : List ℕ) (fs : List Fact) → AreAt cs time ns fs → (f : Fact) → Among f fs → f.time ≡ time
time_at cs time ns [] a f k = absurd k
time_at cs time [] (g ∷ fs) a f k = absurd a
time_at cs time (n ∷ ns) (g ∷ fs) a f k = ⊎_elim {C = f.time ≡ time} (λ e. ap (λ (x : Fact). x.time) e ∙ a.1) (λ q. time_at cs time ns fs a.2 f q) k

-- below the low index none is needed
none_roomed : (r : Rule) (low : ℤ) (cs : List Column) (time : ℤ) (ns : List ℕ) (fs : List Fact) (m : CellMap) → index_of r time <ℤ low → AreAt cs time ns fs → GainsEmptyCells r low fs m m
none_roomed r low cs time ns fs m below a = record {
  there = λ f k rolled l none. let same : index_of r f.time ≡ index_of r time = ap (index_of r) (time_at cs time ns fs a f k) in let n : ⊥ = omega (arith, ints, below, l, same) in n;
  stays = λ k e. e;
  parts = λ k. refl;
  above = λ k l. refl;
}

from_roomed : (r : Rule) (low : ℤ) (cs : List Column) (time : ℤ) (ns : List ℕ) (fs : List Fact) (s : RollupState) → HaveRollupSeries r s.grid.rollup_series cs s.series_of_column → AreAt cs time ns fs
    → GainsEmptyCells r low fs s.grid.cells (cells_created_from low (index_of r time) ns s).grid.cells
from_roomed r low cs time ns fs s h a =
    elim (int_lt (index_of r time) low) as (λ b. int_lt (index_of r time) low ≡ b → GainsEmptyCells r low fs s.grid.cells (cond b s (cells_created_for (index_of r time) ns s)).grid.cells) [
      | true ↦ λ e. none_roomed r low cs time ns fs s.grid.cells (lt_from (index_of r time) low e) a
      | false ↦ λ e. let gains = all_empty r low (index_of r time) ns s (lt_not (index_of r time) low e) in record { there = λ f k rolled l. all_there r cs time ns fs s h a f k rolled; stays = gains.stays; parts = gains.parts; above = gains.above }
    ] refl

-- ---- under each rule

pub rooms_same : (rs : List RuleData) → GainEmptyCells [] rs rs
rooms_same = each_same (λ r low. GainsEmptyCells r low []) room_same

pub rooms_made : (rs : List Rule) (lows : List ℤ) (cs : List Column) (time : ℤ) (ns : List ℕ) (fs : List Fact) (ss : List RollupState) → AreRollups rs cs ss → AreAt cs time ns fs
    → GainEmptyCells fs (rules_with rs lows (cells_of ss)) (rules_with rs lows (cells_of (cells_created_under (bucket_indices rs time) lows ns ss)))
rooms_made (r ∷ rs) (low ∷ lows) cs time ns fs (s ∷ ss) h a = ((refl, refl, from_roomed r low cs time ns fs s h.0 a), rooms_made rs lows cs time ns fs ss h.1 a)
rooms_made _ _ cs time ns fs _ h a = search rules

pub rollups_stay : (rs : List Rule) (cs : List Column) (ss ts : List RollupState) → AreRollups rs cs ss → KeepRollupSeries ss ts → AreRollups rs cs ts
rollups_stay rs cs ss ts h k =
    AllZip-then (IsOfRule cs) KeepsRollupSeries (IsOfRule cs) (λ r s t have same. subst (IsOfRule cs r) (sym same) have) rs ss ts h k

-- ---- step by step

-- first some columns, then others
roomed_more : (index : ℤ) (ns ms : List ℕ) (s : RollupState) → cells_created_for index (ns ++ ms) s ≡ cells_created_for index ms (cells_created_for index ns s)
roomed_more index [] ms s = refl
roomed_more index (n ∷ ns) ms s = roomed_more index ns ms (with_grid_cells (cell_created_in s (rollup_series_at s n) index) s)

-- room for one column more
pub next_roomed : (s t u : RollupState) (index : ℤ) (ns : List ℕ) (i n : ℕ) → i < length ns → n ≡ get_or ns i 0 → u ≡ with_grid_cells (cell_created_in t (rollup_series_at t n) index) t → t ≡ with_grid_cells t.grid.cells s → t ≡ cells_created_for index (take i ns) s
    → (u ≡ with_grid_cells u.grid.cells s) × (u ≡ cells_created_for index (take (i + 1) ns) s)
next_roomed s t u index ns i n within at made kept before =
    let cells : u.grid.cells ≡ cell_created_in t (rollup_series_at t n) index = ap (λ (x : RollupState). x.grid.cells) made in (
      made ∙ ap (with_grid_cells (cell_created_in t (rollup_series_at t n) index)) kept ∙ ap (λ m. with_grid_cells m s) (sym cells),
      made ∙ ap (cells_created_for index (n ∷ [])) before ∙ sym (roomed_more index (take i ns) (n ∷ []) s)
          ∙ ap (λ ms. cells_created_for index ms s) (ap (λ m. take i ns ++ m ∷ []) at ∙ sym (take_more ns i 0 within)),
    )

-- ---- room for some of the columns

pub none_roomed_yet : (low index : ℤ) (ns : List ℕ) (s : RollupState) → IsCreatedInPart low index ns s s
none_roomed_yet low index ns s = (0, elim (int_lt index low) as (λ b. s ≡ cond b s s) [ true ↦ refl | false ↦ refl ])

pub all_roomed_now : (low index : ℤ) (ns : List ℕ) (s t : RollupState) → t ≡ cells_created_from low index ns s → IsCreatedInPart low index ns s t
all_roomed_now low index ns s t made = (length ns, made ∙ ap (λ ms. cells_created_from low index ms s) (sym (take_all (length ns) ns (omega arith))))

-- for all of them
pub all_now : (is lows : List ℤ) (ns : List ℕ) (ss : List RollupState) → AreCreatedInPart is lows ns ss (cells_created_under is lows ns ss)
all_now (i ∷ is) (low ∷ lows) ns (s ∷ ss) = (all_roomed_now low i ns s (cells_created_from low i ns s) refl, all_now is lows ns ss)
all_now _ _ ns _ = refl

-- the cells are created under a rule; x is the index of its bucket with its low index
abbrev pub IsCreated : List ℕ → ℤ × ℤ → RollupState → RollupState → Type 0
IsCreated ns x s t = KeepsRollupSeries s t × (t ≡ cells_created_from x.1 x.0 ns s)

-- ---- each has room for no facts

kept_from : (r : Rule) (low index : ℤ) (ns : List ℕ) (s : RollupState) → GainsEmptyCells r low [] s.grid.cells (cells_created_from low index ns s).grid.cells
kept_from r low index ns s =
    elim (int_lt index low) as (λ b. int_lt index low ≡ b → GainsEmptyCells r low [] s.grid.cells (cond b s (cells_created_for index ns s)).grid.cells) [
      | true ↦ λ e. room_same r low s.grid.cells
      | false ↦ λ e. all_empty r low index ns s (lt_not index low e)
    ] refl

pub part_rooms : (rs : List Rule) (lows : List ℤ) (time : ℤ) (ns : List ℕ) (ss ts : List RollupState) → AreCreatedInPart (bucket_indices rs time) lows ns ss ts → GainEmptyCells [] (rules_with rs lows (cells_of ss)) (rules_with rs lows (cells_of ts))
part_rooms (r ∷ rs) (low ∷ lows) time ns [] ts a = subst (λ (us : List RollupState). GainEmptyCells [] [] (rules_with (r ∷ rs) (low ∷ lows) (cells_of us))) (sym a) tt
part_rooms (r ∷ rs) (low ∷ lows) time ns (s ∷ ss) (t ∷ ts) a = (
  (refl, refl, subst (λ (u : RollupState). GainsEmptyCells r low [] s.grid.cells u.grid.cells) (sym a.0.1) (kept_from r low (index_of r time) (take a.0.0 ns) s)),
  part_rooms rs lows time ns ss ts a.1,
)
part_rooms _ _ time ns _ _ a = search rules
