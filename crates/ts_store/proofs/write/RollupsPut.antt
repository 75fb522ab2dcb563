-- Rollups of rules, when a line is inserted.
use Rattle.std.proofs.Common.{arith, rules, ◌≡◌, ◌∙◌, ◌<◌, ℕ, ℤ, List, [], ◌∷◌, length, map, ap, sym, subst, inl, inr, refl, ⊎_elim, ◌≢◌, ◌⊎◌, ◌↔◌, ◌≤ℤ◌, suc, int_lt, true, false, cond, ◌&&◌, take, Some, None}
use Rattle.std.specs.List.{AllByRecursion}
use Rattle.std.proofs.lemmas.Option.{slice_get_within, get_or_from_slice_get, none-some}
use Rattle.ts_core.specs.lists.Members.{Among}
use Rattle.ts_core.specs.facts.Facts.{Column, Fact}
use Rattle.ts_core.specs.settings.Settings.{Rule}
use Rattle.ts_core.specs.store.StoreStates.{column_of, ColumnPoints, facts_of}
use Rattle.ts_core.specs.store.StoreData.{CellMap, OfEachRule, RuleData, no_parts}
use Rattle.ts_core.specs.moves.StoreMoves.{GainEmptyCells, in_cells, GainsEmptyCells, put_cell, PutsFacts}
use Rattle.ts_line.specs.Parts.{LinePart, Parts, fact_of, line_facts}
use Rattle.ts_raw.specs.Columns.{ColumnState}
use Rattle.ts_raw.specs.Indexed.{Indexed}
use Rattle.ts_store.specs.store.ColumnStates.{columns_in, AreStaged}
use Rattle.ts_store.specs.rollup.Rollups.{RollupState, AreRollups, cells_of, rollup_series_under, IsRollupSeriesOf, HaveRollupSeries, rollup_series_at}
use Rattle.ts_store.specs.write.CellsCreated.{bucket_indices, cells_created_under, AreCreatedInPart, cells_created_for, cells_created_from}
use Rattle.ts_store.specs.write.LinesPut.{GainsCells, IsOfFacts, PutsCells}
use Rattle.ts_store.specs.store.RuleLists.{rules_with}
use Rattle.ts_store.proofs.store.ColumnsLemmas.{names_held}
use Rattle.ts_store.proofs.write.CellsCreatedLemmas.{all_kept, all_made, AreAt, rooms_made, all_now, rollup_series_known}
use Rattle.std.specs.FinMap as finmap
use Rattle.std.proofs.lemmas.Bool.{and_parts}
use Rattle.ts_core.specs.store.Marks.{index_of}
use Rattle.ts_core.specs.store.Cells.{Cell, cell_of, is_rolled, is_in_cell, same_cell}
use Rattle.ts_core.proofs.lists.Comparisons.{lt_not}
use Rattle.ts_core.proofs.moves.Freezing.{frozen_in}
use Rattle.ts_core.proofs.moves.MovesStand.{key_there, key_not, put_cell-keys, put_frozen, put_else}
use Rattle.ts_core.proofs.plans.PieceCells.{same_cell-eq, same_cell-refl}
use Rattle.ts_core.proofs.moves.EachRule.{each_in, each_same, each_then, each_both}
use Rattle.ts_store.specs.image.Building.{HasCellsOf}
use Rattle.ts_cells.specs.Grids.{no_rollup_series, cell_at, cell_in}

-- ---- the created cells of a line: exactly the missing ones of its facts, at or above low indices

-- ---- the cell of a column is that of its fact

cell_in_part : (r : Rule) (cs : List Column) (time : ℤ) (ns : List ℕ) (fs : List Fact) (s : RollupState) → HaveRollupSeries r s.grid.rollup_series cs s.series_of_column → AreAt cs time ns fs
    → (n : ℕ) → Among n ns → (l : ℕ) → rollup_series_at s n ≡ Some l → IsOfFacts fs r (cell_in s.grid.rollup_series (index_of r time) l)
cell_in_part r cs time (x ∷ ns) (f ∷ fs) s h a n k l at =
    ⊎_elim {C = IsOfFacts (f ∷ fs) r (cell_in s.grid.rollup_series (index_of r time) l)}
    (λ e.
    let series : IsRollupSeriesOf r f.column s.grid.rollup_series (Some l) = subst (IsRollupSeriesOf r f.column s.grid.rollup_series) (ap (rollup_series_at s) (sym e) ∙ at) (rollup_series_known r s.grid.rollup_series cs s.series_of_column x f.column h a.0) in
    let is : cell_of r f ≡ cell_in s.grid.rollup_series (index_of r time) l =
    sym (ap (cell_at (index_of r f.time)) (get_or_from_slice_get s.grid.rollup_series l (rollup_series_under r f.column) no_rollup_series series.1)) ∙ ap (λ (z : ℤ). cell_in s.grid.rollup_series (index_of r z) l) a.1 in
    (f, inl refl, ap (λ b. b && same_cell (cell_of r f) (cell_in s.grid.rollup_series (index_of r time) l)) series.0 ∙ ap (same_cell (cell_of r f)) (sym is) ∙ same_cell-refl (cell_of r f)))
    (λ q. let later = cell_in_part r cs time ns fs s h a.2 n q l at in (later.0, inr later.1, later.2)) k
cell_in_part r cs time _ _ s h a n k l at = absurd (omega arith)

among_first : (i : ℕ) (ns : List ℕ) (n : ℕ) → Among n (take i ns) → Among n ns
among_first (suc i) (x ∷ ns) n a = ⊎_elim {C = Among n (x ∷ ns)} (λ e. inl e) (λ q. inr (among_first i ns n q)) a
among_first _ _ n a = absurd a

pub gains_nothing : (fs : List Fact) (r : Rule) (low : ℤ) (m : CellMap) → GainsCells fs r low m m
gains_nothing fs r low m = record { stays = λ k p e. e; created = λ k p none some. absurd (none-some p (sym none ∙ some)) }

part_gains : (r : Rule) (low : ℤ) (cs : List Column) (time : ℤ) (ns : List ℕ) (fs : List Fact) (s : RollupState) (i : ℕ) → HaveRollupSeries r s.grid.rollup_series cs s.series_of_column → AreAt cs time ns fs
    → GainsCells fs r low s.grid.cells (cells_created_from low (index_of r time) (take i ns) s).grid.cells
part_gains r low cs time ns fs s i h a =
    elim (int_lt (index_of r time) low) as (λ b. int_lt (index_of r time) low ≡ b → GainsCells fs r low s.grid.cells (cond b s (cells_created_for (index_of r time) (take i ns) s)).grid.cells) [
      | true ↦ λ e. gains_nothing fs r low s.grid.cells
      | false ↦ λ e. record {
        stays = λ k p here. all_kept (index_of r time) (take i ns) s k p here;
        created = λ k p none some.
            let made = all_made (index_of r time) (take i ns) s k p none some in
            let at = made.1 in
            let facts : IsOfFacts fs r (cell_in s.grid.rollup_series (index_of r time) at.2) = cell_in_part r cs time ns fs s h a at.0 (among_first i ns at.0 at.1) at.2 at.3 in
            (made.0, subst (λ (q : Cell). low ≤ℤ q.index) (sym at.4) (lt_not (index_of r time) low e), subst (IsOfFacts fs r) (sym at.4) facts);
      }
    ] refl

-- room for some of a line's cells creates no others
pub parts_gain : (rs : List Rule) (lows : List ℤ) (cs : List Column) (time : ℤ) (ns : List ℕ) (fs : List Fact) (ss ts : List RollupState) → AreRollups rs cs ss → AreAt cs time ns fs → AreCreatedInPart (bucket_indices rs time) lows ns ss ts
    → OfEachRule (GainsCells fs) (rules_with rs lows (cells_of ss)) (rules_with rs lows (cells_of ts))
parts_gain (r ∷ rs) (low ∷ lows) cs time ns fs (s ∷ ss) (t ∷ ts) h a part = (
  (refl, refl, subst (λ (u : RollupState). GainsCells fs r low s.grid.cells u.grid.cells) (sym part.0.1) (part_gains r low cs time ns fs s part.0.0 h.0 a)),
  parts_gain rs lows cs time ns fs ss ts h.1 a part.1,
)
parts_gain _ _ cs time ns fs _ _ h a part = search rules

-- nothing is created
pub gain_nothing : (fs : List Fact) (rs : List RuleData) → OfEachRule (GainsCells fs) rs rs
gain_nothing fs = each_same (GainsCells fs) (gains_nothing fs)

-- ---- facts are put

-- the cells of a rule stay; only those of the facts may change, and of these the live part alone
record KeepsKeys (fs : List Fact) (r : Rule) (m n : CellMap) : Type 0 where
  keys : finmap.keys n ≡ finmap.keys m
  frozen : (k : Cell) → frozen_in (finmap.get n k) ≡ frozen_in (finmap.get m k)
  others : (k : Cell) → (IsOfFacts fs r k → ⊥) → finmap.get n k ≡ finmap.get m k

put_keeps : (f : Fact) (facts : List Fact) (r : Rule) (m : CellMap) → KeepsKeys (f ∷ []) r m (put_cell r f facts m)
put_keeps f facts r m = record {
  keys = put_cell-keys r f facts m;
  frozen = put_frozen r f facts m;
  others = λ k apart. put_else r f facts m k (elim (is_in_cell r k f) as (λ b. is_in_cell r k f ≡ b → b ≡ false) [ true ↦ λ e. absurd (apart (f, inl refl, e)) | false ↦ λ e. refl ] refl);
}

keeps_then : (f : Fact) (fs : List Fact) (r : Rule) (m o n : CellMap) → KeepsKeys (f ∷ []) r m o → KeepsKeys fs r o n → KeepsKeys (f ∷ fs) r m n
keeps_then f fs r m o n a b = record {
  keys = b.keys ∙ a.keys;
  frozen = λ k. b.frozen k ∙ a.frozen k;
  others = λ k apart. b.others k (λ q. apart (q.0, inr q.1, q.2)) ∙ a.others k (λ q. apart (q.0, ⊎_elim {C = Among q.0 (f ∷ fs)} (λ e. inl e) (λ x. absurd x) q.1, q.2));
}

line_keeps : (fs : List Fact) (before after : List ColumnPoints) (rs ss : List RuleData) → PutsFacts before rs after ss fs → OfEachRule (λ r low. KeepsKeys fs r) rs ss
line_keeps [] before after rs ss p = subst (OfEachRule (λ r low. KeepsKeys [] r) rs) (sym p.1) (each_same (λ r low. KeepsKeys [] r) (λ r low m. record { keys = refl; frozen = λ k. refl; others = λ k apart. refl }) rs)
line_keeps (f ∷ fs) before after rs ss p =
    let puts : Rule → CellMap → CellMap = λ r. put_cell r f (facts_of p.0) in
    each_then (λ r low. KeepsKeys (f ∷ []) r) (λ r low. KeepsKeys fs r) (λ r low. KeepsKeys (f ∷ fs) r) (λ r low. keeps_then f fs r) rs (map (in_cells puts) rs) ss
    (each_in (λ r low. KeepsKeys (f ∷ []) r) puts (λ a. put_keeps f (facts_of p.0) a.rule a.cells) rs) (line_keeps fs p.0 after (map (in_cells puts) rs) ss p.2)

same_keys : (o n : CellMap) → finmap.keys n ≡ finmap.keys o → (k : Cell) → (finmap.get n k ≢ None) ↔ (finmap.get o k ≢ None)
same_keys o n e k = (λ some. key_not o k (subst (Among k) e (key_there n k some)), λ some. key_not n k (subst (Among k) (sym e) (key_there o k some)))

module _ (fs : List Fact) (r : Rule) (low : ℤ) (m o : CellMap) (gains : GainsCells fs r low m o) where
  -- each cell is as before, or it is created
  pub gained : (k : Cell) → (finmap.get o k ≡ finmap.get m k) ⊎ ((finmap.get m k ≡ None) × (finmap.get o k ≡ Some no_parts) × (low ≤ℤ k.index) × IsOfFacts fs r k)
  gained k =
      elim (finmap.get m k) as (λ x. finmap.get m k ≡ x → (finmap.get o k ≡ x) ⊎ ((finmap.get m k ≡ None) × (finmap.get o k ≡ Some no_parts) × (low ≤ℤ k.index) × IsOfFacts fs r k)) [
        | Some p ↦ λ e. inl (gains.stays k p e)
        | None ↦ λ e. elim (finmap.get o k) as (λ y. finmap.get o k ≡ y → (y ≡ None) ⊎ ((finmap.get m k ≡ None) × (y ≡ Some no_parts) × (low ≤ℤ k.index) × IsOfFacts fs r k)) [
          | Some q ↦ λ here. let made = gains.created k q e here in inr (e, ap Some made.0, made.1, made.2)
          | None ↦ λ none. inl refl
        ] refl
      ] refl

  -- cells of the facts are there, and no cell comes or goes when the facts are put
  module _ (n : CellMap) (needed : HasCellsOf fs r low o) (keys : (k : Cell) → (finmap.get n k ≢ None) ↔ (finmap.get o k ≢ None)) (frozen : (k : Cell) → frozen_in (finmap.get n k) ≡ frozen_in (finmap.get o k))
      (others : (k : Cell) → (IsOfFacts fs r k → ⊥) → finmap.get n k ≡ finmap.get o k) where
    comes_from : (k : Cell) → finmap.get o k ≢ None → (finmap.get m k ≢ None) ⊎ ((low ≤ℤ k.index) × IsOfFacts fs r k)
    comes_from k some = ⊎_elim {C = (finmap.get m k ≢ None) ⊎ ((low ≤ℤ k.index) × IsOfFacts fs r k)} (λ same. inl (λ none. some (same ∙ none))) (λ new. inr (new.2, new.3)) (gained k)

    is_there : (k : Cell) → (finmap.get m k ≢ None) ⊎ ((low ≤ℤ k.index) × IsOfFacts fs r k) → finmap.get o k ≢ None
    is_there k (inl some) none = ⊎_elim {C = ⊥} (λ same. some (sym same ∙ none)) (λ new. some new.0) (gained k)
    is_there k (inr q) none =
        let t = and_parts (is_rolled r q.1.0) (same_cell (cell_of r q.1.0) k) q.1.2 in
        let is : cell_of r q.1.0 ≡ k = same_cell-eq (cell_of r q.1.0) k t.1 in
        needed q.1.0 q.1.1 t.0 (subst (λ (x : Cell). low ≤ℤ x.index) (sym is) q.0) (ap (finmap.get o) is ∙ none)

    pub puts_cells : PutsCells fs r low m n
    puts_cells = record {
      there = λ k. (λ some. comes_from k ((keys k).0 some), λ s. (keys k).1 (is_there k s));
      frozen = λ k. frozen k ∙ ⊎_elim {C = frozen_in (finmap.get o k) ≡ frozen_in (finmap.get m k)} (ap frozen_in) (λ new. ap frozen_in new.1 ∙ sym (ap frozen_in new.0)) (gained k);
      others = λ k apart. others k apart ∙ ⊎_elim {C = finmap.get o k ≡ finmap.get m k} (λ same. same) (λ new. absurd (apart new.3)) (gained k);
    }

abbrev GainsBoth : List Fact → Rule → ℤ → CellMap → CellMap → Type 0
GainsBoth fs r low m o = GainsCells fs r low m o × GainsEmptyCells r low fs m o

-- a line creates the missing cells of its facts, and puts the facts into cells
pub line_cells : (fs : List Fact) (before after : List ColumnPoints) (rs os ss : List RuleData) → OfEachRule (GainsCells fs) rs os → GainEmptyCells fs rs os → PutsFacts before os after ss fs → OfEachRule (PutsCells fs) rs ss
line_cells fs before after rs os ss gains capacity puts =
    each_then (GainsBoth fs) (λ r low. KeepsKeys fs r) (PutsCells fs) (λ r low m o n both keeps. puts_cells fs r low m o both.0 n both.1.there (same_keys o n keeps.keys) keeps.frozen keeps.others) rs os ss
    (each_both (GainsCells fs) (λ r low. GainsEmptyCells r low fs) (GainsBoth fs) (λ r low m n a b. (a, b)) rs os gains capacity) (line_keeps fs before after os ss puts)

-- the names of an index's columns are those of its columns with their points
pub rollups_held : (rs : List Rule) (index : Indexed) (ss : List ColumnState) (us : List RollupState) → length ss ≡ length index.columns → AreRollups rs index.columns us → AreRollups rs (map column_of (columns_in index ss)) us
rollups_held rs index ss us each h = subst (λ (cs : List Column). AreRollups rs cs us) (sym (names_held index ss each)) h

-- the columns in which points are staged are there
pub staged_inside : (cs : List Column) (ss : List ColumnState) (ns : List ℕ) (fs : List Fact) → AreStaged cs ss ns fs → AllByRecursion (λ n. n < length cs) ns
staged_inside cs ss (n ∷ ns) (f ∷ fs) a = (slice_get_within cs n f.column a.0.0, staged_inside cs ss ns fs a.1)
staged_inside cs ss _ _ a = search rules

-- ---- the facts of a line

line_time : (p : Parts) (fields : List (LinePart × ℤ)) (f : Fact) → Among f (map (fact_of p) fields) → f.time ≡ p.time
line_time p [] f a = absurd a
line_time p (x ∷ fields) f a = ⊎_elim {C = f.time ≡ p.time} (λ e. ap (λ (g : Fact). g.time) e) (λ k. line_time p fields f k) a

staged_at : (cs : List Column) (ss : List ColumnState) (time : ℤ) (ns : List ℕ) (fs : List Fact) → ((f : Fact) → Among f fs → f.time ≡ time) → AreStaged cs ss ns fs → AreAt cs time ns fs
staged_at cs ss time [] [] same a = tt
staged_at cs ss time (n ∷ ns) (f ∷ fs) same a = (a.0.0, same f (inl refl), staged_at cs ss time ns fs (λ g k. same g (inr k)) a.1)
staged_at cs ss time _ _ same a = search rules

-- capacity is reserved for those that are staged
pub line_rooms : (rs : List Rule) (lows : List ℤ) (cs : List Column) (ss : List ColumnState) (p : Parts) (time : ℤ) (ns : List ℕ) (old : List CellMap) (us ts : List RollupState) → AreRollups rs cs us → AreStaged cs ss ns (line_facts p) → time ≡ p.time
    → cells_of us ≡ old → ts ≡ cells_created_under (bucket_indices rs time) lows ns us → GainEmptyCells (line_facts p) (rules_with rs lows old) (rules_with rs lows (cells_of ts))
line_rooms rs lows cs ss p time ns old us ts h a at same made =
    let fs : List Fact = line_facts p in
    let has_cells : GainEmptyCells fs (rules_with rs lows (cells_of us)) (rules_with rs lows (cells_of (cells_created_under (bucket_indices rs p.time) lows ns us))) = rooms_made rs lows cs p.time ns fs us h (staged_at cs ss p.time ns fs (line_time p p.fields) a) in
    subst (λ (ms : List CellMap). GainEmptyCells fs (rules_with rs lows ms) (rules_with rs lows (cells_of ts))) same
    (subst (λ (xs : List RollupState). GainEmptyCells fs (rules_with rs lows (cells_of us)) (rules_with rs lows (cells_of xs))) (sym (made ∙ ap (λ (t : ℤ). cells_created_under (bucket_indices rs t) lows ns us) at)) has_cells)

-- and no other cell is created, even if capacity is reserved for some of them only
pub line_gains : (rs : List Rule) (lows : List ℤ) (cs : List Column) (ss : List ColumnState) (p : Parts) (time : ℤ) (ns : List ℕ) (old : List CellMap) (us ts : List RollupState) → AreRollups rs cs us → AreStaged cs ss ns (line_facts p) → time ≡ p.time
    → cells_of us ≡ old → AreCreatedInPart (bucket_indices rs time) lows ns us ts → OfEachRule (GainsCells (line_facts p)) (rules_with rs lows old) (rules_with rs lows (cells_of ts))
line_gains rs lows cs ss p time ns old us ts h a at same part =
    let fs : List Fact = line_facts p in
    subst (λ (ms : List CellMap). OfEachRule (GainsCells fs) (rules_with rs lows ms) (rules_with rs lows (cells_of ts))) same
    (parts_gain rs lows cs p.time ns fs us ts h (staged_at cs ss p.time ns fs (line_time p p.fields) a) (subst (λ (t : ℤ). AreCreatedInPart (bucket_indices rs t) lows ns us ts) at part))

-- for all of them
pub all_gained : (rs : List Rule) (lows : List ℤ) (time : ℤ) (ns : List ℕ) (us ts : List RollupState) → ts ≡ cells_created_under (bucket_indices rs time) lows ns us → AreCreatedInPart (bucket_indices rs time) lows ns us ts
all_gained rs lows time ns us ts made = subst (AreCreatedInPart (bucket_indices rs time) lows ns us) (sym made) (all_now (bucket_indices rs time) lows ns us)
