-- The data written of a store: its picture, in the image's order. If the store represents a history, the data has no
-- contradiction.
use Rattle.std.proofs.Common.{◌≡◌, ℕ, zero, suc, ◌≤◌, ◌<◌, ℤ, pos, ◌≤ℤ◌, int_le, nat_lt, not, ◌==◌, Bool, true, false, cond, ◌&&◌, List, [], ◌∷◌, T, map, filter, refl, sym, ◌∙◌, ap, subst, true≢false, arith, Some, None, Option, MatchOption, is_lt}
use Rattle.std.specs.Ordering.{int_cmp}
use Rattle.std.specs.List.{AllByRecursion}
use Rattle.std.specs.FinMap as finmap
use Rattle.std.specs.FinMap.{is_sorted, get-entries, entries_sorted}
use Rattle.std.specs.FinMap.Entries.{below_all}
use Rattle.std.proofs.lemmas.Int.{ints}
use Rattle.std.proofs.lemmas.Bool.{and_parts, and_from}
use Rattle.std.proofs.lemmas.Bool.Decides.{nat_tests}
use Rattle.std.proofs.lemmas.Option.{same_Some, get_or_from_slice_get}
use Rattle.std.proofs.lemmas.Simd.{map-map}
use Rattle.ts_core.specs.lists.Members.{Among}
use Rattle.ts_core.specs.lists.Numbered.{IsAt}
use Rattle.ts_core.specs.facts.Facts.{Column, Fact, text_cmp, series_cmp}
use Rattle.ts_core.specs.settings.Settings.{Rule, Settings}
use Rattle.ts_core.specs.store.History.{History}
use Rattle.ts_core.specs.facts.Latest.{latest_of}
use Rattle.ts_core.specs.aggregates.Aggregates.{Aggregate, empty_aggregate, IsSpread, IsSound}
use Rattle.ts_core.specs.aggregates.SoundLaws.{empty_by_count}
use Rattle.ts_core.specs.store.RawFacts.{is_waiting, is_kept, kept_from}
use Rattle.ts_core.specs.store.Cells.{Cell, cell_cmp, is_in_cell}
use Rattle.ts_core.specs.lists.Changes.{or_else}
use Rattle.ts_core.specs.store.StoreStates.{ColumnPoints, CellParts, StandsFor, HasCells, column_of}
use Rattle.ts_core.specs.store.StoreData.{CellMap, RuleData, StoreData, store_settings, store_marks, no_parts, rule_cells, state_of}
use Rattle.ts_core.specs.io.ReadingAhead.{bit}
use Rattle.ts_core.proofs.store.ColumnFacts.{column_there}
use Rattle.ts_core.proofs.lists.Comparisons.{le_from, le_true}
use Rattle.ts_core.proofs.moves.LiveWays.{facts_possible}
use Rattle.ts_core.proofs.lists.MembersLemmas.{Among-map, map_back, at_map_of, Among-filter_was, Among-filter_passes, Among-filter_stays}
use Rattle.ts_core.proofs.lists.NumberedLemmas.{at_among, among_at}
use Rattle.ts_core.proofs.plans.PieceCells.{exact_cells}
use Rattle.ts_core.proofs.lists.Places.{both_of}
use Rattle.ts_core.proofs.lists.Sorted.{among_found}
use Rattle.ts_core.proofs.store.StateLemmas.{is_waiting-there}
use Rattle.ts_raw.specs.PlainColumns.{IsRising}
use Rattle.ts_image.specs.Images.{ImageRule, ImageColumn, ImageSeries, ImageCell}
use Rattle.ts_image.specs.ImageTests.{rule_in, settings_of_image}
use Rattle.ts_store.specs.image.SavedContent.{AreRising}
use Rattle.ts_image.specs.Pictures.{column_of_image, image_points_in, columns_of_image, waiting_of_image, cell_part_of, part_at, PicturesCells, PictureCells, IsPictureOf}
use Rattle.ts_image.specs.SavedImages.{IsOrderlyColumn, IsOrderlySeries, AreOrderlyCells, IsOrderly, IsWellFormed}
use Rattle.ts_store.specs.image.SavedContent.{SavedColumn, SavedSeries, saved_key, SavesColumns, SavesSeries, FrozenCell, frozen_from}
use Rattle.ts_store.specs.read.ViewResults.{no_points}
use Rattle.ts_store.proofs.store.Stands.{waiting_among}
use Rattle.ts_store.proofs.read.ShownCells.{entry_found}
use Rattle.ts_image.specs.SavedParts.{image_rule_of, image_settings_of, extremes_in}
use Rattle.ts_image.specs.Saving.{image_cell_of, column_at, image_column_of, image_series_of, store_image}
use Rattle.ts_image.specs.WrittenImages.{WrittenImagesAreAcceptable}
use Rattle.ts_image.proofs.Orders.{all_among, among_all, rising_keys, of_both}
use Rattle.ts_image.proofs.RawPictures.{series_of, field_of, column_here, column_from, waiting_here, waiting_from}
use Rattle.ts_image.proofs.SavedImages.{saved_possible}

-- ---- settings

rules_back : (rs : List Rule) → map rule_in (map image_rule_of rs) ≡ rs
rules_back [] = refl
rules_back (r ∷ rs) = ap (λ xs. r ∷ xs) (rules_back rs)

settings_back : (s : Settings) → settings_of_image (image_settings_of s) ≡ s
settings_back s = λ i. record { raw_duration = s.raw_duration; rules = rules_back s.rules i }

lasting : (rs : List Rule) → AllByRecursion (λ (r : ImageRule). pos 0 ≤ℤ r.duration) (map image_rule_of rs)
lasting [] = tt
lasting (r ∷ rs) = (omega (arith, ints), lasting rs)

-- ---- series and columns

named_at : (cs : List ColumnPoints) (n : ℕ) (c : Column) → IsAt (map column_of cs) n c → (p : ColumnPoints) × IsAt cs n p × (p.column ≡ c)
named_at [] n c e = absurd (let none : None ≡ Some c = e in cc)
named_at (p ∷ ps) zero c e = (p, refl, same_Some p.column c e)
named_at (p ∷ ps) (suc n) c e = named_at ps n c e

bit_one : (b : Bool) → (bit b == 1) ≡ true → b ≡ true
bit_one true e = refl
bit_one false e = absurd (true≢false (sym e))

bit_few : (b : Bool) → bit b ≤ 1
bit_few true = omega arith
bit_few false = omega arith

-- a saved column is one of the store's
record IsSavedAs (k : StoreData) (s : SavedSeries) (x : SavedColumn) (p : ColumnPoints) : Type 0 where
  there : Among p k.columns
  at : column_at k x ≡ p
  name : record { series = s.series; field = x.field } ≡ p.column

same_points : (k : StoreData) (s : SavedSeries) (x : SavedColumn) (p : ColumnPoints) → IsSavedAs k s x p → image_points_in s.series (image_column_of k x) ≡ p
same_points k s x p is = λ i. record { column = is.name i; points = (is.at i).points }

module _ (k : StoreData) (order : List SavedSeries) (w : SavesSeries k.series (map column_of k.columns) order) where
  abbrev all : List ImageSeries
  all = map (image_series_of k) order

  column_parts_of : (s : SavedSeries) → Among s order → SavesColumns (map column_of k.columns) s
  column_parts_of s a = all_among (SavesColumns (map column_of k.columns)) order w.columns s a

  saved_as : (s : SavedSeries) (x : SavedColumn) → Among s order → Among x s.columns → (p : ColumnPoints) × IsSavedAs k s x p
  saved_as s x a b =
      let n = named_at k.columns x.number (record { series = s.series; field = x.field }) (((column_parts_of s a).each x).0 b) in
      (n.0, record { there = at_among k.columns x.number n.0 n.1; at = get_or_from_slice_get k.columns x.number n.0 no_points n.1; name = sym n.2 })

  -- each column of the store is saved
  stored_as : ((c : Column) → Among c (map column_of k.columns) → Among c.series k.series) → (p : ColumnPoints) → Among p k.columns → (s : SavedSeries) × (x : SavedColumn) × Among s order × Among x s.columns × IsSavedAs k s x p
  stored_as registered p a =
      let at = among_at k.columns p a in
      let key = map_back saved_key order p.column.series ((w.each p.column.series).1 (registered p.column (column_there k.columns p a))) in
      let name : record { series = key.0.series; field = p.column.field } ≡ p.column = λ i. record { series = key.2 i; field = p.column.field } in
      let x : SavedColumn = record { field = p.column.field; number = at.0 } in
      let here : Among x key.0.columns = ((column_parts_of key.0 key.1).each x).1 (subst (IsAt (map column_of k.columns) at.0) (sym name) (at_map_of column_of k.columns at.0 p at.1)) in
      (key.0, x, key.1, here, record { there = a; at = get_or_from_slice_get k.columns at.0 p no_points at.1; name = name })

  -- a column of the image is a saved one
  written_as : (t : ImageSeries) (c : ImageColumn) → Among t all → Among c t.columns → (s : SavedSeries) × (x : SavedColumn) × Among s order × Among x s.columns × (image_series_of k s ≡ t) × (image_column_of k x ≡ c)
  written_as t c a b =
      let s = map_back (image_series_of k) order t a in
      let x = map_back (image_column_of k) s.0.columns c (subst (λ (u : ImageSeries). Among c u.columns) (sym s.2) b) in
      (s.0, x.0, s.1, x.1, s.2, x.2)

  columns_forth : (p : ColumnPoints) → Among p (columns_of_image all) → Among p k.columns
  columns_forth p a =
      let f = column_from all p a in
      let t = written_as f.0 f.1 f.2 f.3 in
      let q = saved_as t.0 t.1 t.2 t.3 in
      let same : q.0 ≡ p = sym (same_points k t.0 t.1 q.0 q.1) ∙ (λ i. image_points_in (t.4 i).series (t.5 i)) ∙ f.4 in
      subst (λ (x : ColumnPoints). Among x k.columns) same q.1.there

  columns_back : ((c : Column) → Among c (map column_of k.columns) → Among c.series k.series) → (p : ColumnPoints) → Among p k.columns → Among p (columns_of_image all)
  columns_back registered p a =
      let f = stored_as registered p a in
      subst (λ (x : ColumnPoints). Among x (columns_of_image all)) (same_points k f.0 f.1 p f.4)
      (column_here all (image_series_of k f.0) (image_column_of k f.1) (Among-map (image_series_of k) f.0 order f.2) (Among-map (image_column_of k) f.1 f.0.columns f.3))

  waiting_forth : (c : Column) → Among c (waiting_of_image all) → Among c k.waiting
  waiting_forth c a =
      let f = waiting_from all c a in
      let t = written_as f.0 f.1 f.2 f.3 in
      let q = saved_as t.0 t.1 t.2 t.3 in
      let flag : is_waiting k.waiting (column_at k t.1).column ≡ true = bit_one (is_waiting k.waiting (column_at k t.1).column) (ap (λ (x : ImageColumn). x.waits == 1) t.5 ∙ f.5) in
      let name : (column_at k t.1).column ≡ c = ap column_of q.1.at ∙ sym q.1.name ∙ (λ i. column_of_image (t.4 i).series (t.5 i)) ∙ f.4 in
      subst (λ (x : Column). Among x k.waiting) name (waiting_among (column_at k t.1).column k.waiting flag)

  waiting_back : ((c : Column) → Among c (map column_of k.columns) → Among c.series k.series) → ((c : Column) → Among c k.waiting → Among c (map column_of k.columns)) → (c : Column) → Among c k.waiting → Among c (waiting_of_image all)
  waiting_back registered there c a =
      let p = map_back column_of k.columns c (there c a) in
      let f = stored_as registered p.0 p.1 in
      let name : (column_at k f.1).column ≡ c = ap column_of f.4.at ∙ p.2 in
      let flag : is_waiting k.waiting (column_at k f.1).column ≡ true = ap (is_waiting k.waiting) name ∙ is_waiting-there c k.waiting a in
      subst (λ (x : Column). Among x (waiting_of_image all)) (f.4.name ∙ p.2)
      (waiting_here all (image_series_of k f.0) (image_column_of k f.1) (Among-map (image_series_of k) f.0 order f.2) (Among-map (image_column_of k) f.1 f.0.columns f.3) (ap (λ b. bit b == 1) flag))

  -- in the image's order
  column_orderly : AllByRecursion (λ (c : ColumnPoints). IsRising c.points) k.columns → (s : SavedSeries) (x : SavedColumn) → Among s order → Among x s.columns → IsOrderlyColumn (image_column_of k x)
  column_orderly points s x a b =
      let q = saved_as s x a b in
      record {
        flag = bit_few (is_waiting k.waiting (column_at k x).column);
        rising = subst (λ (c : ColumnPoints). AreRising int_cmp (map (λ (z : ℤ × ℤ). z.0) c.points)) (sym q.1.at) (rising_keys int_cmp q.0.points (all_among (λ (c : ColumnPoints). IsRising c.points) k.columns points q.0 q.1.there));
      }

  series_orderly : AllByRecursion (λ (c : ColumnPoints). IsRising c.points) k.columns → (t : ImageSeries) → Among t all → IsOrderlySeries t
  series_orderly points t a =
      let s = map_back (image_series_of k) order t a in
      subst IsOrderlySeries s.2 (record {
        columns = among_all IsOrderlyColumn (map (image_column_of k) s.0.columns) (λ c b. let x = map_back (image_column_of k) s.0.columns c b in subst IsOrderlyColumn x.2 (column_orderly points s.0 x.0 s.1 x.1));
        rising = subst (AreRising text_cmp) (sym (map-map field_of (image_column_of k) s.0.columns)) (column_parts_of s.0 s.1).rising;
      })

-- ---- cells

abbrev pub is_saved : ℤ → Cell × CellParts → Bool
is_saved low e = int_le low e.0.index && nat_lt 0 e.1.frozen.count

abbrev pub frozen_cell : Cell × CellParts → FrozenCell
frozen_cell e = record { cell = e.0; frozen = e.1.frozen }

abbrev pub written : ℤ → CellMap → List ImageCell
written low m = map image_cell_of (frozen_from low m)

some_from : (n : ℕ) → nat_lt 0 n ≡ true → 0 < n
some_from n e = grind (arith, nat_tests)

some_true : (n : ℕ) → 0 < n → nat_lt 0 n ≡ true
some_true n l = grind (arith, nat_tests)

-- a part that isn't empty has extremes
has_extremes : (a : Aggregate) → IsSound a → 0 < a.count → Some (extremes_in a.extremes) ≡ a.extremes
has_extremes a sound some =
    elim a.extremes as (λ x. MatchOption x (a ≡ empty_aggregate) (IsSpread a.count a.sum) → Some (extremes_in x) ≡ x) [
      | None ↦ λ e. let none : a.count ≡ 0 = ap (λ (b : Aggregate). b.count) e in absurd (omega (arith, some, none))
      | Some x ↦ λ s. refl
    ] sound

whole_part : (q : Cell) (a : Aggregate) → IsSound a → 0 < a.count → cell_part_of (image_cell_of (record { cell = q; frozen = a })) ≡ a
whole_part q a sound some = λ i. record { count = a.count; sum = a.sum; extremes = has_extremes a sound some i }

-- a written cell, by its entry in the map
pub entry_of : (low : ℤ) (m : CellMap) (c : ImageCell) → Among c (written low m) → (e : Cell × CellParts) × Among e (finmap.entries m) × (low ≤ℤ e.0.index) × (0 < e.1.frozen.count) × (image_cell_of (frozen_cell e) ≡ c)
entry_of low m c a =
    let z = map_back image_cell_of (frozen_from low m) c a in
    let e = map_back frozen_cell (filter (is_saved low) (finmap.entries m)) z.0 z.1 in
    let test = and_parts (int_le low e.0.0.index) (nat_lt 0 e.0.1.frozen.count) (Among-filter_passes (is_saved low) e.0 (finmap.entries m) e.1) in
    (e.0, Among-filter_was (is_saved low) e.0 (finmap.entries m) e.1, le_from low e.0.0.index test.0, some_from e.0.1.frozen.count test.1, ap image_cell_of e.2 ∙ z.2)

part_is : (m : CellMap) (e : Cell × CellParts) → Among e (finmap.entries m) → part_at m e.0 ≡ e.1.frozen
part_is m e a = ap (λ (o : Option CellParts). (or_else no_parts o).frozen) (entry_found m e a)

module _ (cut : Column → ℤ) (fs : List Fact) (r : Rule) (low : ℤ) (m : CellMap) (h : HasCells cut fs (rule_cells (record { rule = r; low = low; cells = m }))) where
  part_sound : (q : Cell) → low ≤ℤ q.index → IsSound (part_at m q)
  part_sound q l = subst IsSound (sym (h.frozen q l)) (facts_possible (filter (λ (f : Fact). is_in_cell r q f && not (is_kept cut f)) fs))

  pub written_each : (c : ImageCell) → Among c (written low m) → part_at m c.cell ≡ cell_part_of c
  written_each c a =
      let e = entry_of low m c a in
      let part : part_at m e.0.0 ≡ e.0.1.frozen = part_is m e.0 e.1 in
      let sound : IsSound e.0.1.frozen = subst IsSound part (part_sound e.0.0 e.2) in
      subst (λ (x : ImageCell). part_at m x.cell ≡ cell_part_of x) e.4 (part ∙ sym (whole_part e.0.0 e.0.1.frozen sound e.3))

  written_all : (q : Cell) → low ≤ℤ q.index → 0 < (part_at m q).count → (c : ImageCell) × Among c (written low m) × (c.cell ≡ q)
  written_all q l some =
      elim (finmap.get m q) as (λ o. finmap.get m q ≡ o → 0 < (or_else no_parts o).frozen.count → (c : ImageCell) × Among c (written low m) × (c.cell ≡ q)) [
        | None ↦ λ e n. absurd (omega (arith, n))
        | Some p ↦ λ e n.
            let there : Among (q, p) (finmap.entries m) = among_found exact_cells (finmap.entries m) q p (sym (get-entries m q) ∙ e) in
            let test : is_saved low (q, p) ≡ true = and_from (int_le low q.index) (nat_lt 0 p.frozen.count) (le_true low q.index l) (some_true p.frozen.count n) in
            let stays : Among (q, p) (filter (is_saved low) (finmap.entries m)) = Among-filter_stays (is_saved low) (q, p) (finmap.entries m) there test in
            (image_cell_of (frozen_cell (q, p)), Among-map image_cell_of (frozen_cell (q, p)) (frozen_from low m) (Among-map frozen_cell (q, p) (filter (is_saved low) (finmap.entries m)) stays), refl)
      ] refl some

  written_pictures : PicturesCells low m (written low m)
  written_pictures = record { each = written_each; all = written_all; sound = λ q l none. empty_by_count (part_at m q) (part_sound q l) none }

-- in order, and from the low index on
below_filter : (p : Cell × CellParts → Bool) (q : Cell) (es : List (Cell × CellParts)) → T (below_all cell_cmp q es) → T (below_all cell_cmp q (filter p es))
below_filter p q [] h = tt
below_filter p q (e ∷ es) h =
    let parts = both_of (is_lt (cell_cmp q e.0)) (below_all cell_cmp q es) h in
    elim (p e) as (λ b. T (below_all cell_cmp q (cond b (e ∷ filter p es) (filter p es)))) [
      | true ↦ of_both (is_lt (cell_cmp q e.0)) (below_all cell_cmp q (filter p es)) parts.0 (below_filter p q es parts.1)
      | false ↦ below_filter p q es parts.1
    ]

sorted_filter : (p : Cell × CellParts → Bool) (es : List (Cell × CellParts)) → T (is_sorted cell_cmp es) → T (is_sorted cell_cmp (filter p es))
sorted_filter p [] h = tt
sorted_filter p (e ∷ es) h =
    let parts = both_of (below_all cell_cmp e.0 es) (is_sorted cell_cmp es) h in
    elim (p e) as (λ b. T (is_sorted cell_cmp (cond b (e ∷ filter p es) (filter p es)))) [
      | true ↦ of_both (below_all cell_cmp e.0 (filter p es)) (is_sorted cell_cmp (filter p es)) (below_filter p e.0 es parts.0) (sorted_filter p es parts.1)
      | false ↦ sorted_filter p es parts.1
    ]

written_rising : (low : ℤ) (m : CellMap) → AreRising cell_cmp (map (λ (c : ImageCell). c.cell) (written low m))
written_rising low m =
    subst (AreRising cell_cmp) (sym (map-map (λ (c : ImageCell). c.cell) image_cell_of (frozen_from low m) ∙ map-map (λ (c : FrozenCell). c.cell) frozen_cell (filter (is_saved low) (finmap.entries m)))) (rising_keys cell_cmp (filter (is_saved low) (finmap.entries m)) (sorted_filter (is_saved low) (finmap.entries m) (entries_sorted m)))

written_kept : (low : ℤ) (m : CellMap) → AllByRecursion (λ (c : ImageCell). low ≤ℤ c.cell.index) (written low m)
written_kept low m = among_all (λ (c : ImageCell). low ≤ℤ c.cell.index) (written low m) (λ c a. let e = entry_of low m c a in subst (λ (x : ImageCell). low ≤ℤ x.cell.index) e.4 e.2)

-- ---- rule by rule

all_written : (cut : Column → ℤ) (fs : List Fact) (rs : List RuleData) → AllByRecursion (HasCells cut fs) (map rule_cells rs)
    → (let cells : List (List ImageCell) = map (map image_cell_of) (map (λ (x : RuleData). frozen_from x.low x.cells) rs) in PictureCells rs cells × AreOrderlyCells (map (λ (x : RuleData). x.low) rs) cells)
all_written cut fs [] h = (tt, tt)
all_written cut fs (x ∷ rs) h =
    let rest = all_written cut fs rs h.1 in
    ((written_pictures cut fs x.rule x.low x.cells h.0, rest.0), (record { kept = written_kept x.low x.cells; rising = written_rising x.low x.cells }, rest.1))

-- ---- the whole

module _ (opening : Settings) (h : History) (k : StoreData) (order : List SavedSeries) (st : StandsFor opening h (state_of k)) (w : SavesSeries k.series (map column_of k.columns) order) where
  cells_written : PictureCells k.rules (store_image k order).cells × AreOrderlyCells (store_marks k).lows (store_image k order).cells
  cells_written = all_written (kept_from opening h k.waiting) (latest_of h) k.rules st.rolled

  pub written_picture : IsPictureOf k (store_image k order)
  written_picture = record {
    settings = settings_back (store_settings k);
    marks = refl;
    runs = refl;
    accepted = refl;
    series = λ s. (λ a. (w.each s).0 (subst (Among s) (map-map series_of (image_series_of k) order) a), λ a. subst (Among s) (sym (map-map series_of (image_series_of k) order)) ((w.each s).1 a));
    columns = λ p. (columns_forth k order w p, columns_back k order w (λ c a. st.registered c a) p);
    waiting = λ c. (waiting_forth k order w c, waiting_back k order w (λ x a. st.registered x a) (λ x a. st.waiting_there x a) c);
    cells = cells_written.0;
  }

module _ (opening : Settings) (h : History) (k : StoreData) (order : List SavedSeries) (st : StandsFor opening h (state_of k)) (well : IsWellFormed k) (w : SavesSeries k.series (map column_of k.columns) order) where
  pub written_orderly : IsOrderly (store_image k order)
  written_orderly = record {
    raw = omega (arith, ints);
    durations = lasting (store_settings k).rules;
    series = among_all IsOrderlySeries (map (image_series_of k) order) (series_orderly k order w well.points);
    rising = subst (AreRising series_cmp) (sym (map-map series_of (image_series_of k) order)) w.rising;
    cells = (cells_written opening h k order st w).1;
  }

-- ---- no contradiction

pub written_acceptable : WrittenImagesAreAcceptable
written_acceptable opening h k order st well w =
    let picture = written_picture opening h k order st w in
    record { picture = picture; possible = saved_possible opening h k (store_image k order) st well picture (written_orderly opening h k order st well w) }
