-- The cells of a walk with their parts: those that a store shows of the rule, those of them with frozen facts, and what
-- they are by the history that the store represents.
use Rattle.std.proofs.Common.{◌≡◌, ℕ, ℤ, pos, ◌<◌, ◌≤◌, ◌^◌, true, false, cond, List, [], ◌∷◌, length, map, filter, get_or, Option, Some, refl, sym, ◌∙◌, ap, ap₂, subst, inl, inr, arith, ◌≤ℤ◌, ◌&&◌, Bool, negsuc, ◌<ℤ◌, int_le, nat_lt, unsigned_abs, FitsSigned, w64, ◌+◌, not, int_lt}
use Rattle.std.specs.FinMap as finmap
use Rattle.std.specs.FinMap.{get-entries, entries_sorted}
use Rattle.std.specs.List.{AllByRecursion}
use Rattle.std.proofs.lemmas.List.{get_or_default, length-map}
use Rattle.std.proofs.lemmas.Option.{slice_get-get_or, get_or_from_slice_get, same_Some}
use Rattle.ts_core.specs.lists.Members.{Among}
use Rattle.ts_core.specs.facts.Facts.{Fact, is_within, Column}
use Rattle.ts_core.specs.settings.Settings.{Rule, Settings, IsPossibleRule}
use Rattle.ts_core.specs.store.Marks.{Marks, index_of}
use Rattle.ts_core.specs.aggregates.Aggregates.{Aggregate, empty_aggregate, aggregate_of}
use Rattle.ts_core.specs.aggregates.MergeLaws.{aggregate_laws}
use Rattle.ts_core.specs.store.Cells.{Cell, is_in_cell, cell_of, is_rolled, same_cell, total_of, frozen_of, live_of}
use Rattle.ts_core.specs.lists.Changes.{or_else}
use Rattle.ts_core.specs.store.StoreStates.{ColumnPoints, CellParts, column_of, facts_of, RuleCells, StandsFor, HasCells}
use Rattle.ts_core.specs.store.StoreData.{CellMap, RuleData, StoreData, no_parts, rule_cells, state_of, IsLive}
use Rattle.ts_core.specs.store.Views.{view_state_of}
use Rattle.ts_core.proofs.store.Cuts.{one_fact}
use Rattle.ts_core.proofs.aggregates.Folds.{fold-count}
use Rattle.ts_core.proofs.lists.MembersLemmas.{Among-filter_was, at_map_of, Among-filter_stays, filter-none, Among-map, map_back}
use Rattle.ts_core.proofs.plans.PieceCells.{cells_total, same_cell-eq}
use Rattle.ts_core.proofs.lists.Sorted.{found_among}
use Rattle.ts_core.specs.lists.Numbered.{IsAt}
use Rattle.ts_core.proofs.lists.NumberedLemmas.{at_among}
use Rattle.ts_core.proofs.lists.Permutations.{pick}
use Rattle.ts_store.proofs.store.RuleListLemmas.{its_inside, with_at}
use Rattle.ts_cells.specs.Walks.{CellWithPart, entry_of, entries_within}
use Rattle.ts_store.specs.store.CellCounts.{HoldsFew, frozen_count}
use Rattle.ts_store.specs.store.ColumnStates.{StoreContent}
use Rattle.ts_store.specs.retain.OpenRuns.{Run, data_of_parts}
use Rattle.ts_store.specs.store.SoundStores.{IsSoundStore}
use Rattle.ts_store.specs.read.LiveCells.{walked_cell, walked_cells, rollup_at, cells_of_rule, IsWhole, AreWhole, IsRuled}
use Rattle.ts_store.specs.rollup.Rollups.{RollupState, new_rollup, cells_of}
use Rattle.ts_store.specs.read.ViewResults.{SeenCell, with_parts, cells_within, view_cells_at, no_rule}
use Rattle.ts_store.proofs.rollup.RollupsGrow.{rollups-length}
use Rattle.std.proofs.lemmas.Bool.{and_parts}
use Rattle.ts_core.specs.facts.Latest.{latest_of}
use Rattle.ts_core.specs.store.History.{History}
use Rattle.ts_core.specs.store.RawFacts.{kept_from}
use Rattle.ts_store.specs.read.CellsRead.{AreCellsOf}
use Rattle.std.proofs.lemmas.Int.{ints}
use Rattle.ts_core.specs.facts.Times.{IsTime}
use Rattle.ts_core.proofs.lists.Comparisons.{lt_true, le_true, and_true}
use Rattle.ts_core.proofs.aggregates.IndicesFit.{indices_fit}
use Rattle.ts_cells.specs.FrozenCounts.{frozen_cell_count}
use Rattle.ts_store.specs.store.PossibleCells.{IsBucketIndex, HasPossibleCells}
use Rattle.ts_cells.proofs.FrozenLemmas.{count_split}
use Rattle.ts_store.specs.image.FrozenLeft.{holds_frozen, frozen_cell, frozen_left, HasNearCells}
use Rattle.ts_store.specs.image.SavedContent.{FrozenCell, frozen_from}

-- ---- cells of a map

-- a cell that was found
abbrev IsFound : CellMap → CellWithPart CellParts → Type 0
IsFound m k = finmap.get m k.cell ≡ Some k.part

parts_shown : (r : Rule) (low : ℤ) (m : CellMap) (k : CellWithPart CellParts) → IsFound m k → walked_cell k ≡ with_parts (rule_cells (record { rule = r; low = low; cells = m })).parts k.cell
parts_shown r low m k found =
    let parts : k.part ≡ or_else no_parts (finmap.get m k.cell) = sym (ap (or_else no_parts) found) in
    λ i. record { cell = k.cell; parts = parts i }

cell_whole : (r : Rule) (columns : List ColumnPoints) (m : CellMap) → IsLive columns r m → HoldsFew (2 ^ 62) columns r m → (k : CellWithPart CellParts) → IsFound m k → IsWhole k
cell_whole r columns m live counts k found =
    let frozen : k.part.frozen.count ≡ frozen_count m k.cell = sym (ap (λ o. (or_else no_parts o).frozen.count) found) in
    let inside : List Fact = filter (is_in_cell r k.cell) (facts_of columns) in
    let count : k.part.live.count ≡ length inside = ap (λ (a : Aggregate). a.count) (live k.cell k.part found) ∙ fold-count aggregate_laws one_fact (λ f. refl) inside in
    let both = counts k.cell in
    omega (arith, frozen, count, both)

-- each entry of a map is found in it
pub entry_found : (m : CellMap) (e : Cell × CellParts) → Among e (finmap.entries m) → finmap.get m e.0 ≡ Some e.1
entry_found m e a = get-entries m e.0 ∙ found_among cells_total (finmap.entries m) (entries_sorted m) e a

all_found : (m : CellMap) (es : List (Cell × CellParts)) → ((e : Cell × CellParts) → Among e es → finmap.get m e.0 ≡ Some e.1) → (ks : List (CellWithPart CellParts)) → map entry_of ks ≡ es → AllByRecursion (IsFound m) ks
all_found m es find [] e = tt
all_found m es find (k ∷ ks) e = (
  find (entry_of k) (subst (Among (entry_of k)) e (inl refl)),
  all_found m (map entry_of ks) (λ x a. find x (subst (Among x) e (inr a))) ks refl,
)

walk_found : (m : CellMap) (a b : ℤ) (ks : List (CellWithPart CellParts)) → map entry_of ks ≡ entries_within a b m → AllByRecursion (IsFound m) ks
walk_found m a b ks e = all_found m (entries_within a b m) (λ x k. entry_found m x (Among-filter_was (λ (y : Cell × CellParts). is_within a b y.0.index) x (finmap.entries m) k)) ks e

all_whole : (r : Rule) (columns : List ColumnPoints) (m : CellMap) → IsLive columns r m → HoldsFew (2 ^ 62) columns r m → (ks : List (CellWithPart CellParts)) → AllByRecursion (IsFound m) ks → AreWhole ks
all_whole r columns m live counts [] found = tt
all_whole r columns m live counts (k ∷ ks) found = (cell_whole r columns m live counts k found.0, all_whole r columns m live counts ks found.1)

all_shown : (r : Rule) (low : ℤ) (m : CellMap) (ks : List (CellWithPart CellParts)) → AllByRecursion (IsFound m) ks → walked_cells ks ≡ map (with_parts (rule_cells (record { rule = r; low = low; cells = m })).parts) (map (λ (e : Cell × CellParts). e.0) (map entry_of ks))
all_shown r low m [] found = refl
all_shown r low m (k ∷ ks) found = ap₂ (λ (x : SeenCell) (xs : List SeenCell). x ∷ xs) (parts_shown r low m k found.0) (all_shown r low m ks found.1)

keys_within : (a b : ℤ) (es : List (Cell × CellParts)) → map (λ (e : Cell × CellParts). e.0) (filter (λ (e : Cell × CellParts). is_within a b e.0.index) es) ≡ filter (λ (k : Cell). is_within a b k.index) (map (λ (e : Cell × CellParts). e.0) es)
keys_within a b [] = refl
keys_within a b (e ∷ es) =
    let rest = keys_within a b es in
    elim (is_within a b e.0.index) as (λ z. map (λ (x : Cell × CellParts). x.0) (cond z (e ∷ filter (λ (x : Cell × CellParts). is_within a b x.0.index) es) (filter (λ (x : Cell × CellParts). is_within a b x.0.index) es))
    ≡ cond z (e.0 ∷ filter (λ (k : Cell). is_within a b k.index) (map (λ (x : Cell × CellParts). x.0) es)) (filter (λ (k : Cell). is_within a b k.index) (map (λ (x : Cell × CellParts). x.0) es))) [
      | true ↦ ap (λ ks. e.0 ∷ ks) rest
      | false ↦ rest
    ]

-- and they are those that are shown
walk_shows : (r : Rule) (low : ℤ) (m : CellMap) (a b : ℤ) (ks : List (CellWithPart CellParts)) → map entry_of ks ≡ entries_within a b m → walked_cells ks ≡ cells_within (rule_cells (record { rule = r; low = low; cells = m })) a b
walk_shows r low m a b ks e =
    let parts : Cell → CellParts = (rule_cells (record { rule = r; low = low; cells = m })).parts in
    all_shown r low m ks (walk_found m a b ks e)
    ∙ ap (λ es. map (with_parts parts) (map (λ (x : Cell × CellParts). x.0) es)) e
    ∙ ap (map (with_parts parts)) (keys_within a b (finmap.entries m))

-- ---- frozen cells

near_time : (t : ℤ) → IsTime t → unsigned_abs t ≤ 2 ^ 65
near_time (pos n) is = let h = is.not_after in omega (arith, ints)
near_time (negsuc n) is = let h = is.not_before in omega (arith, ints)

below_end : (z : ℤ) → FitsSigned w64 z → z <ℤ pos (2 ^ 64)
below_end z fits = omega (arith, ints)

pub index_near : (r : Rule) (i : ℤ) → pos 1000000000 ≤ℤ r.interval → FitsSigned w64 r.offset → IsBucketIndex r i → i <ℤ pos (2 ^ 64)
index_near r i long offset is = subst (λ z. z <ℤ pos (2 ^ 64)) is.2 (below_end (index_of r is.0) (indices_fit.bucket r is.0 long offset (near_time is.0 is.1)))

-- ---- cells

abbrev is_frozen : Cell × CellParts → Bool
is_frozen e = nat_lt 0 e.1.frozen.count

abbrev frozen_entry : Cell × CellParts → FrozenCell
frozen_entry e = record { cell = e.0; frozen = e.1.frozen }

left_frozen : (ks : List (CellWithPart CellParts)) → frozen_left ks ≡ map frozen_entry (filter is_frozen (map entry_of ks))
left_frozen [] = refl
left_frozen (k ∷ ks) =
    elim (holds_frozen k) as (λ b. map frozen_cell (cond b (k ∷ filter holds_frozen ks) (filter holds_frozen ks)) ≡ map frozen_entry (cond b (entry_of k ∷ filter is_frozen (map entry_of ks)) (filter is_frozen (map entry_of ks)))) [
      | true ↦ ap (λ (xs : List FrozenCell). frozen_cell k ∷ xs) (left_frozen ks)
      | false ↦ left_frozen ks
    ]

-- the frozen ones of those that pass a test
both : (p q : Cell × CellParts → Bool) (es : List (Cell × CellParts)) → ((e : Cell × CellParts) → Among e es → p e ≡ q e) → filter is_frozen (filter p es) ≡ filter (λ e. q e && is_frozen e) es
both p q [] same = refl
both p q (e ∷ es) same =
    let rest = both p q es (λ x a. same x (inr a)) in
    let inside : List (Cell × CellParts) = filter p es in
    let those : List (Cell × CellParts) = filter (λ x. q x && is_frozen x) es in
    ap (λ b. filter is_frozen (cond b (e ∷ inside) inside)) (same e (inl refl))
    ∙ elim (q e) as (λ b. filter is_frozen (cond b (e ∷ inside) inside) ≡ cond (b && is_frozen e) (e ∷ those) those) [
      | true ↦ elim (is_frozen e) as (λ b. cond b (e ∷ filter is_frozen inside) (filter is_frozen inside) ≡ cond b (e ∷ those) those) [ true ↦ ap (λ (xs : List (Cell × CellParts)). e ∷ xs) rest | false ↦ rest ]
      | false ↦ rest
    ]

pub walk_frozen : (m : CellMap) (low to : ℤ) (ks : List (CellWithPart CellParts)) → ((k : Cell) → Among k (finmap.keys m) → k.index <ℤ to) → map entry_of ks ≡ entries_within low to m → frozen_left ks ≡ frozen_from low m
walk_frozen m low to ks near e =
    left_frozen ks
    ∙ ap (λ (es : List (Cell × CellParts)). map frozen_entry (filter is_frozen es)) e
    ∙ ap (map frozen_entry) (both (λ x. is_within low to x.0.index) (λ x. int_le low x.0.index) (finmap.entries m)
    (λ x a. ap (λ b. int_le low x.0.index && b) (lt_true x.0.index to (near x.0 (Among-map (λ (y : Cell × CellParts). y.0) x (finmap.entries m) a))) ∙ and_true (int_le low x.0.index)))

-- of the rule of a number
pub facts_frozen : (held : StoreContent) (r : Rule) (n : ℕ) (s : RollupState) (low to : ℤ) (ks : List (CellWithPart CellParts)) → HasNearCells held r n → pos (2 ^ 64) ≤ℤ to → s ≡ get_or held.rollups n s → map entry_of ks ≡ entries_within low to s.grid.cells
    → frozen_left ks ≡ frozen_from low (rollup_at held.rollups n).grid.cells
facts_frozen held r n s low to ks near wide read entries =
    let is : s ≡ rollup_at held.rollups n = read ∙ get_or_default held.rollups n s new_rollup near.there in
    walk_frozen (rollup_at held.rollups n).grid.cells low to ks
    (λ k a. let below = index_near r k.index near.second near.offset (near.possible k a).index in omega (arith, ints, below, wide))
    (entries ∙ ap (λ (t : RollupState). entries_within low to t.grid.cells) is)

-- ---- their number

not_low : (low i : ℤ) → int_lt i low ≡ not (int_le low i)
not_low low i =
    elim (int_le low i) as (λ b. int_le low i ≡ b → int_lt i low ≡ not b) [
      | true ↦ λ e. grind (arith, ints)
      | false ↦ λ e. grind (arith, ints)
    ] refl

above_start : (z : ℤ) → FitsSigned w64 z → negsuc (2 ^ 64) ≤ℤ z
above_start z fits = omega (arith, ints)

-- the cells of a walk below a low index, and those from it on, are all that have frozen facts
pub facts_counted : (held : StoreContent) (r : Rule) (n : ℕ) (s : RollupState) (from low : ℤ) (ks : List (CellWithPart CellParts)) → HasNearCells held r n → from ≤ℤ negsuc (2 ^ 64) → s ≡ get_or held.rollups n s → map entry_of ks ≡ entries_within from low s.grid.cells
    → length (frozen_from low (rollup_at held.rollups n).grid.cells) + length (frozen_left ks) ≡ frozen_cell_count (λ (a : Aggregate). a.count) s.grid.cells
facts_counted held r n s from low ks near wide read entries =
    let is : s ≡ rollup_at held.rollups n = read ∙ get_or_default held.rollups n s new_rollup near.there in
    let m : CellMap = (rollup_at held.rollups n).grid.cells in
    let es : List (Cell × CellParts) = finmap.entries m in
    let on : Cell × CellParts → Bool = λ e. int_le low e.0.index in
    let start : (e : Cell × CellParts) → Among e es → from ≤ℤ e.0.index =
    λ e a. let k = near.possible e.0 (Among-map (λ (y : Cell × CellParts). y.0) e es a) in
    let above = subst (λ z. negsuc (2 ^ 64) ≤ℤ z) k.index.2 (above_start (index_of r k.index.0) (indices_fit.bucket r k.index.0 near.second near.offset (near_time k.index.0 k.index.1))) in
    omega (arith, ints, above, wide) in
    let left : length (frozen_left ks) ≡ length (filter (λ (e : Cell × CellParts). not (on e) && is_frozen e) es) =
    ap length (left_frozen ks ∙ ap (λ (xs : List (Cell × CellParts)). map frozen_entry (filter is_frozen xs)) (entries ∙ ap (λ (t : RollupState). entries_within from low t.grid.cells) is) ∙ ap (map frozen_entry) (both (λ x. is_within from low x.0.index) (λ x. not (on x)) es (λ x a. ap₂ (λ b d. b && d) (le_true from x.0.index (start x a)) (not_low low x.0.index))))
    ∙ length-map (filter (λ (e : Cell × CellParts). not (on e) && is_frozen e) es) frozen_entry in
    let those : length (frozen_from low m) ≡ length (filter (λ (e : Cell × CellParts). on e && is_frozen e) es) = length-map (filter (λ (e : Cell × CellParts). on e && is_frozen e) es) frozen_entry in
    let all = count_split on is_frozen es in
    let same = ap (λ (t : RollupState). frozen_cell_count (λ (a : Aggregate). a.count) t.grid.cells) is in
    omega arith

-- ---- the rule of a number, of a whole store

rule_few : (n m : ℕ) (columns : List ColumnPoints) (r : Rule) (cells : CellMap) → n ≤ m → HoldsFew n columns r cells → HoldsFew m columns r cells
rule_few n m columns r cells more few = λ k. let f = few k in omega (arith, f, more)

module _ (settings : Settings) (marks : Marks) (accepted : ℕ) (held : StoreContent) (run : Option Run) (n : ℕ) (r : Rule) (kept : IsSoundStore settings marks accepted held run) (k : StoreData) (view : data_of_parts settings marks accepted held run ≡ k) (there : n < length k.rules) (rules : List Rule) (lent : rules ≡ settings.rules) (read : r ≡ get_or rules n r) where
  there_too : n < length settings.rules
  there_too = its_inside settings marks accepted held run kept k view n there

  pub below : n < length held.rollups
  below = let l = rollups-length settings.rules (map column_of held.columns) held.rollups kept.rollups in let i = there_too in omega (arith, l, i)

  pub rule_at : IsAt settings.rules n r
  rule_at = slice_get-get_or settings.rules n r there_too ∙ ap Some (sym (read ∙ ap (λ rs. get_or rs n r) lent))

  here : IsAt held.rollups n (rollup_at held.rollups n)
  here = slice_get-get_or held.rollups n new_rollup below

  -- the rule with its low index and its cells
  abbrev pub its_data : RuleData
  its_data = record { rule = r; low = get_or marks.lows n (pos 0); cells = (rollup_at held.rollups n).grid.cells }

  pub data_at : IsAt k.rules n its_data
  data_at = subst (λ (z : StoreData). IsAt z.rules n its_data) view (with_at settings.rules marks.lows (cells_of held.rollups) n r (rollup_at held.rollups n).grid.cells kept.lows rule_at (at_map_of (λ (x : RollupState). x.grid.cells) held.rollups n (rollup_at held.rollups n) here))

  -- what holds of each rule, holds of it
  pub its_part : (P : RuleData → Type 0) → AllByRecursion P (data_of_parts settings marks accepted held run).rules → P its_data
  its_part P all = pick P its_data k.rules (subst (λ (z : StoreData). AllByRecursion P z.rules) view all) (at_among k.rules n its_data data_at)

  pub store_ruled : IsRuled held r n
  store_ruled = record {
    there = below;
    live = its_part (λ (x : RuleData). IsLive held.columns x.rule x.cells) kept.live;
    few = rule_few accepted (2 ^ 62) held.columns r (rollup_at held.rollups n).grid.cells kept.sized.accepted
        (its_part (λ (x : RuleData). HoldsFew accepted held.columns x.rule x.cells) kept.counts);
  }

  -- its cells are shown
  pub store_shows : (a b : ℤ) → cells_of_rule held r n a b ≡ view_cells_at (view_state_of (state_of k)).rules n a b
  store_shows a b = ap (λ (t : RuleCells). cells_within t a b) (sym (get_or_from_slice_get (map rule_cells k.rules) n (rule_cells its_data) no_rule (at_map_of rule_cells k.rules n its_data data_at)))

  pub store_near : AllByRecursion (λ (q : Rule). pos 1000000000 ≤ℤ q.interval) settings.rules → AllByRecursion IsPossibleRule settings.rules → HasNearCells held r n
  store_near seconds possible =
      let at : Among r settings.rules = at_among settings.rules n r rule_at in
      record {
        there = below;
        second = pick (λ (q : Rule). pos 1000000000 ≤ℤ q.interval) r settings.rules seconds at;
        offset = (pick IsPossibleRule r settings.rules possible at).offset;
        possible = its_part (λ (x : RuleData). HasPossibleCells x.rule x.cells) kept.possible;
      }

  -- the rule with this index is this one
  pub its_cells : (x : RuleData) → IsAt k.rules n x → frozen_from (get_or marks.lows n (pos 0)) (rollup_at held.rollups n).grid.cells ≡ frozen_from x.low x.cells
  its_cells x at =
      let same : its_data ≡ x = same_Some _ x (sym data_at ∙ at) in
      ap (λ (y : RuleData). frozen_from y.low y.cells) same

-- ---- a walk over the cells of the rule of a number

module _ (held : StoreContent) (r : Rule) (n : ℕ) (s : RollupState) (a b : ℤ) (ks : List (CellWithPart CellParts)) (ruled : IsRuled held r n) (read : s ≡ get_or held.rollups n s) (entries : map entry_of ks ≡ entries_within a b s.grid.cells) where
  its_rollup : s ≡ rollup_at held.rollups n
  its_rollup = read ∙ get_or_default held.rollups n s new_rollup ruled.there

  its_entries : map entry_of ks ≡ entries_within a b (rollup_at held.rollups n).grid.cells
  its_entries = entries ∙ ap (λ (t : RollupState). entries_within a b t.grid.cells) its_rollup

  pub facts_whole : AreWhole ks
  facts_whole = all_whole r held.columns (rollup_at held.rollups n).grid.cells ruled.live ruled.few ks (walk_found (rollup_at held.rollups n).grid.cells a b ks its_entries)

  pub facts_walked : walked_cells ks ≡ cells_of_rule held r n a b
  facts_walked = walk_shows r (pos 0) (rollup_at held.rollups n).grid.cells a b ks its_entries

-- ---- by the history that a store represents

module _ (cut : Column → ℤ) (facts : List Fact) (r : RuleCells) (a b : ℤ) (has : HasCells cut facts r) where
  abbrev cells : List SeenCell
  cells = cells_within r a b

  abbrev inside : Cell → Bool
  inside k = is_within a b k.index

  frozen_there : (c : SeenCell) → Among c cells → r.low ≤ℤ c.cell.index → c.parts.frozen ≡ frozen_of cut r.rule c.cell facts
  frozen_there c there =
      let from = map_back (with_parts r.parts) (filter inside r.cells) c there in
      subst (λ (x : SeenCell). r.low ≤ℤ x.cell.index → x.parts.frozen ≡ frozen_of cut r.rule x.cell facts) from.2 (has.frozen from.0)

  live_there : (c : SeenCell) → Among c cells → r.low ≤ℤ c.cell.index → c.parts.live ≡ live_of cut r.rule c.cell facts
  live_there c there =
      let from = map_back (with_parts r.parts) (filter inside r.cells) c there in
      subst (λ (x : SeenCell). r.low ≤ℤ x.cell.index → x.parts.live ≡ live_of cut r.rule x.cell facts) from.2 (has.live from.0)

  module _ (k : Cell) (low : r.low ≤ℤ k.index) (within : inside k ≡ true) (out : Among k (map (λ (c : SeenCell). c.cell) cells) → ⊥) where
    -- the cell of a fact is among them
    never : (f : Fact) → Among f facts → is_in_cell r.rule k f ≡ true → ⊥
    never f there here =
        let tests = and_parts (is_rolled r.rule f) (same_cell (cell_of r.rule f) k) here in
        let same = same_cell-eq (cell_of r.rule f) k tests.1 in
        let kept : Among (cell_of r.rule f) r.cells = has.there f there (search tests) (subst (λ (q : Cell). r.low ≤ℤ q.index) (sym same) low) in
        let passed : Among k (filter inside r.cells) = Among-filter_stays inside k r.cells (subst (λ (q : Cell). Among q r.cells) same kept) within in
        out (Among-map (λ (c : SeenCell). c.cell) (with_parts r.parts k) cells (Among-map (with_parts r.parts) k (filter inside r.cells) passed))

    none_in : (f : Fact) → Among f facts → is_in_cell r.rule k f ≡ false
    none_in f there = elim (is_in_cell r.rule k f) as (λ (t : Bool). is_in_cell r.rule k f ≡ t → t ≡ false) [
      | true ↦ λ e. absurd (never f there e)
      | false ↦ λ e. refl
    ] refl

    nothing_left : total_of r.rule k facts ≡ empty_aggregate
    nothing_left = ap aggregate_of (filter-none (is_in_cell r.rule k) facts none_in)

-- the walk over the cells of the rule with this index
pub cells_stand : (opening : Settings) (h : History) (k : StoreData) (n : ℕ) (r : RuleCells) (a b : ℤ) → IsAt (state_of k).rules n r → StandsFor opening h (state_of k) → AreCellsOf k.waiting r a b (cells_within r a b) opening h
cells_stand opening h k n r a b at st =
    let cut : Column → ℤ = kept_from opening h k.waiting in
    let has : HasCells cut (latest_of h) r = pick (HasCells cut (latest_of h)) r (state_of k).rules st.rolled (at_among (state_of k).rules n r at) in
    record {
      frozen = frozen_there cut (latest_of h) r a b has;
      live = live_there cut (latest_of h) r a b has;
      others = nothing_left cut (latest_of h) r a b has;
    }
