-- Cells of all rules, filled with raw facts.
use Rattle.std.proofs.Common.{rules, ◌≡◌, ◌≢◌, ◌≤◌, ◌^◌, ◌&&◌, ℕ, ℤ, true, false, cond, List, [], ◌∷◌, ◌++◌, length, map, filter, Option, Some, None, option_map, refl, sym, ◌∙◌, ap, subst, inl, inr, ⊎_elim, arith}
use Rattle.std.specs.FinMap as finmap
use Rattle.std.proofs.lemmas.List.{length-map}
use Rattle.std.proofs.lemmas.Option.{none-some, same_Some}
use Rattle.ts_core.specs.lists.Numbered.{IsAt}
use Rattle.ts_core.specs.facts.Facts.{Column, Fact}
use Rattle.ts_core.specs.settings.Settings.{Rule}
use Rattle.ts_core.specs.aggregates.Aggregates.{empty_aggregate, merged, aggregate_of}
use Rattle.ts_core.specs.aggregates.MergeLaws.{aggregate_laws}
use Rattle.ts_core.specs.store.Cells.{Cell, cell_of, is_in_cell, same_cell, total_of}
use Rattle.ts_core.specs.lists.Changes.{or_else}
use Rattle.ts_core.proofs.moves.Freezing.{frozen_in}
use Rattle.ts_core.specs.store.StoreStates.{ColumnPoints, CellParts, column_of, facts_at, facts_of}
use Rattle.ts_core.specs.store.StoreData.{CellMap, RuleData, OfEachRule, no_parts, IsLive}
use Rattle.ts_core.proofs.moves.MovesStand.{key_there, key_not}
use Rattle.ts_core.proofs.plans.PieceCells.{same_cell-refl}
use Rattle.ts_core.proofs.lists.BesideLemmas.{OfEach-weaker, AllZip-same, AllZip-then}
use Rattle.ts_core.specs.lists.Beside.{OfEach}
use Rattle.ts_core.proofs.moves.EachRule.{rules_gain, rules_keep}
use Rattle.ts_store.specs.store.RuleLists.{rules_with}
use Rattle.ts_store.proofs.store.RuleListLemmas.{with_each, with_zip}
use Rattle.ts_store.specs.image.Building.{HasCellsOf}
use Rattle.ts_store.specs.image.BuildingParts.{IsIdle, AreIdle, MakesCells, FillsCells, KeepsFrozen, KeepFrozen, IsFilledBut, AreFilledBut}
use Rattle.ts_raw.specs.Columns.{ColumnState}
use Rattle.ts_raw.specs.Indexed.{Indexed}
use Rattle.ts_store.specs.store.PossibleCells.{HasPossibleCells}
use Rattle.ts_store.specs.store.ColumnStates.{IsSoundContent, content_of, columns_in, point_maps}
use Rattle.ts_store.specs.write.LinesPut.{IsOfFacts, PutsCells, GainsCells}
use Rattle.ts_store.specs.rollup.Rollups.{RollupState, AreRollups, rollup_series_at, cells_of}
use Rattle.ts_store.specs.rollup.ChangedLists.{ChangesBeside}
use Rattle.ts_store.specs.rollup.PointsFilled.{AddsPoints, MakeAllPoints, AddAllPoints}
use Rattle.ts_store.specs.retain.RollupSteps.{with_all_grid_cells}
use Rattle.ts_store.proofs.store.ColumnsLemmas.{known_of, names_held, facts-distinct}
use Rattle.ts_store.proofs.write.PointsPut.{grids_kept_then}
use Rattle.ts_store.proofs.retain.RollupMoves.{rollups_with}
use Rattle.ts_store.proofs.rollup.RollupsGrow.{rollups-length}
use Rattle.ts_store.proofs.write.RollupsPut.{gained, puts_cells}
use Rattle.ts_store.proofs.write.CellsCreatedLemmas.{rollup_series_known}

-- ---- frozen parts stay

pub frozen-same : (ms : List CellMap) → KeepFrozen ms ms
frozen-same ms = AllZip-same KeepsFrozen (λ m k. refl) ms

pub frozen-both : (ms ns os : List CellMap) → KeepFrozen ms ns → KeepFrozen ns os → KeepFrozen ms os
frozen-both ms ns os a b = AllZip-then KeepsFrozen KeepsFrozen KeepsFrozen (λ m n o p q k. q k ∙ p k) ms ns os a b

-- ---- facts that are left

-- nothing is added yet
pub filled-idle : (all : List Fact) (rs : List Rule) (ms : List CellMap) → AreIdle ms → AreFilledBut all all rs ms
filled-idle all (r ∷ rs) (m ∷ ms) h = (λ k p e. ap (λ a. merged a (total_of r k all)) (h.0 k p e) ∙ aggregate_laws.unit (total_of r k all), filled-idle all rs ms h.1)
filled-idle all _ _ h = tt

-- nothing is left
pub filled-live : (columns : List ColumnPoints) (rs : List Rule) (ms : List CellMap) → AreFilledBut [] (facts_of columns) rs ms → OfEach (IsLive columns) rs ms
filled-live columns rs ms h =
    OfEach-weaker (IsFilledBut [] (facts_of columns)) (IsLive columns) (λ r m filled k p e. sym (aggregate_laws.comm p.live empty_aggregate ∙ aggregate_laws.unit p.live) ∙ filled k p e) rs ms h

-- ---- points are added

-- the effect of adding points of the column with this index under a rule
abbrev pub AddsUnder : ℕ → List (ℤ × ℤ) → Rule → RollupState → RollupState → Type 0
AddsUnder number ps r s = AddsPoints r (rollup_series_at s number) ps s

module _ (number : ℕ) (ps : List (ℤ × ℤ)) where
  pub all_frozen : (rs : List Rule) (ss ts : List RollupState) → ChangesBeside (AddsUnder number ps) rs ss ts → KeepFrozen (cells_of ss) (cells_of ts)
  all_frozen (r ∷ rs) (s ∷ ss) [] h = absurd h
  all_frozen (r ∷ rs) (s ∷ ss) (t ∷ ts) h = (h.0.frozen, all_frozen rs ss ts h.1)
  all_frozen _ ss ts h = subst (λ (us : List RollupState). KeepFrozen (cells_of ss) (cells_of us)) (sym h) (frozen-same (cells_of ss))

  pub all_added : (cs : List Column) (c : Column) (left all : List Fact) (rs : List Rule) (ss ts : List RollupState) → IsAt cs number c → AreRollups rs cs ss → length all ≤ 2 ^ 62 → ChangesBeside (AddsUnder number ps) rs ss ts
      → AreFilledBut (facts_at c ps ++ left) all rs (cells_of ss) → AreFilledBut left all rs (cells_of ts)
  all_added cs c left all (r ∷ rs) (s ∷ ss) (t ∷ ts) at over few h filled =
      (h.0.live c left all (rollup_series_known r s.grid.rollup_series cs s.series_of_column number c over.0 at) few filled.0, all_added cs c left all rs ss ts at over.1 few h.1 filled.1)
  all_added cs c left all _ _ _ at over few h filled = search rules

-- ---- cells with their parts

total-nothing : (r : Rule) (k : Cell) (facts : List Fact) → (IsOfFacts facts r k → ⊥) → total_of r k facts ≡ empty_aggregate
total-nothing r k [] apart = refl
total-nothing r k (f ∷ fs) apart =
    elim (is_in_cell r k f) as (λ b. is_in_cell r k f ≡ b → aggregate_of (cond b (f ∷ filter (is_in_cell r k) fs) (filter (is_in_cell r k) fs)) ≡ empty_aggregate) [
      | true ↦ λ e. absurd (apart (f, inl refl, e))
      | false ↦ λ e. total-nothing r k fs (λ h. apart (h.0, inr h.1, h.2))
    ] refl

-- a part that stays is there still
still : (a b : Option CellParts) → option_map (λ (p : CellParts). p.frozen) a ≡ option_map (λ (p : CellParts). p.frozen) b → b ≢ None → a ≢ None
still a None e some none = some refl
still a (Some p) e some none = none-some p.frozen (sym (ap (option_map (λ (y : CellParts). y.frozen)) none) ∙ e)

same_parts : (a b : Option CellParts) → option_map (λ (p : CellParts). p.frozen) a ≡ option_map (λ (p : CellParts). p.frozen) b → ((p q : CellParts) → a ≡ Some p → b ≡ Some q → p.live ≡ q.live) → a ≡ b
same_parts None None e h = refl
same_parts (Some p) (Some q) e h =
    let frozen : p.frozen ≡ q.frozen = same_Some p.frozen q.frozen e in
    let alive : p.live ≡ q.live = h p q refl refl in
    λ i. Some (record { frozen = frozen i; live = alive i })
same_parts _ _ e h = cc

or_frozen : (x : Option CellParts) → frozen_in x ≡ or_else empty_aggregate (option_map (λ (p : CellParts). p.frozen) x)
or_frozen None = refl
or_frozen (Some p) = refl

-- created cells have no live part
idle_made : (facts : List Fact) (r : Rule) (low : ℤ) (m o : CellMap) → GainsCells facts r low m o → IsIdle m → IsIdle o
idle_made facts r low m o gains idle k p e =
    ⊎_elim {C = p.live ≡ empty_aggregate} (λ same. idle k p (sym same ∙ e)) (λ new. ap (λ (y : CellParts). y.live) (same_Some p no_parts (sym e ∙ new.1))) (gained facts r low m o gains k)

fills : (columns : List ColumnPoints) (r : Rule) (low : ℤ) (m o n : CellMap) → MakesCells (facts_of columns) r low m o → KeepsFrozen o n → IsLive columns r n → IsIdle m → PutsCells (facts_of columns) r low m n
fills columns r low m o n made keeps live idle =
    puts_cells (facts_of columns) r low m o made.gains n made.there
    (λ k. (still (finmap.get o k) (finmap.get n k) (sym (keeps k)), still (finmap.get n k) (finmap.get o k) (keeps k)))
    (λ k. or_frozen (finmap.get n k) ∙ ap (or_else empty_aggregate) (keeps k) ∙ sym (or_frozen (finmap.get o k)))
    (λ k apart. same_parts (finmap.get n k) (finmap.get o k) (keeps k)
    (λ p q here there. live k p here ∙ total-nothing r k (facts_of columns) apart ∙ sym (idle_made (facts_of columns) r low m o made.gains idle k q there)))

all-filled : (columns : List ColumnPoints) (rs : List Rule) (lows : List ℤ) (ms os ns : List CellMap) → OfEachRule (MakesCells (facts_of columns)) (rules_with rs lows ms) (rules_with rs lows os) → KeepFrozen os ns → OfEach (IsLive columns) rs ns → AreIdle ms
    → OfEachRule (PutsCells (facts_of columns)) (rules_with rs lows ms) (rules_with rs lows ns)
all-filled columns (r ∷ rs) (low ∷ lows) [] [] [] made keeps live idle = tt
all-filled columns (r ∷ rs) (low ∷ lows) (m ∷ ms) (o ∷ os) (n ∷ ns) made keeps live idle = ((refl, refl, fills columns r low m o n made.0.2 keeps.0 live.0 idle.0), all-filled columns rs lows ms os ns made.1 keeps.1 live.1 idle.1)
all-filled columns _ _ _ _ _ made keeps live idle = search rules

-- the cells of a rule are ones that it can have
abbrev possible_in : RuleData → Type 0
possible_in x = HasPossibleCells x.rule x.cells

idle-made : (facts : List Fact) (rs : List Rule) (lows : List ℤ) (ms os : List CellMap) → length lows ≡ length rs → length os ≡ length rs → OfEachRule (MakesCells facts) (rules_with rs lows ms) (rules_with rs lows os) → AreIdle ms → AreIdle os
idle-made facts rs lows ms [] l n h idle = tt
idle-made facts (r ∷ rs) (low ∷ lows) (m ∷ ms) (o ∷ os) l n h idle = (idle_made facts r low m o h.0.2.gains idle.0, idle-made facts rs lows ms os (omega (arith, l)) (omega (arith, n)) h.1 idle.1)
idle-made facts _ _ _ _ l n h idle = search rules

-- ---- the whole

module _ (rs : List Rule) (lows : List ℤ) (index : Indexed) (ss : List ColumnState) (us vs ws : List RollupState) (held : IsSoundContent index ss) (many : length lows ≡ length rs) (rollups : AreRollups rs (map column_of (columns_in index ss)) us) (idle : AreIdle (cells_of us)) where
  names : AreRollups rs index.columns us
  names = subst (λ (cs : List Column). AreRollups rs cs us) (names_held index ss held.each) rollups

  pub all_fill : vs ≡ with_all_grid_cells (cells_of vs) us → ws ≡ with_all_grid_cells (cells_of ws) vs → MakeAllPoints rs lows ss us vs → KeepFrozen (cells_of vs) (cells_of ws) → AddAllPoints rs ss vs ws
      → FillsCells rs lows (content_of index ss us) (content_of index ss ws)
  all_fill one two make frozen add =
      let facts : List Fact = facts_of (columns_in index ss) in
      let before : List RuleData = rules_with rs lows (cells_of us) in
      let roomy : List RuleData = rules_with rs lows (cells_of vs) in
      let after : List RuleData = rules_with rs lows (cells_of ws) in
      let made : OfEachRule (MakesCells facts) before roomy = make index.columns held.each names in
      let between : AreRollups rs index.columns vs = subst (AreRollups rs index.columns) (sym one) (rollups_with rs index.columns (cells_of vs) us names) in
      let many_cells : length (cells_of vs) ≡ length rs = length-map vs (λ (s : RollupState). s.grid.cells) ∙ rollups-length rs index.columns vs between in
      let live : OfEach (IsLive (columns_in index ss)) rs (cells_of ws) = add index.columns held.each between (idle-made facts rs lows (cells_of us) (cells_of vs) many many_cells made idle) in
      let cells : OfEachRule (PutsCells facts) before after = all-filled (columns_in index ss) rs lows (cells_of us) (cells_of vs) (cells_of ws) made frozen live idle in
      record {
        others = ap (content_of index ss) (grids_kept_then us vs ws one two);
        cells = cells;
        has_cells = rules_gain (PutsCells facts) (λ (x : RuleData). HasCellsOf facts x.rule x.low x.cells)
            (λ x n puts f a rolled above none. (puts.there (cell_of x.rule f)).1 (inr (above, (f, a, ap (λ b. b && same_cell (cell_of x.rule f) (cell_of x.rule f)) rolled ∙ same_cell-refl (cell_of x.rule f)))) none) before after cells;
        live = with_each (IsLive (columns_in index ss)) rs lows (cells_of ws) live;
        possible = λ v. rules_keep (λ r low. KeepsFrozen) possible_in possible_in
            (λ x n keep all k a. all k (key_there x.cells k (still (finmap.get x.cells k) (finmap.get n k) (sym (keep k)) (key_not n k a)))) roomy after
            (with_zip KeepsFrozen rs lows (cells_of vs) (cells_of ws) frozen) (rules_keep (MakesCells facts) possible_in possible_in (λ x o made. made.possible) before roomy made v);
        known = known_of index ss ws held;
        once = facts-distinct index.columns (point_maps ss) held.sound.columns_once;
      }
