-- A begin and the steps of a run, on a store's content: it still represents its history, and has its invariant.
use Rattle.std.proofs.Common.{◌≡◌, ◌⊎◌, ℕ, ℤ, ◌+◌, ◌≤◌, ◌^◌, true, false, true≢false, List, [], ◌∷◌, length, map, refl, sym, ◌∙◌, ap, ap₂, subst, inl, inr, ⊎_elim, arith, Option, Some, None, cond, filter, int_le, get_or, Bool, not, ◌&&◌}
use Rattle.std.specs.Int.{int_max}
use Rattle.std.specs.List.{AllByRecursion}
use Rattle.std.proofs.lemmas.List.{length-map, append-nil}
use Rattle.std.proofs.lemmas.Option.{slice_get-get_or}
use Rattle.ts_core.specs.lists.Members.{Among, AllDistinct}
use Rattle.ts_core.specs.facts.Facts.{Column, Fact, same_text}
use Rattle.ts_core.specs.settings.Settings.{Rule, Settings}
use Rattle.ts_core.specs.store.Marks.{Marks}
use Rattle.ts_core.specs.store.History.{Step, kept_since}
use Rattle.ts_core.specs.store.RawFacts.{same_column}
use Rattle.ts_core.specs.store.StoreStates.{ColumnPoints, StandsFor, column_of, facts_of, fact_at, facts_at}
use Rattle.ts_core.specs.store.StoreData.{CellMap, RuleData, StoreData, store_settings, store_marks, state_of, IsLive, AreLive, GoesOn}
use Rattle.ts_core.proofs.moves.LivesKept.{lives_go, lives_left}
use Rattle.ts_core.specs.moves.StoreMoves.{all_moved, points_below, kept_points, column_moved, raised_low, raised, raised_rule, run_begun, KeepsFrom, with_rules, run_ended, moved_cells, in_cells, frozen_points, refolded_points}
use Rattle.ts_core.specs.moves.Runs.{steps_left}
use Rattle.ts_core.proofs.moves.StepStands.{step_stands}
use Rattle.ts_core.proofs.moves.EachRule.{AnyCells, settings_same, marks_same, each_in}
use Rattle.ts_core.proofs.store.StateLemmas.{all_map}
use Rattle.ts_core.proofs.moves.MovesStand.{cells_go, run_ends}
use Rattle.ts_core.specs.lists.Numbered.{IsAt}
use Rattle.ts_core.proofs.lists.NumberedLemmas.{at_among}
use Rattle.ts_core.proofs.moves.LeftOnData.{left-moves}
use Rattle.ts_core.proofs.lists.BesideLemmas.{length-beside, OfEach-weaker}
use Rattle.ts_store.specs.store.CellCounts.{HoldsFew, HoldFew, frozen_count, live_count}
use Rattle.ts_store.specs.store.ColumnStates.{StoreContent}
use Rattle.std.specs.Option.{is_some}
use Rattle.ts_store.specs.retain.OpenRuns.{Run, run_over, waiting_in, IsWithin, TakesFirst, data_of_parts}
use Rattle.ts_store.specs.store.SoundStores.{IsSoundStore}
use Rattle.ts_store.proofs.retain.WaitingColumns.{same_waiting, within_more, all_wait}
use Rattle.ts_store.specs.rollup.Rollups.{RollupState, AreRollups, cells_of}
use Rattle.ts_store.specs.read.ViewResults.{no_points}
use Rattle.ts_store.specs.store.SizedStores.{IsSized}
use Rattle.ts_store.specs.store.PossibleCells.{HasPossibleCells, HavePossibleCells}
use Rattle.ts_store.specs.store.RuleLists.{rules_with}
use Rattle.ts_store.specs.retain.RollupSteps.{content_with_cells, cells_moved, FreezeFit, content_moved, points_in_cell, FreezesFit}
use Rattle.ts_store.proofs.retain.RollupMoves.{cells_with, rollups_with}
use Rattle.ts_store.proofs.store.RuleListLemmas.{with_changed, with_raised, with_first, each_with}
use Rattle.ts_store.proofs.store.CountsKept.{possible_moved, possible_gone, sized_begun, sized_moved, sized_gone, sized_ended}
use Rattle.ts_store.specs.retain.WholeRuns.{AreAbove, LosesCells, FirstLoses, MovesFirst, RemovesCells}
use Rattle.ts_store.specs.rollup.ChangedLists.{FirstChanges}
use Rattle.ts_cells.specs.Expiry.{IsAbove}
use Rattle.ts_store.proofs.retain.BatchesLeft.{batches_left-loses, of-loses, expired-loses, counts-removed, batches_left-above}
use Rattle.ts_core.specs.aggregates.Aggregates.{Aggregate, aggregate_of_one, merged_within}
use Rattle.ts_core.specs.store.Cells.{Cell, same_cell, cell_of, is_in_cell}
use Rattle.ts_core.specs.lists.Changes.{changed}
use Rattle.ts_core.specs.store.TwoParts.{in_frozen}
use Rattle.ts_core.proofs.moves.Freezing.{gone_held, refolded_frozen}
use Rattle.ts_core.proofs.store.Moves.{is_left}
use Rattle.ts_core.proofs.store.RunSteps.{facts_of-left}
use Rattle.ts_core.specs.lists.Beside.{OfEach}
use Rattle.ts_store.proofs.retain.PointsFrozen.{frozen_most, first_in}

-- ---- counts when points are frozen: they go from the live to the frozen part, so counts fit

-- ---- the frozen part

points_most : (r : Rule) (c : Column) (ps : List (ℤ × ℤ)) (m : CellMap) (k : Cell) → same_text c.series.measurement r.measurement ≡ true → frozen_count (frozen_points r c ps m) k ≤ frozen_count m k + points_in_cell r c k ps
points_most r c [] m k t = omega arith
points_most r c (p ∷ ps) m k t =
    let q : Cell = cell_of r (fact_at c p) in
    let n : CellMap = changed m q (in_frozen (merged_within (aggregate_of_one p.0 p.1))) in
    let rest : frozen_count (frozen_points r c ps n) k ≤ frozen_count n k + points_in_cell r c k ps = points_most r c ps n k t in
    let one : frozen_count n k ≤ frozen_count m k + cond {A = ℕ} (same_cell k q) 1 0 = frozen_most m q (aggregate_of_one p.0 p.1) k in
    let first : points_in_cell r c k (p ∷ ps) ≡ cond {A = ℕ} (same_cell k q) 1 0 + points_in_cell r c k ps = first_in r c k p ps t in
    omega arith

column_most : (r : Rule) (c : Column) (ps : List (ℤ × ℤ)) (facts : List Fact) (m : CellMap) (k : Cell) → frozen_count (moved_cells r c ps facts m) k ≤ frozen_count m k + points_in_cell r c k ps
column_most r c ps facts m k =
    elim (same_text c.series.measurement r.measurement) as (λ b. same_text c.series.measurement r.measurement ≡ b → frozen_count (cond b (refolded_points r c ps facts (frozen_points r c ps m)) m) k ≤ frozen_count m k + points_in_cell r c k ps) [
      | true ↦ λ t.
          let same : frozen_count (refolded_points r c ps facts (frozen_points r c ps m)) k ≡ frozen_count (frozen_points r c ps m) k = ap (λ (a : Aggregate). a.count) (refolded_frozen r c k facts ps (frozen_points r c ps m)) in
          let most = points_most r c ps m k t in
          omega (arith, same, most)
      | false ↦ λ t. omega arith
    ] refl

-- ---- the live part

by_parts : (p q : Fact → Bool) (fs : List Fact) → length (filter p (filter q fs)) + length (filter (λ (f : Fact). p f && not (q f)) fs) ≡ length (filter p fs)
by_parts p q [] = refl
by_parts p q (f ∷ fs) =
    let rest : length (filter p (filter q fs)) + length (filter (λ (g : Fact). p g && not (q g)) fs) ≡ length (filter p fs) = by_parts p q fs in
    elim (q f) as (λ b. length (filter p (cond b (f ∷ filter q fs) (filter q fs))) + length (cond (p f && not b) (f ∷ filter (λ (g : Fact). p g && not (q g)) fs) (filter (λ (g : Fact). p g && not (q g)) fs)) ≡ length (cond (p f) (f ∷ filter p fs) (filter p fs))) [
      | true ↦ elim (p f) as (λ a. length (cond a (f ∷ filter p (filter q fs)) (filter p (filter q fs))) + length (cond (a && false) (f ∷ filter (λ (g : Fact). p g && not (q g)) fs) (filter (λ (g : Fact). p g && not (q g)) fs)) ≡ length (cond a (f ∷ filter p fs) (filter p fs))) [ true ↦ omega arith | false ↦ omega arith ]
      | false ↦ elim (p f) as (λ a. length (filter p (filter q fs)) + length (cond (a && true) (f ∷ filter (λ (g : Fact). p g && not (q g)) fs) (filter (λ (g : Fact). p g && not (q g)) fs)) ≡ length (cond a (f ∷ filter p fs) (filter p fs))) [ true ↦ omega arith | false ↦ omega arith ]
    ]

facts_in-cell : (r : Rule) (k : Cell) (c : Column) (ps : List (ℤ × ℤ)) → length (filter (is_in_cell r k) (facts_at c ps)) ≡ points_in_cell r c k ps
facts_in-cell r k c [] = refl
facts_in-cell r k c (p ∷ ps) =
    let rest : length (filter (is_in_cell r k) (facts_at c ps)) ≡ points_in_cell r c k ps = facts_in-cell r k c ps in
    elim (is_in_cell r k (fact_at c p)) as (λ b. length (cond b (fact_at c p ∷ filter (is_in_cell r k) (facts_at c ps)) (filter (is_in_cell r k) (facts_at c ps))) ≡ length (cond b (p ∷ filter (λ (x : ℤ × ℤ). is_in_cell r k (fact_at c x)) ps) (filter (λ (x : ℤ × ℤ). is_in_cell r k (fact_at c x)) ps))) [
      | true ↦ omega arith
      | false ↦ rest
    ]

live_moved : (r : Rule) (k : Cell) (mark : ℤ) (s : ColumnPoints) (cs : List ColumnPoints) → AllDistinct (map column_of cs) → Among s cs
    → live_count r k (map (kept_points s.column mark) cs) + points_in_cell r s.column k (points_below mark s.points) ≡ live_count r k cs
live_moved r k mark s cs once there =
    let p : Fact → Bool = is_in_cell r k in
    let q : Fact → Bool = is_left s.column mark in
    let left : live_count r k (map (kept_points s.column mark) cs) ≡ length (filter p (filter q (facts_of cs))) = ap (λ (fs : List Fact). length (filter p fs)) (facts_of-left s.column mark cs) in
    let gone : length (filter (λ (f : Fact). p f && not (q f)) (facts_of cs)) ≡ points_in_cell r s.column k (points_below mark s.points) =
    ap length (gone_held s.column mark p cs s.points once there) ∙ facts_in-cell r k s.column (points_below mark s.points) in
    let parts : length (filter p (filter q (facts_of cs))) + length (filter (λ (f : Fact). p f && not (q f)) (facts_of cs)) ≡ length (filter p (facts_of cs)) = by_parts p q (facts_of cs) in
    omega arith

-- ---- under each rule

module _ (n : ℕ) (mark : ℤ) (s : ColumnPoints) (cs : List ColumnPoints) (once : AllDistinct (map column_of cs)) (there : Among s cs) where
  pub counts-fit : n ≤ 2 ^ 62 → (rs : List Rule) (ms : List CellMap) → OfEach (HoldsFew n cs) rs ms → FreezeFit rs s.column (points_below mark s.points) ms
  counts-fit most rs ms few =
      OfEach-weaker (HoldsFew n cs) (λ (r : Rule). FreezesFit r s.column (points_below mark s.points)) (λ r m all k. let moved = live_moved r k mark s cs once there in let count = all k in omega arith) rs ms few

  pub counts-moved : (rs : List RuleData) → HoldFew n cs rs → HoldFew n (map (kept_points s.column mark) cs) (all_moved s.column (points_below mark s.points) (facts_of (map (kept_points s.column mark) cs)) rs)
  counts-moved =
      let left : List Fact = facts_of (map (kept_points s.column mark) cs) in
      all_map (λ (x : RuleData). HoldsFew n cs x.rule x.cells) (λ (x : RuleData). HoldsFew n (map (kept_points s.column mark) cs) x.rule x.cells) (in_cells (λ (r : Rule). moved_cells r s.column (points_below mark s.points) left))
      (λ x all k.
      let moved = live_moved x.rule k mark s cs once there in
      let frozen = column_most x.rule s.column (points_below mark s.points) left x.cells k in
      let count = all k in
      omega arith)

-- ---- a column keeps its name

pub kept-names : (c : Column) (mark : ℤ) (cs : List ColumnPoints) → map column_of (map (kept_points c mark) cs) ≡ map column_of cs
kept-names c mark [] = refl
kept-names c mark (s ∷ cs) =
    ap₂ (λ (x : Column) xs. x ∷ xs) (elim (same_column s.column c) as (λ b. (cond b (record { column = s.column; points = filter (λ (p : ℤ × ℤ). int_le mark p.0) s.points }) s).column ≡ s.column) [ true ↦ refl | false ↦ refl ]) (kept-names c mark cs)

-- ---- what a store of these parts keeps

-- the store goes on with one step fewer left, and is kept
pub record IsStep (settings : Settings) (marks : Marks) (n : ℕ) (before : StoreData) (held : StoreContent) (run : Option Run) : Type 0 where
  pub goes : GoesOn before (Step false) (data_of_parts settings marks n held run)
  pub fewer : steps_left (state_of before) ≡ steps_left (state_of (data_of_parts settings marks n held run)) + 1
  pub moves : MovesFirst before (data_of_parts settings marks n held run) ⊎ RemovesCells before (data_of_parts settings marks n held run)
  pub series : held.series ≡ before.series
  pub kept : IsSoundStore settings marks n held run

module _ (settings : Settings) (marks : Marks) (n : ℕ) where
  -- no count overflows
  pub few_accepted : (held : StoreContent) (run : Option Run) → IsSoundStore settings marks n held run → n ≤ 2 ^ 62
  few_accepted held run k = k.sized.accepted

  pub few_facts : (held : StoreContent) (run : Option Run) → IsSoundStore settings marks n held run → length (facts_of held.columns) ≤ 2 ^ 62
  few_facts held run k = let facts = k.sized.facts in let few = k.sized.accepted in omega (arith, facts, few)

  pub kept-fits : (held : StoreContent) (run : Option Run) (next : ℕ) (s : ColumnPoints) → IsSoundStore settings marks n held run → IsAt held.columns next s → FreezeFit settings.rules s.column (points_below marks.raw s.points) (cells_of held.rollups)
  kept-fits held run next s k at = counts-fit n marks.raw s held.columns k.sized.columns (at_among held.columns next s at) (few_accepted held run k) settings.rules (cells_of held.rollups)
      (each_with (HoldsFew n held.columns) settings.rules marks.lows (cells_of held.rollups) k.lows k.counts)

  -- ---- a column is moved

  module _ (held : StoreContent) (run left : Run) (number : ℕ) (s : ColumnPoints) (first : waiting_in (Some run) held.columns ≡ s.column ∷ waiting_in (Some left) held.columns) (within : IsWithin (Some left) held.columns) (at : IsAt held.columns number s)
      (kept : IsSoundStore settings marks n held (Some run)) where
    abbrev before : StoreData
    before = data_of_parts settings marks n held (Some run)

    abbrev after : StoreContent
    after = content_moved settings.rules s marks.raw held

    abbrev moved : StoreData
    moved = data_of_parts settings marks n after (Some left)

    rest : List Column
    rest = waiting_in (Some left) held.columns

    waits : before.waiting ≡ s.column ∷ rest
    unfolding rest
    waits = first

    abbrev left_facts : List Fact
    left_facts = facts_of (map (kept_points s.column marks.raw) held.columns)

    abbrev below : List (ℤ × ℤ)
    below = points_below marks.raw s.points

    cells : cells_of after.rollups ≡ cells_moved settings.rules s.column below left_facts (cells_of held.rollups)
    cells = cells_with (cells_moved settings.rules s.column below left_facts (cells_of held.rollups)) held.rollups
        (length-beside (λ (r : Rule). moved_cells r s.column below left_facts) settings.rules (cells_of held.rollups) ∙ length-map held.rollups (λ (u : RollupState). u.grid.cells))

    its_rules : all_moved s.column below left_facts before.rules ≡ moved.rules
    its_rules = with_changed (λ (r : Rule). moved_cells r s.column below left_facts) settings.rules marks.lows (cells_of held.rollups) ∙ ap (rules_with settings.rules marks.lows) (sym cells)

    is_moved : column_moved s.column s.points rest before ≡ moved
    unfolding rest
    is_moved =
        let others : rest ≡ waiting_in (Some left) after.columns = same_waiting (Some left) held.columns after.columns (sym (kept-names s.column marks.raw held.columns)) in
        λ i. record {
          raw_duration = settings.raw_duration;
          raw_mark = marks.raw;
          rules = its_rules i;
          running = true;
          waiting = others i;
          series = held.series;
          columns = map (kept_points s.column marks.raw) held.columns;
          accepted = n;
        }

    pub moved_step : IsStep settings marks n before after (Some left)
    unfolding rest
    moved_step =
        let there : Among s held.columns = at_among held.columns number s at in
        record {
          goes = λ opening h st. subst (λ (k : StoreData). StandsFor opening (Step false ∷ h) (state_of k)) is_moved (step_stands opening h before s.column s.points rest st waits there);
          fewer = left-moves before s.column s.points rest refl waits ∙ ap (λ (k : StoreData). steps_left (state_of k) + 1) is_moved;
          moves = inl (record { column = s.column; points = s.points; others = rest; waits = waits; there = there; moved = sym is_moved });
          series = refl;
          kept = record {
            rollups = subst (λ (cs : List Column). AreRollups settings.rules cs after.rollups) (sym (kept-names s.column marks.raw held.columns))
                (rollups_with settings.rules (map column_of held.columns) (cells_moved settings.rules s.column below left_facts (cells_of held.rollups)) held.rollups kept.rollups);
            lows = kept.lows;
            few = within_more (Some left) held.columns after.columns [] (kept-names s.column marks.raw held.columns ∙ sym (append-nil (map column_of held.columns))) within;
            counts = subst (HoldFew n after.columns) its_rules (counts-moved n marks.raw s held.columns kept.sized.columns there before.rules kept.counts);
            live = subst (AreLive after.columns) its_rules (lives_left s.column marks.raw held.columns s.points kept.sized.columns there before.rules kept.live);
            possible = subst HavePossibleCells its_rules (possible_moved s.column below left_facts before.rules kept.possible);
            sized = subst IsSized is_moved (sized_moved before s.column s.points rest kept.sized);
          };
        }

  -- ---- cells are removed

  module _ (held left : StoreContent) (run : Run) (is : left ≡ content_with_cells (cells_of left.rollups) held) (loses : FirstChanges IsAbove LosesCells marks.lows (cells_of held.rollups) (cells_of left.rollups)) (kept : IsSoundStore settings marks n held (Some run)) where
    abbrev full : StoreData
    full = data_of_parts settings marks n held (Some run)

    abbrev less : StoreData
    less = data_of_parts settings marks n left (Some run)

    first_loses : FirstLoses full.rules less.rules
    first_loses = with_first settings.rules marks.lows (cells_of held.rollups) (cells_of left.rollups) kept.lows loses

    is_removed : with_rules less.rules full ≡ less
    is_removed = λ i.
        let h : StoreContent = sym is i in
        record { raw_duration = settings.raw_duration; raw_mark = marks.raw; rules = less.rules; running = true; waiting = waiting_in (Some run) h.columns; series = h.series; columns = h.columns; accepted = n }

    pub removed_step : waiting_in (Some run) held.columns ≡ [] → IsStep settings marks n full left (Some run)
    removed_step none =
        let columns : left.columns ≡ held.columns = ap (λ (h : StoreContent). h.columns) is in
        let expired = expired-loses full.rules less.rules first_loses in
        let loss = of-loses full.rules less.rules first_loses in
        record {
          goes = λ opening h st. subst (λ (k : StoreData). StandsFor opening (Step false ∷ h) (state_of k)) is_removed (cells_go opening h full less.rules st expired);
          fewer = let batches = batches_left-loses full.rules less.rules first_loses in let same = ap (λ (k : StoreData). steps_left (state_of k)) is_removed in omega arith;
          moves = inr (record { waits = none; loses = first_loses; others = sym is_removed });
          series = ap (λ (h : StoreContent). h.series) is;
          kept = record {
            rollups = subst (λ (h : StoreContent). AreRollups settings.rules (map column_of h.columns) h.rollups) (sym is) (rollups_with settings.rules (map column_of held.columns) (cells_of left.rollups) held.rollups kept.rollups);
            lows = kept.lows;
            few = (kept.few.0, subst (λ (cs : List ColumnPoints). run.end ≤ length cs) (sym columns) kept.few.1);
            counts = subst (λ (cs : List ColumnPoints). HoldFew n cs less.rules) (sym columns) (counts-removed n held.columns full.rules less.rules first_loses kept.counts);
            live = subst (λ (cs : List ColumnPoints). AreLive cs less.rules) (sym columns) (lives_go held.columns full.rules less.rules loss kept.live);
            possible = possible_gone full.rules less.rules loss kept.possible;
            sized = subst IsSized is_removed (sized_gone full less.rules expired kept.sized);
          };
        }

  -- ---- the run ends

  module _ (held : StoreContent) (run : Run) (none : waiting_in (Some run) held.columns ≡ []) (kept : IsSoundStore settings marks n held (Some run)) where
    abbrev open_run : StoreData
    open_run = data_of_parts settings marks n held (Some run)

    is_ended : run_ended open_run ≡ data_of_parts settings marks n held None
    is_ended = λ i. record open_run { running = false; waiting = none i }

    ended : (data_of_parts settings marks n held None ≡ run_ended open_run) × GoesOn open_run (Step true) (data_of_parts settings marks n held None) × IsSoundStore settings marks n held None
    ended = (
      sym is_ended,
      λ opening h st. subst (λ (k : StoreData). StandsFor opening (Step true ∷ h) (state_of k)) is_ended (run_ends opening h open_run st none),
      record { rollups = kept.rollups; lows = kept.lows; few = tt; counts = kept.counts; live = kept.live; possible = kept.possible; sized = subst IsSized is_ended (sized_ended open_run kept.sized) },
    )

  -- ---- a run begins

  module _ (held : StoreContent) (now : ℤ) (end : ℕ) (all : end ≡ length held.columns) (kept : IsSoundStore settings marks n held None) where
    abbrev idle : StoreData
    idle = data_of_parts settings marks n held None

    abbrev risen : Marks
    risen = record { raw = int_max marks.raw (kept_since settings.raw_duration now); lows = raised now settings.rules marks.lows }

    pub is_begun : data_of_parts settings risen n held (Some (run_over end)) ≡ run_begun now idle
    is_begun = λ i. record {
      raw_duration = settings.raw_duration;
      raw_mark = risen.raw;
      rules = sym (with_raised now settings.rules marks.lows (cells_of held.rollups)) i;
      running = true;
      waiting = all_wait held.columns end all i;
      series = held.series;
      columns = held.columns;
      accepted = n;
    }

    -- what holds of the cells of each rule still does
    raised_keep : (P : Rule → CellMap → Type 0) → AllByRecursion (λ (a : RuleData). P a.rule a.cells) idle.rules → AllByRecursion (λ (a : RuleData). P a.rule a.cells) (data_of_parts settings risen n held None).rules
    raised_keep P a =
        subst (AllByRecursion (λ (x : RuleData). P x.rule x.cells)) (with_raised now settings.rules marks.lows (cells_of held.rollups))
        (all_map (λ (x : RuleData). P x.rule x.cells) (λ (x : RuleData). P x.rule x.cells) (raised_rule now) (λ x b. b) idle.rules a)

    pub begun-kept : IsSoundStore settings risen n held (Some (run_over end))
    begun-kept = record {
      rollups = kept.rollups;
      lows = length-beside (raised_low now) settings.rules marks.lows ∙ kept.lows;
      few = (omega arith, omega arith);
      counts = raised_keep (HoldsFew n held.columns) kept.counts;
      live = raised_keep (IsLive held.columns) kept.live;
      possible = raised_keep HasPossibleCells kept.possible;
      sized = subst IsSized (sym is_begun) (sized_begun idle now kept.sized);
    }

-- ---- a step of the run that is open

-- settings and marks stay
pub moves_same : (old new : StoreData) → MovesFirst old new ⊎ RemovesCells old new → (store_settings new ≡ store_settings old) × (store_marks new ≡ store_marks old)
moves_same old new m =
    ⊎_elim {C = (store_settings new ≡ store_settings old) × (store_marks new ≡ store_marks old)}
    (λ p.
    let now : StoreData = column_moved p.column p.points p.others old in
    let each = each_in AnyCells (λ (r : Rule). moved_cells r p.column (points_below old.raw_mark p.points) (facts_of now.columns)) (λ a. tt) old.rules in
    (ap store_settings p.moved ∙ settings_same AnyCells now old.rules each, ap store_marks p.moved ∙ marks_same AnyCells now old.rules each))
    (λ p.
    let each = expired-loses old.rules new.rules p.loses in
    (ap store_settings p.others ∙ settings_same (λ r. KeepsFrom) (with_rules new.rules old) old.rules each, ap store_marks p.others ∙ marks_same (λ r. KeepsFrom) (with_rules new.rules old) old.rules each)) m

module _ (settings : Settings) (marks : Marks) (n : ℕ) (held after : StoreContent) (before : StoreData) where
  -- the first waiting column is taken off the run, and moved
  pub move_steps : (run left : Option Run) (number : ℕ) (rs : List Rule) (mark : ℤ) → data_of_parts settings marks n held run ≡ before → IsSoundStore settings marks n held run → is_some run ≡ true → TakesFirst run left (Some number)
      → rs ≡ settings.rules → mark ≡ marks.raw → ((s : ColumnPoints) → IsAt held.columns number s → FreezeFit rs s.column (points_below mark s.points) (cells_of held.rollups) → after ≡ content_moved rs s mark held)
      → IsStep settings marks n before after left
  move_steps None left number rs mark shown kept runs takes same raw moves = absurd (true≢false (sym runs))
  move_steps (Some run) None number rs mark shown kept runs takes same raw moves = absurd (true≢false (sym takes.running))
  move_steps (Some run) (Some left) number rs mark shown kept runs takes same raw moves =
      let s : ColumnPoints = get_or held.columns number no_points in
      let within = takes.within held.columns kept.few in
      let at : IsAt held.columns number s = slice_get-get_or held.columns number no_points within.1 in
      let first : waiting_in (Some run) held.columns ≡ s.column ∷ waiting_in (Some left) held.columns = takes.first held.columns s at in
      let fit : FreezeFit settings.rules s.column (points_below marks.raw s.points) (cells_of held.rollups) = kept-fits settings marks n held (Some run) number s kept at in
      let is : after ≡ content_moved settings.rules s marks.raw held =
      moves s at (subst (λ (us : List Rule). FreezeFit us s.column (points_below mark s.points) (cells_of held.rollups)) (sym same) (subst (λ m. FreezeFit settings.rules s.column (points_below m s.points) (cells_of held.rollups)) (sym raw) fit))
      ∙ ap₂ (λ (us : List Rule) m. content_moved us s m held) same raw in
      let step : IsStep settings marks n (data_of_parts settings marks n held (Some run)) after (Some left) =
      subst (λ (h : StoreContent). IsStep settings marks n (data_of_parts settings marks n held (Some run)) h (Some left)) (sym is)
      (moved_step settings marks n held run left number s first within.0 at kept) in
      subst (λ (k : StoreData). IsStep settings marks n k after (Some left)) shown step

  -- the store with what is left of a run of which no column waits
  pub record IsThrough (left : Option Run) : Type 0 where
    pub shown : data_of_parts settings marks n held left ≡ before
    pub kept : IsSoundStore settings marks n held left
    pub none : waiting_in left held.columns ≡ []
    pub running : is_some left ≡ true

  pub run_through : (run left : Option Run) → data_of_parts settings marks n held run ≡ before → IsSoundStore settings marks n held run → is_some run ≡ true → TakesFirst run left None → IsThrough left
  run_through run left shown kept runs takes =
      let none = takes.none held.columns in
      let same : data_of_parts settings marks n held left ≡ data_of_parts settings marks n held run = λ i. record (data_of_parts settings marks n held run) { running = takes.running i; waiting = (none.1 ∙ sym none.0) i } in
      record {
        shown = same ∙ shown;
        kept = record {
          rollups = kept.rollups;
          lows = kept.lows;
          few = (takes.within held.columns kept.few).0;
          counts = kept.counts;
          live = kept.live;
          possible = kept.possible;
          sized = subst IsSized (sym same) kept.sized;
        };
        none = none.1;
        running = takes.running ∙ runs;
      }

  -- then cells are removed
  pub removal_steps : (run : Option Run) (lows : List ℤ) → IsThrough run → lows ≡ marks.lows → after ≡ content_with_cells (cells_of after.rollups) held → FirstChanges IsAbove LosesCells lows (cells_of held.rollups) (cells_of after.rollups)
      → IsStep settings marks n before after run
  removal_steps None lows all same is loses = absurd (true≢false (sym all.running))
  removal_steps (Some r) lows all same is loses =
      let some : FirstChanges IsAbove LosesCells marks.lows (cells_of held.rollups) (cells_of after.rollups) = subst (λ (ls : List ℤ). FirstChanges IsAbove LosesCells ls (cells_of held.rollups) (cells_of after.rollups)) same loses in
      subst (λ (k : StoreData). IsStep settings marks n k after (Some r)) all.shown (removed_step settings marks n held after r is some all.kept all.none)

  -- or nothing was left, and the run is over
  pub end_steps : (run : Option Run) → IsThrough run → after ≡ held
      → (data_of_parts settings marks n after None ≡ run_ended before) × GoesOn before (Step true) (data_of_parts settings marks n after None) × IsSoundStore settings marks n after None
  end_steps None all is = absurd (true≢false (sym all.running))
  end_steps (Some r) all is =
      subst (λ (h : StoreContent). (data_of_parts settings marks n h None ≡ run_ended before) × GoesOn before (Step true) (data_of_parts settings marks n h None) × IsSoundStore settings marks n h None) (sym is)
      (subst (λ (k : StoreData). (data_of_parts settings marks n held None ≡ run_ended k) × GoesOn k (Step true) (data_of_parts settings marks n held None) × IsSoundStore settings marks n held None) all.shown (ended settings marks n held r all.none all.kept))

  -- and this was the last step
  pub end_last : (run : Option Run) → IsThrough run → AreAbove (data_of_parts settings marks n held run).rules → steps_left (state_of before) ≡ 1
  end_last None all above = absurd (true≢false (sym all.running))
  end_last (Some r) all above =
      let waits : length (waiting_in (Some r) held.columns) ≡ 0 = ap (λ (ws : List Column). length ws) all.none in
      let batches = batches_left-above (data_of_parts settings marks n held (Some r)).rules above in
      let one : steps_left (state_of (data_of_parts settings marks n held (Some r))) ≡ 1 = omega arith in
      subst (λ (k : StoreData). steps_left (state_of k) ≡ 1) all.shown one
