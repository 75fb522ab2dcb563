-- The cells of points: exactly the missing ones from the low index on are created, and the points are added to them.
use Rattle.std.proofs.Common.{rules, ◌≡◌, ◌≤ℤ◌, ◌<ℤ◌, ◌&&◌, ℕ, ℤ, true, false, cond, List, [], ◌∷◌, ◌++◌, length, Option, Some, None, refl, sym, ◌∙◌, ap, subst, ⊎_elim, true≢false, arith, ◌+◌, ◌≤◌, ◌^◌, Bool, filter, option_map, append_assoc}
use Rattle.std.specs.FinMap as finmap
use Rattle.std.specs.List.{zip, AllByRecursion}
use Rattle.std.proofs.lemmas.Int.{ints}
use Rattle.std.proofs.lemmas.List.{map-append}
use Rattle.std.proofs.lemmas.Option.{get_or_from_slice_get, none-some, same_Some}
use Rattle.ts_core.specs.lists.Members.{Among}
use Rattle.ts_core.specs.lists.Numbered.{IsAt}
use Rattle.ts_core.specs.facts.Facts.{Column, Fact, same_text}
use Rattle.ts_core.specs.facts.Times.{IsTime}
use Rattle.ts_core.specs.settings.Settings.{Rule}
use Rattle.ts_core.specs.store.Marks.{index_of}
use Rattle.ts_core.specs.store.Cells.{Cell, cell_of, same_cell, is_in_cell, total_of}
use Rattle.ts_core.specs.lists.Changes.{changed}
use Rattle.ts_core.specs.store.StoreStates.{CellParts, fact_at, facts_at}
use Rattle.ts_core.specs.store.StoreData.{CellMap, RuleData, OfEachRule, no_parts}
use Rattle.ts_store.specs.store.RuleLists.{rules_with}
use Rattle.ts_core.proofs.moves.EachRule.{each_same, each_then}
use Rattle.ts_core.proofs.lists.MembersLemmas.{Among-append, Among-left, Among-right, Among-map}
use Rattle.ts_core.proofs.moves.MovesStand.{key_there, key_not}
use Rattle.ts_core.proofs.plans.PieceCells.{same_cell-eq, same_cell-refl}
use Rattle.ts_cells.specs.CellChanges.{inserted_if_absent}
use Rattle.ts_cells.specs.Grids.{no_rollup_series, cell_at}
use Rattle.ts_cells.proofs.GridMoves.{get-changed}
use Rattle.ts_store.specs.image.BuildingParts.{MakesCells, IsFilledBut, KeepsFrozen}
use Rattle.ts_store.specs.store.PossibleCells.{IsPossibleCell}
use Rattle.ts_store.specs.write.LinesPut.{IsOfFacts}
use Rattle.ts_store.specs.rollup.Rollups.{RollupState, AreRollups, IsRollupSeriesOf, rollup_series_at, rollup_series_under, cells_of, with_grid_cells, cell_created_in, added_in}
use Rattle.ts_store.specs.rollup.ChangedLists.{ChangesBeside}
use Rattle.ts_store.specs.rollup.BucketsTaken.{TakesBucket}
use Rattle.ts_store.specs.rollup.PointsFilled.{MakesPoints, AddsPoints}
use Rattle.ts_store.proofs.retain.PointsFrozen.{grid_kept_then, flipped}
use Rattle.ts_store.proofs.write.RollupsPut.{gains_nothing}
use Rattle.ts_store.proofs.store.ColumnsLemmas.{in_column}
use Rattle.ts_store.proofs.store.CountsKept.{cell_possible}
use Rattle.ts_store.proofs.write.CellsCreatedLemmas.{missing, capacity-stays, capacity-new, rollup_series_known, roomy_there}
use Rattle.ts_core.proofs.lists.ListSteps.{length-filter}
use Rattle.ts_core.specs.aggregates.Aggregates.{Aggregate, empty_aggregate, merged, aggregate_of, aggregate_of_points, merged_within}
use Rattle.ts_core.specs.aggregates.MergeLaws.{aggregate_laws}
use Rattle.ts_core.specs.store.TwoParts.{in_live}
use Rattle.ts_core.proofs.store.Cuts.{one_fact}
use Rattle.ts_core.proofs.aggregates.Folds.{fold-count}
use Rattle.ts_core.proofs.aggregates.AggregatesLemmas.{merged_within-fits}

-- ---- points that are added to the live parts of their cells

-- ---- merging

pub total-first : (r : Rule) (k : Cell) (f : Fact) (fs : List Fact) → total_of r k (f ∷ fs) ≡ merged (cond (is_in_cell r k f) (one_fact f) empty_aggregate) (total_of r k fs)
total-first r k f fs =
    elim (is_in_cell r k f) as (λ b. aggregate_of (cond b (f ∷ filter (is_in_cell r k) fs) (filter (is_in_cell r k) fs)) ≡ merged (cond b (one_fact f) empty_aggregate) (total_of r k fs)) [
      | true ↦ refl
      | false ↦ sym (aggregate_laws.unit (total_of r k fs))
    ]

total-count : (r : Rule) (k : Cell) (fs : List Fact) → (total_of r k fs).count ≤ length fs
total-count r k fs =
    let count : (total_of r k fs).count ≡ length (filter (is_in_cell r k) fs) = fold-count aggregate_laws one_fact (λ g. refl) (filter (is_in_cell r k) fs) in
    let fewer = length-filter (is_in_cell r k) fs in
    omega (arith, count, fewer)

-- a fact of another measurement is in no cell
total-apart : (r : Rule) (k : Cell) (c : Column) (ps : List (ℤ × ℤ)) (left : List Fact) → same_text c.series.measurement r.measurement ≡ false → total_of r k (facts_at c ps ++ left) ≡ total_of r k left
total-apart r k c [] left apart = refl
total-apart r k c (p ∷ ps) left apart =
    total-first r k (fact_at c p) (facts_at c ps ++ left)
    ∙ ap (λ b. merged (cond (b && same_cell (cell_of r (fact_at c p)) k) (one_fact (fact_at c p)) empty_aggregate) (total_of r k (facts_at c ps ++ left))) apart
    ∙ aggregate_laws.unit (total_of r k (facts_at c ps ++ left))
    ∙ total-apart r k c ps left apart

-- ---- points of one bucket

none_twice : (b : Bool) (t : Aggregate) → t ≡ merged (cond b empty_aggregate empty_aggregate) t
none_twice true t = sym (aggregate_laws.unit t)
none_twice false t = sym (aggregate_laws.unit t)

one_more : (b : Bool) (one part t : Aggregate) → merged (cond b one empty_aggregate) (merged (cond b part empty_aggregate) t) ≡ merged (cond b (merged one part) empty_aggregate) t
one_more true one part t = sym (aggregate_laws.assoc one part t)
one_more false one part t = aggregate_laws.unit (merged empty_aggregate t)

-- they count in their cell only
bucket_total : (r : Rule) (c : Column) (index : ℤ) (ps : List (ℤ × ℤ)) (left : List Fact) (k : Cell) → same_text c.series.measurement r.measurement ≡ true → AllByRecursion (λ (p : ℤ × ℤ). index_of r p.0 ≡ index) ps
    → total_of r k (facts_at c ps ++ left) ≡ merged (cond (same_cell k (cell_at index (rollup_series_under r c))) (aggregate_of_points ps) empty_aggregate) (total_of r k left)
bucket_total r c index [] left k rolled each = none_twice (same_cell k (cell_at index (rollup_series_under r c))) (total_of r k left)
bucket_total r c index (p ∷ ps) left k rolled each =
    let q : Cell = cell_at index (rollup_series_under r c) in
    let f : Fact = fact_at c p in
    let its : cell_of r f ≡ q = ap (λ i. cell_at i (rollup_series_under r c)) each.0 in
    let inside : is_in_cell r k f ≡ same_cell k q = ap (λ b. b && same_cell (cell_of r f) k) rolled ∙ ap (λ z. same_cell z k) its ∙ flipped q k in
    total-first r k f (facts_at c ps ++ left)
    ∙ ap (λ b. merged (cond b (one_fact f) empty_aggregate) (total_of r k (facts_at c ps ++ left))) inside
    ∙ ap (merged (cond (same_cell k q) (one_fact f) empty_aggregate)) (bucket_total r c index ps left k rolled each.1)
    ∙ one_more (same_cell k q) (one_fact f) (aggregate_of_points ps) (total_of r k left)

-- they are added to their cell
bucket_added : (r : Rule) (c : Column) (index : ℤ) (ps : List (ℤ × ℤ)) (left all : List Fact) (m : CellMap) → same_text c.series.measurement r.measurement ≡ true → AllByRecursion (λ (p : ℤ × ℤ). index_of r p.0 ≡ index) ps → length all ≤ 2 ^ 62
    → IsFilledBut (facts_at c ps ++ left) all r m → IsFilledBut left all r (changed m (cell_at index (rollup_series_under r c)) (in_live (merged_within (aggregate_of_points ps))))
bucket_added r c index ps left all m rolled each few h = λ k x e.
    let q : Cell = cell_at index (rollup_series_under r c) in
    let part : Aggregate = aggregate_of_points ps in
    let total : total_of r k (facts_at c ps ++ left) ≡ merged (cond (same_cell k q) part empty_aggregate) (total_of r k left) = bucket_total r c index ps left k rolled each in
    elim (same_cell k q) as (λ b. same_cell k q ≡ b → cond b (option_map (in_live (merged_within part)) (finmap.get m q)) (finmap.get m k) ≡ Some x → merged x.live (total_of r k left) ≡ total_of r k all) [
      | true ↦ λ s e'.
          let here : k ≡ q = same_cell-eq k q s in
          elim (finmap.get m q) as (λ o. finmap.get m q ≡ o → option_map (in_live (merged_within part)) o ≡ Some x → merged x.live (total_of r k left) ≡ total_of r k all) [
            | None ↦ λ g n. absurd (none-some x n)
            | Some p ↦ λ g n.
                let sum : merged (merged p.live part) (total_of r k left) ≡ total_of r k all =
                aggregate_laws.assoc p.live part (total_of r k left) ∙ ap (merged p.live) (sym (total ∙ ap (λ b. merged (cond b part empty_aggregate) (total_of r k left)) s)) ∙ h k p (ap (finmap.get m) here ∙ g) in
                let counts : p.live.count + part.count + (total_of r k left).count ≡ (total_of r k all).count = ap (λ (a : Aggregate). a.count) sum in
                let most = total-count r k all in
                let fits : merged_within part p.live ≡ merged p.live part = merged_within-fits part p.live (omega (arith, counts, most, few)) in
                let live : x.live ≡ merged p.live part = ap (λ (y : CellParts). y.live) (sym (same_Some (in_live (merged_within part) p) x n)) ∙ fits in
                ap (λ a. merged a (total_of r k left)) live ∙ sum
          ] refl e'
      | false ↦ λ s e'.
          ap (merged x.live) (sym (total ∙ ap (λ b. merged (cond b part empty_aggregate) (total_of r k left)) s ∙ aggregate_laws.unit (total_of r k left))) ∙ h k x e'
    ] refl (sym (get-changed m q (in_live (merged_within part)) k) ∙ e)

-- ---- frozen parts stay

frozen-stays : (m : CellMap) (q : Cell) (part : Aggregate) → KeepsFrozen m (changed m q (in_live (merged_within part)))
frozen-stays m q part = λ k.
    ap (option_map (λ (p : CellParts). p.frozen)) (get-changed m q (in_live (merged_within part)) k)
    ∙ elim (same_cell k q) as (λ b. same_cell k q ≡ b → option_map (λ (p : CellParts). p.frozen) (cond b (option_map (in_live (merged_within part)) (finmap.get m q)) (finmap.get m k)) ≡ option_map (λ (p : CellParts). p.frozen) (finmap.get m k)) [
      | true ↦ λ s.
          elim (finmap.get m q) as (λ o. option_map (λ (p : CellParts). p.frozen) (option_map (in_live (merged_within part)) o) ≡ option_map (λ (p : CellParts). p.frozen) o) [ None ↦ refl | Some p ↦ refl ]
          ∙ ap (λ z. option_map (λ (p : CellParts). p.frozen) (finmap.get m z)) (sym (same_cell-eq k q s))
      | false ↦ λ s. refl
    ] refl

-- ---- points of a column

-- what adds the points that are left adds them all
abbrev pub AddsRest : Rule → ℕ → List (ℤ × ℤ) → RollupState → List (ℤ × ℤ) → RollupState → Type 0
AddsRest r l ps s left t = (u : RollupState) → AddsPoints r (Some l) left t u → AddsPoints r (Some l) ps s u

pub adds_both : (r : Rule) (o : Option ℕ) (ps taken left : List (ℤ × ℤ)) (s t u : RollupState) → ps ≡ taken ++ left → AddsPoints r o taken s t → AddsPoints r o left t u → AddsPoints r o ps s u
adds_both r o ps taken left s t u e a b = record {
  kept = grid_kept_then s t u u.grid.cells a.kept b.kept;
  frozen = λ k. b.frozen k ∙ a.frozen k;
  live = λ c others all is most h.
      b.live c others all (subst (λ (x : RollupState). IsRollupSeriesOf r c x.grid.rollup_series o) (sym a.kept) is) most
      (a.live c (facts_at c left ++ others) all is most (subst (λ (fs : List Fact). IsFilledBut fs all r s.grid.cells) (ap (λ qs. facts_at c qs ++ others) e ∙ ap (λ fs. fs ++ others) (map-append (fact_at c) taken left) ∙ append_assoc (facts_at c taken) (facts_at c left) others) h));
}

pub adds_none : (r : Rule) (o : Option ℕ) (ps : List (ℤ × ℤ)) (s : RollupState) → ps ≡ [] → AddsPoints r o ps s s
adds_none r o ps s none = record { kept = refl; frozen = λ k. refl; live = λ c others all is most h. subst (λ (qs : List (ℤ × ℤ)). IsFilledBut (facts_at c qs ++ others) all r s.grid.cells) none h }

pub adds_apart : (r : Rule) (o : Option ℕ) (ps : List (ℤ × ℤ)) (s : RollupState) → o ≡ None → AddsPoints r o ps s s
adds_apart r o ps s none = record {
  kept = refl;
  frozen = λ k. refl;
  live = λ c others all is most h k p e. ap (merged p.live) (sym (total-apart r k c ps others (subst (IsRollupSeriesOf r c s.grid.rollup_series) none is))) ∙ h k p e;
}

pub bucket_adds : (r : Rule) (l : ℕ) (index i : ℤ) (taken ps left : List (ℤ × ℤ)) (part : Aggregate) (s t : RollupState) → TakesBucket r index taken ps left → i ≡ index → part ≡ aggregate_of_points taken → t ≡ with_grid_cells (added_in s l i part) s
    → AddsPoints r (Some l) taken s t
bucket_adds r l index i taken ps left part s t bucket same total made =
    let cells : t.grid.cells ≡ added_in s l i part = ap (λ (x : RollupState). x.grid.cells) made in
    record {
      kept = grid_kept_then s s t (added_in s l i part) refl made;
      frozen = subst (KeepsFrozen s.grid.cells) (sym cells) (frozen-stays s.grid.cells _ part);
      live = λ c others all is most h.
          let key = ap (cell_at index) (get_or_from_slice_get s.grid.rollup_series l (rollup_series_under r c) no_rollup_series is.1) in
          let its : t.grid.cells ≡ changed s.grid.cells (cell_at index (rollup_series_under r c)) (in_live (merged_within (aggregate_of_points taken))) =
          cells ∙ (λ j. added_in s l (same j) (total j)) ∙ ap (λ k. changed s.grid.cells k (in_live (merged_within (aggregate_of_points taken)))) key in
          subst (IsFilledBut others all r) (sym its) (bucket_added r c index taken others all s.grid.cells is.0 bucket.each most h);
    }

-- ---- points of one bucket

-- their facts are of one cell
cell_in_bucket : (r : Rule) (c : Column) (index : ℤ) (ps : List (ℤ × ℤ)) → AllByRecursion (λ (p : ℤ × ℤ). index_of r p.0 ≡ index) ps → (f : Fact) → Among f (facts_at c ps) → cell_of r f ≡ cell_at index (rollup_series_under r c)
cell_in_bucket r c index [] each f a = absurd a
cell_in_bucket r c index (p ∷ ps) each f a =
    ⊎_elim {C = cell_of r f ≡ cell_at index (rollup_series_under r c)} (λ e. ap (cell_of r) e ∙ ap (λ i. cell_at i (rollup_series_under r c)) each.0)
    (λ z. cell_in_bucket r c index ps each.1 f z) a

-- below the low index they need no cell
bucket_below : (r : Rule) (c : Column) (index : ℤ) (ps : List (ℤ × ℤ)) (low : ℤ) (m : CellMap) → AllByRecursion (λ (p : ℤ × ℤ). index_of r p.0 ≡ index) ps → index <ℤ low → MakesCells (facts_at c ps) r low m m
bucket_below r c index ps low m each below = record {
  gains = gains_nothing (facts_at c ps) r low m;
  there = λ f a rolled above none.
      let at : (cell_of r f).index ≡ index = ap (λ (k : Cell). k.index) (cell_in_bucket r c index ps each f a) in
      omega (arith, ints, below, at, above);
  possible = λ h. h;
}

-- else the cell is created
bucket_made : (r : Rule) (c : Column) (index : ℤ) (ps : List (ℤ × ℤ)) (low : ℤ) (m : CellMap) → AllByRecursion (λ (p : ℤ × ℤ). index_of r p.0 ≡ index) ps → (p : ℤ × ℤ) × Among p ps × IsTime p.0 → same_text c.series.measurement r.measurement ≡ true → low ≤ℤ index
    → MakesCells (facts_at c ps) r low m (inserted_if_absent m (cell_at index (rollup_series_under r c)) no_parts)
bucket_made r c index ps low m each valid rolled above =
    let q : Cell = cell_at index (rollup_series_under r c) in
    let o : CellMap = inserted_if_absent m q no_parts in
    let f : Fact = fact_at c valid.0 in
    let among : Among f (facts_at c ps) = Among-map (fact_at c) valid.0 ps valid.1 in
    let its : cell_of r f ≡ q = cell_in_bucket r c index ps each f among in
    let of_facts : IsOfFacts (facts_at c ps) r q = (f, among, ap (λ b. b && same_cell (cell_of r f) q) rolled ∙ ap (λ k. same_cell k q) its ∙ same_cell-refl q) in
    record {
      gains = record {
        stays = capacity-stays m q;
        created = λ k x none some.
            let new = capacity-new m q k x none some in
            (new.0, subst (λ (z : Cell). low ≤ℤ z.index) (sym new.1) above, subst (IsOfFacts (facts_at c ps) r) (sym new.1) of_facts);
      };
      there = λ g a is high none. roomy_there m q (ap (finmap.get o) (sym (cell_in_bucket r c index ps each g a)) ∙ none);
      possible = λ before k a.
          elim (finmap.get m k) as (λ x. finmap.get m k ≡ x → IsPossibleCell r k) [
            | None ↦ λ e. elim (finmap.get o k) as (λ x. finmap.get o k ≡ x → IsPossibleCell r k) [
              | None ↦ λ none. absurd (key_not o k a none)
              | Some x ↦ λ some. subst (IsPossibleCell r) (its ∙ sym (capacity-new m q k x e some).1) (cell_possible r f valid.2)
            ] refl
            | Some x ↦ λ e. before k (key_there m k (λ none. none-some x (sym none ∙ e)))
          ] refl;
    }

-- ---- more facts

makes-nothing : (r : Rule) (low : ℤ) (m : CellMap) → MakesCells [] r low m m
makes-nothing r low m = record { gains = gains_nothing [] r low m; there = λ f a. absurd a; possible = λ h. h }

makes-then : (fs gs : List Fact) (r : Rule) (low : ℤ) (m n o : CellMap) → MakesCells fs r low m n → MakesCells gs r low n o → MakesCells (fs ++ gs) r low m o
makes-then fs gs r low m n o a b = record {
  gains = record {
    stays = λ k p e. b.gains.stays k p (a.gains.stays k p e);
    created = λ k p none some. elim (finmap.get n k) as (λ x. finmap.get n k ≡ x → (p ≡ no_parts) × (low ≤ℤ k.index) × IsOfFacts (fs ++ gs) r k) [
      | None ↦ λ e. let new = b.gains.created k p e some in (new.0, new.1, (new.2.0, Among-right new.2.0 fs gs new.2.1, new.2.2))
      | Some x ↦ λ e. let old = a.gains.created k x none e in (same_Some p x (sym some ∙ b.gains.stays k x e) ∙ old.0, old.1, (old.2.0, Among-left old.2.0 fs gs old.2.1, old.2.2))
    ] refl;
  };
  there = λ f h rolled above none.
      ⊎_elim {C = ⊥} (λ x. a.there f x rolled above (missing n o b.gains.stays (cell_of r f) none)) (λ x. b.there f x rolled above none) (Among-append f fs gs h);
  possible = λ h. b.possible (a.possible h);
}

pub all-made-none : (rs : List RuleData) → OfEachRule (MakesCells []) rs rs
all-made-none = each_same (MakesCells []) makes-nothing

pub all-made-then : (fs gs : List Fact) (rs os ss : List RuleData) → OfEachRule (MakesCells fs) rs os → OfEachRule (MakesCells gs) os ss → OfEachRule (MakesCells (fs ++ gs)) rs ss
all-made-then fs gs = each_then (MakesCells fs) (MakesCells gs) (MakesCells (fs ++ gs)) (λ r low m o n. makes-then fs gs r low m o n)

-- ---- points of a column

-- what makes the cells of the points that are left makes those of all
abbrev pub MakesRest : Rule → ℤ → ℕ → List (ℤ × ℤ) → RollupState → List (ℤ × ℤ) → RollupState → Type 0
MakesRest r low l ps s left t = (u : RollupState) → MakesPoints r low (Some l) left t u → MakesPoints r low (Some l) ps s u

pub makes_both : (r : Rule) (low : ℤ) (o : Option ℕ) (ps taken left : List (ℤ × ℤ)) (s t u : RollupState) → ps ≡ taken ++ left → MakesPoints r low o taken s t → MakesPoints r low o left t u → MakesPoints r low o ps s u
makes_both r low o ps taken left s t u e a b = record {
  kept = grid_kept_then s t u u.grid.cells a.kept b.kept;
  cells = λ c is.
      subst (λ (fs : List Fact). MakesCells fs r low s.grid.cells u.grid.cells) (sym (ap (facts_at c) e ∙ map-append (fact_at c) taken left))
      (makes-then (facts_at c taken) (facts_at c left) r low s.grid.cells t.grid.cells u.grid.cells (a.cells c is) (b.cells c (subst (λ (x : RollupState). IsRollupSeriesOf r c x.grid.rollup_series o) (sym a.kept) is)));
}

pub makes_none : (r : Rule) (low : ℤ) (o : Option ℕ) (ps : List (ℤ × ℤ)) (s : RollupState) → ps ≡ [] → MakesPoints r low o ps s s
makes_none r low o ps s none = subst (λ (qs : List (ℤ × ℤ)). MakesPoints r low o qs s s) (sym none) (record { kept = refl; cells = λ c is. makes-nothing r low s.grid.cells })

-- points of another measurement need none
pub makes_apart : (r : Rule) (low : ℤ) (o : Option ℕ) (ps : List (ℤ × ℤ)) (s : RollupState) → o ≡ None → MakesPoints r low o ps s s
makes_apart r low o ps s none = record {
  kept = refl;
  cells = λ c is. record {
    gains = gains_nothing (facts_at c ps) r low s.grid.cells;
    there = λ f a rolled above gone.
        true≢false (sym rolled ∙ ap (λ (d : Column). same_text d.series.measurement r.measurement) (in_column c ps f a).0 ∙ subst (IsRollupSeriesOf r c s.grid.rollup_series) none is);
    possible = λ h. h;
  };
}

module _ (r : Rule) (low : ℤ) (l : ℕ) (index : ℤ) (taken ps left : List (ℤ × ℤ)) (s : RollupState) (t : TakesBucket r index taken ps left) where
  pub bucket_passes : index <ℤ low → MakesPoints r low (Some l) taken s s
  bucket_passes below = record { kept = refl; cells = λ c is. bucket_below r c index taken low s.grid.cells t.each below }

  pub bucket_makes : (i : ℤ) (u : RollupState) → low ≤ℤ index → i ≡ index → u ≡ with_grid_cells (cell_created_in s (Some l) i) s → MakesPoints r low (Some l) taken s u
  bucket_makes i u above same made = record {
    kept = grid_kept_then s s u (cell_created_in s (Some l) i) refl made;
    cells = λ c is.
        let key = ap (cell_at index) (get_or_from_slice_get s.grid.rollup_series l (rollup_series_under r c) no_rollup_series is.1) in
        let cells : u.grid.cells ≡ inserted_if_absent s.grid.cells (cell_at index (rollup_series_under r c)) no_parts =
        ap (λ (x : RollupState). x.grid.cells) made ∙ ap (λ (j : ℤ). cell_created_in s (Some l) j) same ∙ ap (λ k. inserted_if_absent s.grid.cells k no_parts) key in
        subst (MakesCells (facts_at c taken) r low s.grid.cells) (sym cells) (bucket_made r c index taken low s.grid.cells t.each t.some is.0 above);
  }

-- ---- under each rule

-- the effect of creating the cells of points of the column with this index under a rule, from its low index on
abbrev pub MakesUnder : ℕ → List (ℤ × ℤ) → Rule × ℤ → RollupState → RollupState → Type 0
MakesUnder number ps x s = MakesPoints x.0 x.1 (rollup_series_at s number) ps s

pub all_made_under : (number : ℕ) (ps : List (ℤ × ℤ)) (cs : List Column) (c : Column) (rs : List Rule) (lows : List ℤ) (ss ts : List RollupState) → IsAt cs number c → AreRollups rs cs ss → length lows ≡ length rs
    → ChangesBeside (MakesUnder number ps) (zip rs lows) ss ts → OfEachRule (MakesCells (facts_at c ps)) (rules_with rs lows (cells_of ss)) (rules_with rs lows (cells_of ts))
all_made_under number ps cs c (r ∷ rs) (low ∷ lows) (s ∷ ss) (t ∷ ts) at over l h = (
  (refl, refl, h.0.cells c (rollup_series_known r s.grid.rollup_series cs s.series_of_column number c over.0 at)),
  all_made_under number ps cs c rs lows ss ts at over.1 (omega (arith, l)) h.1,
)
all_made_under number ps cs c _ _ _ _ at over l h = search rules
