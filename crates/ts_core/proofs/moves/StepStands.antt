-- A step that moves a column, on a store's content.
use Rattle.ts_core.proofs.queries.AnswersLaws.{filter_both}
use Rattle.ts_core.proofs.settings.FoundLemmas.{none_of}
use Rattle.std.proofs.lemmas.Bool.{and_left, and_right, and_parts, and_from, or_parts, not_from_false, true_from_ne_false}
use Rattle.std.proofs.Common.{◌≡◌, ℤ, ◌+◌, ◌≤◌, ◌^◌, Bool, true, false, cond, not, ◌&&◌, ◌||◌, List, [], ◌∷◌, length, filter, map, refl, sym, ◌∙◌, ap, subst, inl, inr, true≢false, int_lt, arith, Some, None, ◌≤ℤ◌, is_some}
use Rattle.std.specs.FinMap as finmap
use Rattle.std.specs.FinMap.{get-entries}
use Rattle.std.proofs.lemmas.Option.{none-some}
use Rattle.ts_core.specs.lists.Members.{Among, AllDistinct}
use Rattle.ts_core.specs.facts.Facts.{Column, Fact, same_text}
use Rattle.ts_core.specs.settings.Settings.{Rule, Settings}
use Rattle.ts_core.specs.store.History.{History, Line, Step, accepted, IsLawful}
use Rattle.ts_core.specs.facts.Latest.{latest, latest_of, others}
use Rattle.ts_core.specs.aggregates.Aggregates.{Aggregate, empty_aggregate, merged, aggregate_of_one, aggregate_of, aggregate_of_points}
use Rattle.ts_core.specs.aggregates.MergeLaws.{aggregate_laws}
use Rattle.ts_core.specs.store.RawFacts.{kept_from}
use Rattle.ts_core.specs.store.Cells.{Cell, same_cell, cell_of, is_in_cell, total_of, frozen_of, live_of}
use Rattle.ts_core.specs.store.StoreStates.{ColumnPoints, CellParts, fact_at, StoreState, StandsFor, HasCells, column_of, facts_at, facts_of}
use Rattle.ts_core.proofs.aggregates.Folds.{fold-count}
use Rattle.ts_core.proofs.lists.MembersLemmas.{no_members, map_back, Among-map, filter-none, Among-filter_was, Among-filter_passes, Among-filter_stays}
use Rattle.ts_core.proofs.plans.PieceCells.{cells_total, same_cell-eq, same_cell-refl}
use Rattle.ts_core.proofs.lists.Comparisons.{same_bool}
use Rattle.ts_core.proofs.lists.Sorted.{found_among}
use Rattle.ts_core.proofs.facts.Latests.{latest-distinct}
use Rattle.ts_core.proofs.store.Cuts.{aggregate_where, filter-agree, one_fact, Holds, total_of-parts, live_of-held}
use Rattle.ts_core.proofs.store.Moves.{IsMoved, is_left, left_points, columns_left}
use Rattle.ts_core.proofs.store.ColumnFacts.{facts_of-there}
use Rattle.ts_core.proofs.lists.ListSteps.{length-filter}
use Rattle.ts_core.proofs.store.StateLemmas.{AllZip-mapped, all_of_map, StandsFor-Holds}
use Rattle.ts_core.proofs.store.RunSteps.{facts_of-left, move_stands}
use Rattle.ts_core.proofs.moves.EachRule.{AnyCells, stands_changed, each_in}
use Rattle.ts_core.specs.store.StoreData.{CellMap, RuleData, StoreData, rule_cells, state_of}
use Rattle.ts_core.specs.moves.StoreMoves.{in_cells, frozen_points, refolded_points, moved_cells, points_below, column_moved}
use Rattle.ts_core.proofs.moves.Freezing.{cond_as, in_points, frozen_in, live_in, any_in, frozen_gives, frozen_none, frozen_live, keys_frozen, refolded_frozen, refolded_live, keys_refolded, frozen_some, gone_held}

-- ---- counts

length_latest : (fs : List Fact) → length (latest fs) ≤ length fs
length_latest [] = omega arith
length_latest (f ∷ fs) = let h = length_latest fs in let k : length (others f (latest fs)) ≤ length (latest fs) = length-filter _ (latest fs) in omega arith

pub few_accepted : (opening : Settings) (h : History) → IsLawful opening h → length (accepted h) ≤ 2 ^ 62
few_accepted opening [] l = omega arith
few_accepted opening (Line facts ∷ h) l = l.2
few_accepted opening (Step ended ∷ h) l = few_accepted opening h l
few_accepted opening (_ ∷ h) l = few_accepted opening h l.0

count_where : (p : Fact → Bool) (fs : List Fact) → (aggregate_where p fs).count ≡ length (filter p fs)
count_where p fs = fold-count aggregate_laws one_fact (λ f. refl) (filter p fs)

pub count_few : (opening : Settings) (h : History) → IsLawful opening h → (p : Fact → Bool) → (aggregate_where p (latest_of h)).count ≤ 2 ^ 62
count_few opening h l p =
    let a = count_where p (latest_of h) in
    let b = length-filter p (latest_of h) in
    let c = length_latest (accepted h) in
    let d = few_accepted opening h l in
    omega arith

fewer_both : (p q : Fact → Bool) (fs : List Fact) → length (filter (λ (f : Fact). p f && q f) fs) ≤ length (filter p fs)
fewer_both p q fs =
    let both = ap (λ (gs : List Fact). length gs) (filter_both q p fs) in
    let fewer = length-filter q (filter p fs) in
    omega arith

-- ---- a rule's cells, as a column is moved

pub same_flip : (a b : Cell) → same_cell a b ≡ same_cell b a
same_flip a b =
    same_bool (same_cell a b) (same_cell b a) (λ e. ap (λ z. same_cell b z) (same_cell-eq a b e) ∙ same_cell-refl b) (λ e. ap (λ z. same_cell a z) (same_cell-eq b a e) ∙ same_cell-refl a)

points_in : (r : Rule) (k : Cell) (c : Column) (ps : List (ℤ × ℤ)) → same_text c.series.measurement r.measurement ≡ true
    → aggregate_of (filter (is_in_cell r k) (facts_at c ps)) ≡ aggregate_of_points (filter (in_points r c k) ps)
points_in r k c [] m = refl
points_in r k c (p ∷ ps) m =
    let rest : List Fact = filter (is_in_cell r k) (facts_at c ps) in
    ap (λ b. aggregate_of (cond b (fact_at c p ∷ rest) rest)) (ap (λ b. b && same_cell (cell_of r (fact_at c p)) k) m ∙ same_flip (cell_of r (fact_at c p)) k)
    ∙ elim (in_points r c k p) as (λ b. aggregate_of (cond b (fact_at c p ∷ rest) rest) ≡ aggregate_of_points (cond b (p ∷ filter (in_points r c k) ps) (filter (in_points r c k) ps))) [
      | true ↦ ap (merged (aggregate_of_one p.0 p.1)) (points_in r k c ps m)
      | false ↦ points_in r k c ps m
    ]

pub points_out : (r : Rule) (k : Cell) (c : Column) (ps : List (ℤ × ℤ)) → same_text c.series.measurement r.measurement ≡ false → filter (is_in_cell r k) (facts_at c ps) ≡ []
points_out r k c ps m =
    filter-none (is_in_cell r k) (facts_at c ps) (λ f a.
    and_left _ _ (ap (λ (g : Fact). same_text g.column.series.measurement r.measurement) (sym (map_back (fact_at c) ps f a).2) ∙ m))

empty_right : (a : Aggregate) → merged a empty_aggregate ≡ a
empty_right a = aggregate_laws.comm a empty_aggregate ∙ aggregate_laws.unit a

-- each cell gains what goes
column_frozen : (r : Rule) (k : Cell) (c : Column) (ps : List (ℤ × ℤ)) (left : List Fact) (m : CellMap)
    → (merged (frozen_in (finmap.get m k)) (aggregate_of (filter (is_in_cell r k) (facts_at c ps)))).count ≤ 2 ^ 62
    → ((p : ℤ × ℤ) → Among p ps → same_text c.series.measurement r.measurement ≡ true → in_points r c k p ≡ true → finmap.get m k ≡ None → ⊥)
    → frozen_in (finmap.get (moved_cells r c ps left m) k) ≡ merged (frozen_in (finmap.get m k)) (aggregate_of (filter (is_in_cell r k) (facts_at c ps)))
column_frozen r k c ps left m few spare =
    let ins : List (ℤ × ℤ) = filter (in_points r c k) ps in
    let gone : Aggregate = aggregate_of (filter (is_in_cell r k) (facts_at c ps)) in
    elim (same_text c.series.measurement r.measurement) as (λ b. same_text c.series.measurement r.measurement ≡ b → frozen_in (finmap.get (cond b (refolded_points r c ps left (frozen_points r c ps m)) m) k) ≡ merged (frozen_in (finmap.get m k)) gone) [
      | true ↦ λ t.
          let same : gone ≡ aggregate_of_points ins = points_in r k c ps t in
          refolded_frozen r c k left ps (frozen_points r c ps m)
          ∙ elim (finmap.get m k) as (λ o. finmap.get m k ≡ o → (merged (frozen_in o) gone).count ≤ 2 ^ 62 → frozen_in (finmap.get (frozen_points r c ps m) k) ≡ merged (frozen_in o) gone) [
            | None ↦ λ g few'.
                let empty : ins ≡ [] = no_members ins (λ p a. spare p (Among-filter_was (in_points r c k) p ps a) t (Among-filter_passes (in_points r c k) p ps a) g) in
                ap frozen_in (frozen_none r c k ps m g) ∙ sym (ap (merged empty_aggregate) (same ∙ ap aggregate_of_points empty) ∙ empty_right empty_aggregate)
            | Some a ↦ λ g few'.
                let counted : gone.count ≡ length ins = ap (λ (x : Aggregate). x.count) same ∙ fold-count aggregate_laws (λ (p : ℤ × ℤ). aggregate_of_one p.0 p.1) (λ p. refl) ins in
                let fits : a.frozen.count + length ins ≤ 2 ^ 62 = subst (λ n. a.frozen.count + n ≤ 2 ^ 62) counted few' in
                ap frozen_in (frozen_gives r c k ps m a g fits) ∙ ap (merged a.frozen) (sym same)
          ] refl few
      | false ↦ λ t. sym (ap (λ fs. merged (frozen_in (finmap.get m k)) (aggregate_of fs)) (points_out r k c ps t) ∙ empty_right _)
    ] refl

-- ---- live parts

any_found : (r : Rule) (c : Column) (k : Cell) (ps : List (ℤ × ℤ)) → any_in r c k ps ≡ true → (p : ℤ × ℤ) × Among p ps × (in_points r c k p ≡ true)
any_found r c k [] h = absurd (true≢false (sym h))
any_found r c k (p ∷ ps) h =
    elim (in_points r c k p) as (λ b. in_points r c k p ≡ b → b || any_in r c k ps ≡ true → (q : ℤ × ℤ) × Among q (p ∷ ps) × (in_points r c k q ≡ true)) [
      | true ↦ λ e y. (p, inl refl, e)
      | false ↦ λ e y. let f = any_found r c k ps y in (f.0, inr f.1, f.2)
    ] refl h

none_in : (r : Rule) (k : Cell) (c : Column) (ps : List (ℤ × ℤ)) → any_in r c k ps ≡ false → filter (is_in_cell r k) (facts_at c ps) ≡ []
none_in r k c [] h = refl
none_in r k c (p ∷ ps) h =
    let f : Fact = fact_at c p in
    let rest : List Fact = filter (is_in_cell r k) (facts_at c ps) in
    let q = or_parts (in_points r c k p) (any_in r c k ps) h in
    ap (λ b. cond (same_text c.series.measurement r.measurement && b) (f ∷ rest) rest) (same_flip (cell_of r f) k ∙ q.0)
    ∙ ap (λ b. cond b (f ∷ rest) rest) (and_right (same_text c.series.measurement r.measurement) false refl) ∙ none_in r k c ps q.1

-- where nothing that passes goes, what passes is what is left of it
filter-left : (p q : Fact → Bool) (fs : List Fact) → filter (λ (f : Fact). p f && not (q f)) fs ≡ [] → filter p (filter q fs) ≡ filter p fs
filter-left p q fs h =
    filter_both p q fs
    ∙ filter-agree (λ (f : Fact). q f && p f) p fs (λ f a. same_bool (q f && p f) (p f) (λ t. (and_parts (q f) _ t).1)
    (λ t. and_from _ _ (true_from_ne_false _ (λ n. subst (Among f) h (Among-filter_stays (λ (g : Fact). p g && not (q g)) f fs a (and_from _ _ t (not_from_false _ n))))) t))

module _ (c : Column) (mark : ℤ) (before : List ColumnPoints) (ps : List (ℤ × ℤ)) (once : AllDistinct (map column_of before)) (there : Among (record { column = c; points = ps }) before) where
  abbrev left : List Fact
  left = facts_of (map (left_points c mark) before)

  abbrev below : List (ℤ × ℤ)
  below = points_below mark ps

  -- a cell that no point leaves
  still : (r : Rule) (k : Cell) → filter (is_in_cell r k) (facts_at c below) ≡ [] → total_of r k left ≡ total_of r k (facts_of before)
  still r k e =
      ap (λ fs. aggregate_of (filter (is_in_cell r k) fs)) (facts_of-left c mark before)
      ∙ ap aggregate_of (filter-left (is_in_cell r k) (is_left c mark) (facts_of before) (gone_held c mark (is_in_cell r k) before ps once there ∙ e))

  -- the old live part becomes the rest of it
  pub live_moved : (r : Rule) (k : Cell) (m : CellMap) → live_in (finmap.get m k) ≡ total_of r k (facts_of before)
      → ((p : ℤ × ℤ) → Among p below → same_text c.series.measurement r.measurement ≡ true → in_points r c k p ≡ true → finmap.get m k ≡ None → ⊥)
      → live_in (finmap.get (moved_cells r c below left m) k) ≡ total_of r k left
  live_moved r k m was spare =
      elim (same_text c.series.measurement r.measurement) as (λ b. same_text c.series.measurement r.measurement ≡ b → live_in (finmap.get (cond b (refolded_points r c below left (frozen_points r c below m)) m) k) ≡ total_of r k left) [
        | true ↦ λ t. refolded_live r c k left below (frozen_points r c below m)
            (λ y e. let f = any_found r c k below y in spare f.0 f.1 t f.2 (none_of (finmap.get m k) (sym (frozen_some r c k below m) ∙ ap is_some e)))
            (λ n. frozen_live r c k below m ∙ was ∙ sym (still r k (none_in r k c below n)))
        | false ↦ λ t. was ∙ sym (still r k (points_out r k c below t))
      ] refl

pub key_not : (m : CellMap) (k : Cell) → Among k (finmap.keys m) → finmap.get m k ≡ None → ⊥
key_not m k a e =
    let r = map_back (λ (x : Cell × CellParts). x.0) (finmap.entries m) k a in
    none-some r.0.1 (sym e ∙ ap (finmap.get m) (sym r.2) ∙ get-entries m r.0.0 ∙ found_among cells_total (finmap.entries m) (finmap.entries_sorted m) r.0 r.1)

pub keys_column : (r : Rule) (c : Column) (ps : List (ℤ × ℤ)) (left : List Fact) (m : CellMap) → finmap.keys (moved_cells r c ps left m) ≡ finmap.keys m
keys_column r c ps left m =
    cond_as finmap.keys (same_text c.series.measurement r.measurement) (refolded_points r c ps left (frozen_points r c ps m)) m (keys_refolded r c left ps (frozen_points r c ps m) ∙ keys_frozen r c ps m)

rule_moved : (opening : Settings) (h : History) → IsLawful opening h → (cut : Column → ℤ) (c : Column) (mark : ℤ) (before : List ColumnPoints) (ps : List (ℤ × ℤ)) → AllDistinct (map column_of before) → Among (record { column = c; points = ps }) before
    → Holds cut (latest_of h) (facts_of before) → (x : RuleData) → HasCells cut (latest_of h) (rule_cells x)
    → IsMoved c mark before (map (left_points c mark) before) (rule_cells x) (rule_cells (in_cells (λ (r : Rule). moved_cells r c (points_below mark ps) (facts_of (map (left_points c mark) before))) x))
rule_moved opening h lawful cut c mark before ps once there held x has =
    let r : Rule = x.rule in
    let low : ℤ = x.low in
    let m : CellMap = x.cells in
    let fs : List Fact = latest_of h in
    let below : List (ℤ × ℤ) = points_below mark ps in
    let left : List Fact = facts_of (map (left_points c mark) before) in
    -- the cell of a point that goes is there
    let spare : (k : Cell) → low ≤ℤ k.index → (p : ℤ × ℤ) → Among p below → same_text c.series.measurement r.measurement ≡ true → in_points r c k p ≡ true → finmap.get m k ≡ None → ⊥ = λ k l p q t i n.
    let f : Fact = fact_at c p in
    let key : k ≡ cell_of r f = same_cell-eq k (cell_of r f) i in
    let shown : Among f (facts_of before) = facts_of-there before (record { column = c; points = ps }) f there (Among-map (fact_at c) p ps (Among-filter_was (λ (x : ℤ × ℤ). int_lt x.0 mark) p ps q)) in
    let cell : Among (cell_of r f) (finmap.keys m) = has.there f (held.only f shown).0 t (subst (λ (x : Cell). low ≤ℤ x.index) key l) in
    key_not m (cell_of r f) cell (ap (finmap.get m) (sym key) ∙ n) in
    record {
      rule = refl;
      low = refl;
      cells = sym (keys_column r c below left m);
      frozen = λ k l.
          let a : Aggregate = frozen_in (finmap.get m k) in
          let goes : Fact → Bool = λ f. is_in_cell r k f && not (is_left c mark f) in
          let gone : aggregate_where goes (facts_of before) ≡ aggregate_of (filter (is_in_cell r k) (facts_at c below)) = ap aggregate_of (gone_held c mark (is_in_cell r k) before ps once there) in
          let total : (total_of r k fs).count ≡ (frozen_of cut r k fs).count + (live_of cut r k fs).count = ap (λ (x : Aggregate). x.count) (total_of-parts cut r k fs) in
          let whole : (total_of r k fs).count ≤ 2 ^ 62 = count_few opening h lawful (is_in_cell r k) in
          let frozen : a.count ≡ (frozen_of cut r k fs).count = ap (λ (x : Aggregate). x.count) (has.frozen k l) in
          let live : (live_of cut r k fs).count ≡ length (filter (is_in_cell r k) (facts_of before)) =
          ap (λ (x : Aggregate). x.count) (live_of-held cut fs (facts_of before) held (latest-distinct (accepted h)) r k) ∙ count_where (is_in_cell r k) (facts_of before) in
          let less : length (filter goes (facts_of before)) ≤ length (filter (is_in_cell r k) (facts_of before)) = fewer_both (is_in_cell r k) (λ (f : Fact). not (is_left c mark f)) (facts_of before) in
          let counted : (aggregate_where goes (facts_of before)).count ≡ length (filter goes (facts_of before)) = count_where goes (facts_of before) in
          let few : a.count + (aggregate_where goes (facts_of before)).count ≤ 2 ^ 62 = omega (arith, total, whole, frozen, live, less, counted) in
          column_frozen r k c below left m (subst (λ (x : Aggregate). a.count + x.count ≤ 2 ^ 62) gone few) (spare k l) ∙ ap (merged a) (sym gone);
      live = λ k l. live_moved c mark before ps once there r k m (has.live k l ∙ live_of-held cut fs (facts_of before) held (latest-distinct (accepted h)) r k) (spare k l);
    }

-- a step that moves the first of the waiting columns, on what the store keeps
pub step_stands : (opening : Settings) (h : History) (k : StoreData) (c : Column) (ps : List (ℤ × ℤ)) (rest : List Column) → StandsFor opening h (state_of k) → k.waiting ≡ c ∷ rest → Among (record { column = c; points = ps }) k.columns
    → StandsFor opening (Step false ∷ h) (state_of (column_moved c ps rest k))
step_stands opening h k c ps rest st w there =
    let s : StoreState = state_of k in
    let new : StoreData = column_moved c ps rest k in
    let cut : Column → ℤ = kept_from opening h k.waiting in
    stands_changed AnyCells opening (Step false ∷ h) new k.rules (each_in AnyCells (λ (r : Rule). moved_cells r c (points_below k.raw_mark ps) (facts_of (columns_left c s))) (λ a. tt) k.rules)
    (move_stands opening h s c rest (map rule_cells new.rules) st w
    (AllZip-mapped (λ x. HasCells cut (latest_of h) (rule_cells x)) (IsMoved c k.raw_mark k.columns (columns_left c s)) rule_cells (in_cells (λ (r : Rule). moved_cells r c (points_below k.raw_mark ps) (facts_of (columns_left c s))))
    (rule_moved opening h st.lawful cut c k.raw_mark k.columns ps st.columns_once there (StandsFor-Holds opening h s st)) k.rules
    (all_of_map (λ x. HasCells cut (latest_of h) (rule_cells x)) (HasCells cut (latest_of h)) rule_cells (λ x b. b) k.rules st.rolled)))
