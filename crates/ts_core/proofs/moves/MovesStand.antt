-- The other transitions, on a store's content.
use Rattle.std.proofs.lemmas.Bool.{not-true, false_from_ne_true, and_parts}
use Rattle.std.proofs.Common.{◌≡◌, ℤ, ◌≤ℤ◌, true, false, cond, not, ◌&&◌, List, [], ◌∷◌, filter, map, refl, sym, ◌∙◌, ap, subst, inl, inr, ◌⊎◌, ⊎_elim, true≢false, Some, None, T}
use Rattle.std.specs.List.{AllByRecursion, AllZip}
use Rattle.std.specs.FinMap as finmap
use Rattle.std.specs.FinMap.{is_sorted, get-entries, entries_sorted}
use Rattle.ts_core.specs.lists.Members.{Among, AllDistinct}
use Rattle.ts_core.specs.facts.Facts.{Series, Column, Fact, Id, id_of, same_id}
use Rattle.ts_core.specs.settings.Settings.{Rule, Settings}
use Rattle.ts_core.specs.store.History.{History, Begin, Step}
use Rattle.ts_core.specs.facts.Latest.{latest_of}
use Rattle.std.proofs.lemmas.Simd.{map-map}
use Rattle.ts_core.specs.aggregates.MergeLaws.{aggregate_laws}
use Rattle.ts_core.specs.store.RawFacts.{kept_from}
use Rattle.ts_core.specs.store.Cells.{Cell, cell_cmp, same_cell, cell_of, is_rolled, is_in_cell, total_of}
use Rattle.ts_core.specs.store.StoreStates.{ColumnPoints, CellParts, StandsFor, HasCells, column_of, rule_of, lowest_of, facts_of}
use Rattle.ts_core.proofs.aggregates.Folds.{fold-same}
use Rattle.ts_core.proofs.lists.MembersLemmas.{Among-map, map_back, AllDistinct-filter, Among-filter_was, Among-filter_passes, Among-filter_stays}
use Rattle.ts_core.proofs.plans.PieceCells.{cells_total, exact_cells, same_cell-eq, same_cell-refl}
use Rattle.ts_core.proofs.facts.Ids.{same_id-eq}
use Rattle.ts_core.proofs.lists.Places.{both_of}
use Rattle.ts_core.proofs.lists.Sorted.{not_itself, later_greater, among_found}
use Rattle.ts_core.proofs.store.Cuts.{one_fact}
use Rattle.ts_core.proofs.store.Moves.{IsRaised, IsExpired, IsWritten, FactsToo}
use Rattle.ts_core.proofs.store.StateLemmas.{AllZip-map, AllZip-mapped, all_map, all_of_map}
use Rattle.ts_core.proofs.store.Begins.{begin_stands}
use Rattle.ts_core.proofs.store.RunSteps.{expire_stands, close_stands}
use Rattle.ts_core.proofs.store.Writes.{is_other}
use Rattle.ts_core.specs.store.TwoParts.{with_live}
use Rattle.ts_core.specs.lists.Changes.{or_else}
use Rattle.ts_core.specs.store.StoreData.{CellMap, no_parts, RuleData, StoreData, rule_cells, state_of}
use Rattle.ts_core.specs.moves.StoreMoves.{in_cells, raised_rule, run_begun, KeepsFrom, Expired, with_rules, run_ended, GainsEmptyCells, GainEmptyCells, grown, refolded, put_cell, put_cells, PutsFact}
use Rattle.ts_core.proofs.moves.Freezing.{cond_as, frozen_in, live_in, changed_as, changed_here, changed_else, keys_changed}
use Rattle.ts_core.proofs.moves.EachRule.{rules_changed, rules_keep, rules_gain, settings_same, marks_same, stands_changed}
pub use Rattle.ts_core.proofs.moves.StepStands.{key_not}
use Rattle.ts_core.proofs.moves.StepStands.{same_flip}

-- ---- begin

raised_rules : (now : ℤ) (rs : List RuleData) → AllZip (IsRaised now) (map rule_cells rs) (map rule_cells (map (raised_rule now) rs))
raised_rules now [] = tt
raised_rules now (r ∷ rs) = (record { rule = refl; low = refl; cells = refl; parts = λ k. refl }, raised_rules now rs)

pub run_begins : (opening : Settings) (h : History) (k : StoreData) (now : ℤ) → StandsFor opening h (state_of k) → k.running ≡ false → StandsFor opening (Begin now ∷ h) (state_of (run_begun now k))
run_begins opening h k now st e =
    let after : List RuleData = (run_begun now k).rules in
    subst (StandsFor opening (Begin now ∷ h))
    (λ i. record (state_of (run_begun now k)) {
      settings = record { raw_duration = k.raw_duration; rules = sym (map-map (λ (a : RuleData). a.rule) (raised_rule now) k.rules) i };
      marks = record { raw = (run_begun now k).raw_mark; lows = map-map lowest_of rule_cells after i };
    })
    (begin_stands opening h (state_of k) now (map rule_cells after) st e (raised_rules now k.rules))

-- ---- keys

sorted_once : (es : List (Cell × CellParts)) → T (is_sorted cell_cmp es) → AllDistinct (map (λ (e : Cell × CellParts). e.0) es)
sorted_once [] s = tt
sorted_once (e ∷ es) s =
    let p = both_of _ _ s in
    let apart = λ (a : Among e.0 (map (λ (x : Cell × CellParts). x.0) es)). let r = map_back (λ (x : Cell × CellParts). x.0) es e.0 a in
    not_itself cells_total e.0 (ap (cell_cmp e.0) (sym r.2) ∙ later_greater cells_total e.0 es p.0 r.0 r.1) in
    (apart, sorted_once es p.1)

pub keys_once : (m : CellMap) → AllDistinct (finmap.keys m)
keys_once m = sorted_once (finmap.entries m) (entries_sorted m)

pub key_there : (m : CellMap) (k : Cell) → (finmap.get m k ≡ None → ⊥) → Among k (finmap.keys m)
key_there m k h =
    elim (finmap.get m k) as (λ o. finmap.get m k ≡ o → Among k (finmap.keys m)) [
      | None ↦ λ e. absurd (h e)
      | Some p ↦ λ e. Among-map (λ (x : Cell × CellParts). x.0) (k, p) (finmap.entries m) (among_found exact_cells (finmap.entries m) k p (sym (get-entries m k) ∙ e))
    ] refl

-- ---- expiry

is_expired : (a : RuleData) (n : CellMap) → KeepsFrom a.low a.cells n → IsExpired (rule_cells a) (rule_cells (record a { cells = n }))
is_expired a n e = record {
  rule = refl;
  low = refl;
  once = keys_once n;
  stays = λ k l b. key_there n k (λ z. key_not a.cells k b (sym (e k l) ∙ z));
  parts = λ k l. ap (or_else no_parts) (e k l);
}

pub cells_go : (opening : Settings) (h : History) (k : StoreData) (rs : List RuleData) → StandsFor opening h (state_of k) → Expired k.rules rs → StandsFor opening (Step false ∷ h) (state_of (with_rules rs k))
cells_go opening h k rs st e =
    let each = rules_changed (λ r. KeepsFrom) (λ (a b : RuleData). IsExpired (rule_cells a) (rule_cells b)) is_expired k.rules rs e in
    stands_changed (λ r. KeepsFrom) opening (Step false ∷ h) (with_rules rs k) k.rules e
    (expire_stands opening h (state_of k) (map rule_cells rs) st (AllZip-map IsExpired rule_cells rule_cells k.rules rs each))

pub run_ends : (opening : Settings) (h : History) (k : StoreData) → StandsFor opening h (state_of k) → k.waiting ≡ [] → StandsFor opening (Step true ∷ h) (state_of (run_ended k))
run_ends opening h k st e = close_stands opening h (state_of k) st e

-- ---- what has grown

-- a rule gains empty cells of these facts
abbrev pub GainsOf : List Fact → Rule → ℤ → CellMap → CellMap → Type 0
GainsOf facts r low = GainsEmptyCells r low facts

grown_cells : (cut : Column → ℤ) (fs facts : List Fact) (a : RuleData) (n : CellMap) → GainsEmptyCells a.rule a.low facts a.cells n → HasCells cut fs (rule_cells a) → HasCells cut fs (rule_cells (record a { cells = n }))
grown_cells cut fs facts a n e has = record {
  once = keys_once n;
  there = λ f b t l. key_there n (cell_of a.rule f) (λ z. key_not a.cells (cell_of a.rule f) (has.there f b t l) (e.stays (cell_of a.rule f) z));
  frozen = λ k l. ap (λ (p : CellParts). p.frozen) (e.parts k) ∙ has.frozen k l;
  live = λ k l. ap (λ (p : CellParts). p.live) (e.parts k) ∙ has.live k l;
}

pub grows : (opening : Settings) (h : History) (k : StoreData) (series : List Series) (columns : List ColumnPoints) (rs : List RuleData) (facts : List Fact) → StandsFor opening h (state_of k)
    → AllDistinct (map column_of columns) → ((c : Column) → Among c (map column_of k.columns) → Among c (map column_of columns)) → ((c : Column) → Among c (map column_of columns) → Among c.series series)
    → facts_of columns ≡ facts_of k.columns → GainEmptyCells facts k.rules rs → StandsFor opening h (state_of (grown series columns rs k))
grows opening h k series columns rs facts st once stay registered same spare = record {
  lawful = st.lawful;
  settings = settings_same (GainsOf facts) (grown series columns rs k) k.rules spare ∙ st.settings;
  marks = marks_same (GainsOf facts) (grown series columns rs k) k.rules spare ∙ st.marks;
  accepted = st.accepted;
  running = st.running;
  waiting_once = st.waiting_once;
  waiting_there = λ c a. stay c (st.waiting_there c a);
  idle = st.idle;
  columns_once = once;
  columns_there = λ f a. stay f.column (st.columns_there f a);
  registered = registered;
  once = subst AllDistinct (sym same) st.once;
  raw = λ f. (λ a. (st.raw f).0 (subst (Among f) same a), λ a. subst (Among f) (sym same) ((st.raw f).1 a));
  rules = map-map rule_of rule_cells rs;
  lows = map-map lowest_of rule_cells rs;
  rolled =
      let cut : Column → ℤ = kept_from opening h k.waiting in
      let P : RuleData → Type 0 = λ a. HasCells cut (latest_of h) (rule_cells a) in
      all_map P (HasCells cut (latest_of h)) rule_cells (λ a b. b) rs
      (rules_keep (GainsOf facts) P P (grown_cells cut (latest_of h) facts) k.rules rs spare (all_of_map P (HasCells cut (latest_of h)) rule_cells (λ a b. b) k.rules st.rolled));
}

-- ---- facts are put

pub too : (before after : List ColumnPoints) (f : Fact) → PutsFact before after f → FactsToo (facts_of before) (facts_of after) f (is_other f)
too before after f p = record {
  once = p.1.once;
  new = p.1.new;
  stays = λ g a e. p.1.kept g a (not-true _ e);
  only = λ g a. ⊎_elim {C = (g ≡ f) ⊎ (Among g (facts_of before) × (is_other f g ≡ true))} (λ e. inl e) (λ q. inr (q.0, ap not q.1)) (p.1.only g a);
}

-- a cell that the fact isn't in has the same live part: where it is of the id of a fact that went, that one isn't in it
-- either
pub elsewhere : (before after : List ColumnPoints) (f : Fact) → AllDistinct (facts_of before) → PutsFact before after f → (r : Rule) (k : Cell) → is_in_cell r k f ≡ false → total_of r k (facts_of after) ≡ total_of r k (facts_of before)
elsewhere before after f d p r k e =
    fold-same aggregate_laws one_fact (filter (is_in_cell r k) (facts_of after)) (filter (is_in_cell r k) (facts_of before))
    (AllDistinct-filter (is_in_cell r k) (facts_of after) p.1.once) (AllDistinct-filter (is_in_cell r k) (facts_of before) d)
    (λ g a. let t = Among-filter_passes (is_in_cell r k) g (facts_of after) a in
    ⊎_elim {C = Among g (filter (is_in_cell r k) (facts_of before))} (λ s. absurd (true≢false (sym t ∙ ap (is_in_cell r k) s ∙ e))) (λ q. Among-filter_stays (is_in_cell r k) g (facts_of before) q.0 t)
    (p.1.only g (Among-filter_was (is_in_cell r k) g (facts_of after) a)))
    (λ g a. let t = Among-filter_passes (is_in_cell r k) g (facts_of before) a in
    let w = Among-filter_was (is_in_cell r k) g (facts_of before) a in
    let other : same_id (id_of g) (id_of f) ≡ false =
    false_from_ne_true _ (λ s. true≢false (sym t ∙ ap (λ (i : Id). is_in_cell r k (record { column = i.column; time = i.time; value = g.value })) (same_id-eq (id_of g) (id_of f) s) ∙ e)) in
    Among-filter_stays (is_in_cell r k) g (facts_of after) (p.1.kept g w other) t)

-- each fact of a rule has its cell, from the low index on
pub record HasCellsOf (r : Rule) (low : ℤ) (facts : List Fact) (m : CellMap) : Type 0 where
  pub there : (f : Fact) → Among f facts → is_rolled r f ≡ true → low ≤ℤ (cell_of r f).index → finmap.get m (cell_of r f) ≡ None → ⊥

abbrev pub HaveCellsOf : List Fact → List RuleData → Type 0
HaveCellsOf facts = AllByRecursion (λ (a : RuleData). HasCellsOf a.rule a.low facts a.cells)

pub room_cells : (facts : List Fact) (rs ss : List RuleData) → GainEmptyCells facts rs ss → HaveCellsOf facts ss
room_cells facts = rules_gain (GainsOf facts) (λ (a : RuleData). HasCellsOf a.rule a.low facts a.cells) (λ a n g. record { there = g.there })

pub put_cell-keys : (r : Rule) (f : Fact) (facts : List Fact) (m : CellMap) → finmap.keys (put_cell r f facts m) ≡ finmap.keys m
put_cell-keys r f facts m = cond_as finmap.keys (is_rolled r f) (refolded r (cell_of r f) facts m) m (keys_changed m (cell_of r f) (with_live (total_of r (cell_of r f) facts)))

pub cells_stay : (f : Fact) (left facts : List Fact) (rs : List RuleData) → HaveCellsOf facts rs → HaveCellsOf facts (put_cells f left rs)
cells_stay f left facts rs e =
    let P : RuleData → Type 0 = λ a. HasCellsOf a.rule a.low facts a.cells in
    all_map P P (in_cells (λ (r : Rule). put_cell r f left))
    (λ a has. record { there = λ g b t l n. key_not (put_cell a.rule f left a.cells) (cell_of a.rule g) (subst (Among (cell_of a.rule g)) (sym (put_cell-keys a.rule f left a.cells)) (key_there a.cells (cell_of a.rule g) (has.there g b t l))) n }) rs e

-- the frozen parts stay, and each live part but that of the fact's own cell
pub put_frozen : (r : Rule) (f : Fact) (facts : List Fact) (m : CellMap) (k : Cell) → frozen_in (finmap.get (put_cell r f facts m) k) ≡ frozen_in (finmap.get m k)
put_frozen r f facts m k =
    cond_as (λ n. frozen_in (finmap.get n k)) (is_rolled r f) (refolded r (cell_of r f) facts m) m (changed_as frozen_in (with_live (total_of r (cell_of r f) facts)) (λ a. refl) m (cell_of r f) k)

pub put_here : (r : Rule) (f : Fact) (facts : List Fact) (m : CellMap) (k : Cell) → (finmap.get m (cell_of r f) ≡ None → ⊥) → is_in_cell r k f ≡ true → live_in (finmap.get (put_cell r f facts m) k) ≡ total_of r k facts
put_here r f facts m k there t =
    let p = and_parts (is_rolled r f) (same_cell (cell_of r f) k) t in
    let at : cell_of r f ≡ k = same_cell-eq (cell_of r f) k p.1 in
    let g : CellParts → CellParts = with_live (total_of r (cell_of r f) facts) in
    elim (finmap.get m k) as (λ o. finmap.get m k ≡ o → live_in (finmap.get (put_cell r f facts m) k) ≡ total_of r k facts) [
      | None ↦ λ e. absurd (there (ap (finmap.get m) at ∙ e))
      | Some a ↦ λ e.
          ap (λ b. live_in (finmap.get (cond b (refolded r (cell_of r f) facts m) m) k)) p.0
          ∙ ap live_in (changed_here m (cell_of r f) k g a (ap (λ x. same_cell k x) at ∙ same_cell-refl k) e) ∙ ap (λ (x : Cell). total_of r x facts) at
    ] refl

pub put_else : (r : Rule) (f : Fact) (facts : List Fact) (m : CellMap) (k : Cell) → is_in_cell r k f ≡ false → finmap.get (put_cell r f facts m) k ≡ finmap.get m k
put_else r f facts m k t =
    elim (is_rolled r f) as (λ b. b && same_cell (cell_of r f) k ≡ false → finmap.get (cond b (refolded r (cell_of r f) facts m) m) k ≡ finmap.get m k) [
      | true ↦ λ e. changed_else m (cell_of r f) k (with_live (total_of r (cell_of r f) facts)) (same_flip k (cell_of r f) ∙ e)
      | false ↦ λ e. refl
    ] t

pub written_rules : (after : List ColumnPoints) (f : Fact) (facts : List Fact) → Among f facts → (rs : List RuleData) → HaveCellsOf facts rs → AllZip (IsWritten f after) (map rule_cells rs) (map rule_cells (put_cells f (facts_of after) rs))
written_rules after f facts a =
    AllZip-mapped (λ (x : RuleData). HasCellsOf x.rule x.low facts x.cells) (IsWritten f after) rule_cells (in_cells (λ (r : Rule). put_cell r f (facts_of after))) (λ x e.
    let left : List Fact = facts_of after in
    let r : Rule = x.rule in
    let m : CellMap = x.cells in
    let keys : finmap.keys m ≡ finmap.keys (put_cell r f left m) = sym (put_cell-keys r f left m) in record {
      rule = refl;
      low = refl;
      once = keys_once (put_cell r f left m);
      new = λ t l. subst (Among (cell_of r f)) keys (key_there m (cell_of r f) (e.there f a t l));
      stays = λ k b. subst (Among k) keys b;
      frozen = λ k l. put_frozen r f left m k;
      live_here = λ k l t.
          let p = and_parts (is_rolled r f) (same_cell (cell_of r f) k) t in
          put_here r f left m k (e.there f a p.0 (subst (λ (c : Cell). x.low ≤ℤ c.index) (sym (same_cell-eq (cell_of r f) k p.1)) l)) t;
      live_elsewhere = λ k l t. ap live_in (put_else r f left m k t);
    })
