-- Adding and dropping rules, on a store's content.
use Rattle.std.proofs.Common.{◌≡◌, ℤ, ◌+◌, ◌≤◌, ◌≤ℤ◌, Bool, true, false, cond, List, [], ◌∷◌, ◌++◌, length, filter, map, refl, sym, ◌∙◌, ap, subst, arith, Some, None, int_lt, IsTrue}
use Rattle.std.proofs.lemmas.Simd.{map-map}
use Rattle.std.specs.FinMap as finmap
use Rattle.std.proofs.lemmas.Bool.{and_parts}
use Rattle.ts_core.specs.facts.Facts.{Text, Fact}
use Rattle.ts_core.specs.settings.Settings.{Rule, Settings, is_unnamed}
use Rattle.ts_core.specs.settings.SettingsFaults.{added_fault, is_named}
use Rattle.ts_core.specs.store.History.{History, AddRule, DropRule}
use Rattle.ts_core.specs.store.Marks.{first_from}
use Rattle.ts_core.specs.aggregates.Aggregates.{empty_aggregate, aggregate_of}
use Rattle.ts_core.specs.store.Cells.{Cell, same_cell, cell_of, is_rolled, is_in_cell, total_of}
use Rattle.ts_core.specs.lists.Changes.{or_else}
use Rattle.ts_core.specs.moves.Runs.{batches_of, batches_left, steps_left}
use Rattle.ts_core.specs.store.StoreStates.{RuleCells, StandsFor, lowest_of, facts_of}
use Rattle.ts_core.specs.store.StoreData.{CellMap, RuleData, StoreData, no_parts, rule_cells, store_settings, state_of}
use Rattle.ts_core.specs.moves.RuleMoves.{IsFresh, rule_added, stays_without, rule_dropped}
use Rattle.ts_core.proofs.lists.ListSteps.{map-push, filter-map}
use Rattle.ts_core.proofs.lists.MembersLemmas.{no_members, Among-filter_was, Among-filter_passes}
use Rattle.ts_core.proofs.plans.PieceCells.{same_cell-eq}
use Rattle.ts_core.proofs.lists.Comparisons.{lt_from}
use Rattle.ts_core.proofs.moves.MovesStand.{keys_once, key_there, key_not}
use Rattle.ts_core.proofs.store.RulesCome.{StartsWith, stays_under, added_stands, dropped_stands}

-- ---- a rule is added

abbrev new_rule : Rule → ℤ → CellMap → RuleData
new_rule r low m = record { rule = r; low = low; cells = m }

rules_push : (rs : List RuleData) (r : Rule) (low : ℤ) (m : CellMap) → map rule_cells (rs ++ new_rule r low m ∷ []) ≡ map rule_cells rs ++ rule_cells (new_rule r low m) ∷ []
rules_push rs r low m = map-push rule_cells rs (new_rule r low m)

fresh_starts : (r : Rule) (low : ℤ) (facts : List Fact) (m : CellMap) → IsFresh r low facts m → StartsWith facts (rule_cells (new_rule r low m))
fresh_starts r low facts m f = record {
  once = keys_once m;
  there = λ x a t l. key_there m (cell_of r x) (f.there x a t l);
  frozen = λ k l. elim (finmap.get m k) as (λ o. finmap.get m k ≡ o → (or_else no_parts o).frozen ≡ empty_aggregate) [ None ↦ λ g. refl | Some p ↦ λ g. f.frozen k p g ] refl;
  live = λ k l. elim (finmap.get m k) as (λ o. finmap.get m k ≡ o → (or_else no_parts o).live ≡ total_of r k facts) [
    | None ↦ λ g. sym (ap aggregate_of (no_members (filter (is_in_cell r k) facts) (λ x a.
        let t = and_parts (is_rolled r x) (same_cell (cell_of r x) k) (Among-filter_passes (is_in_cell r k) x facts a) in
        let at : cell_of r x ≡ k = same_cell-eq (cell_of r x) k t.1 in
        f.there x (Among-filter_was (is_in_cell r k) x facts a) t.0 (subst (λ (z : Cell). low ≤ℤ z.index) (sym at) l) (ap (finmap.get m) at ∙ g))))
    | Some p ↦ λ g. f.live k p g
  ] refl;
}

pub rule_comes : (opening : Settings) (h : History) (k : StoreData) (r : Rule) (m : CellMap) → StandsFor opening h (state_of k) → added_fault (store_settings k) r ≡ None → IsFresh r (first_from r k.raw_mark) (facts_of k.columns) m
    → StandsFor opening (AddRule r ∷ h) (state_of (rule_added r (first_from r k.raw_mark) m k))
rule_comes opening h k r m st well fresh =
    let low : ℤ = first_from r k.raw_mark in
    let x : RuleData = new_rule r low m in
    subst (StandsFor opening (AddRule r ∷ h))
    (λ i. record (state_of k) {
      settings = record { raw_duration = k.raw_duration; rules = sym (map-push (λ (a : RuleData). a.rule) k.rules x) i };
      marks = record { raw = k.raw_mark; lows = sym (map-push (λ (a : RuleData). a.low) k.rules x) i };
      rules = sym (rules_push k.rules r low m) i;
    })
    (added_stands opening h (state_of k) (rule_cells x) st well refl (fresh_starts r low (facts_of k.columns) m fresh))

-- ---- a rule is dropped

turns_kept : (p : RuleCells → Bool) (rs : List RuleCells) → batches_left (filter p rs) ≤ batches_left rs
turns_kept p [] = omega arith
turns_kept p (r ∷ rs) =
    let rest = turns_kept p rs in
    elim (p r) as (λ c. batches_left (cond c (r ∷ filter p rs) (filter p rs)) ≤ batches_left (r ∷ rs)) [ true ↦ omega arith | false ↦ omega arith ]

pub rule_goes : (opening : Settings) (h : History) (k : StoreData) (name : Text) → StandsFor opening h (state_of k) → IsTrue (is_named (store_settings k).rules name) → StandsFor opening (DropRule name ∷ h) (state_of (rule_dropped name k))
rule_goes opening h k name st named =
    let rules = filter-map (stays_under name) rule_cells k.rules in
    let lows = ap (map lowest_of) rules ∙ map-map lowest_of rule_cells (filter (stays_without name) k.rules) in
    subst (StandsFor opening (DropRule name ∷ h))
    (λ i. record (state_of k) {
      settings = record { raw_duration = k.raw_duration; rules = filter-map (is_unnamed name) (λ (a : RuleData). a.rule) k.rules i };
      marks = record { raw = k.raw_mark; lows = lows i };
      rules = rules i;
    })
    (dropped_stands opening h (state_of k) name st named)

-- ---- what else stays

-- no cell is below the low index
none_expired : (r : Rule) (low : ℤ) (facts : List Fact) (m : CellMap) → IsFresh r low facts m → length (filter (λ (k : Cell). int_lt k.index low) (finmap.keys m)) ≡ 0
none_expired r low facts m f =
    let p : Cell → Bool = λ (k : Cell). int_lt k.index low in
    ap (λ ks. length ks) (no_members (filter p (finmap.keys m)) (λ k a. key_not m k (Among-filter_was p k (finmap.keys m) a) (f.above k (lt_from k.index low (Among-filter_passes p k (finmap.keys m) a)))))

turns_push : (rs : List RuleCells) (r : RuleCells) → batches_left (r ∷ []) ≡ 0 → batches_left (rs ++ r ∷ []) ≡ batches_left rs
turns_push [] r e = e
turns_push (q ∷ rs) r e = let rest = turns_push rs r e in omega arith

pub left_added : (k : StoreData) (r : Rule) (low : ℤ) (m : CellMap) → IsFresh r low (facts_of k.columns) m → steps_left (state_of (rule_added r low m k)) ≡ steps_left (state_of k)
left_added k r low m fresh =
    let none = none_expired r low (facts_of k.columns) m fresh in
    ap (λ t. cond k.running (length k.waiting + t + 1) 0)
    (ap batches_left (rules_push k.rules r low m) ∙ turns_push (map rule_cells k.rules) (rule_cells (new_rule r low m)) (ap (λ n. batches_of n + 0) none))

pub left_dropped : (k : StoreData) (name : Text) → steps_left (state_of (rule_dropped name k)) ≤ steps_left (state_of k)
left_dropped k name =
    let fewer = turns_kept (stays_under name) (map rule_cells k.rules) in
    let same = ap batches_left (filter-map (stays_under name) rule_cells k.rules) in
    elim k.running as (λ b. cond b (length k.waiting + batches_left (map rule_cells (filter (stays_without name) k.rules)) + 1) 0 ≤ cond b (length k.waiting + batches_left (map rule_cells k.rules) + 1) 0) [
      | true ↦ omega arith
      | false ↦ omega arith
    ]
