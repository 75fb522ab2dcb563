-- Added and dropped rules: a new one starts with the raw facts alone, and a dropped one takes its cells with it.
use Rattle.std.proofs.Common.{◌≡◌, ℤ, pos, Bool, true, false, cond, not, ◌&&◌, List, [], ◌∷◌, ◌++◌, filter, map, refl, sym, ◌∙◌, ap, ap₂, subst, ◌≤ℤ◌, None, IsTrue}
use Rattle.std.specs.List.{AllByRecursion}
use Rattle.std.proofs.lemmas.Bool.{and_parts, or_parts, cond-true}
use Rattle.ts_core.specs.lists.Members.{Among, AllDistinct}
use Rattle.ts_core.specs.facts.Facts.{Text, Column, Fact, same_text}
use Rattle.ts_core.specs.settings.Settings.{Rule, Settings, with_rule, without_rule, is_unnamed}
use Rattle.ts_core.specs.settings.SettingsFaults.{added_fault, is_named, settings_fault}
use Rattle.ts_core.specs.store.History.{History, AddRule, DropRule, settings_of, raw_mark, accepted}
use Rattle.ts_core.specs.facts.Latest.{latest_of}
use Rattle.ts_core.specs.store.Marks.{Marks, index_of, first_from, low_of}
use Rattle.ts_core.specs.aggregates.Aggregates.{empty_aggregate, aggregate_of}
use Rattle.ts_core.specs.store.RawFacts.{kept_from, is_kept}
use Rattle.ts_core.specs.store.Cells.{Cell, cell_of, same_cell, is_rolled, is_in_cell, total_of}
use Rattle.ts_core.specs.store.StoreStates.{RuleCells, StoreState, StandsFor, HasCells, rule_of, lowest_of, facts_of}
use Rattle.ts_core.proofs.lists.Comparisons.{same_text-refl, same_text-from_eq, same_bool}
use Rattle.ts_core.proofs.facts.Ids.{same_text-eq}
use Rattle.ts_core.proofs.lists.ListSteps.{map-push, filter-map, all_push, all_filter}
use Rattle.ts_core.proofs.lists.MembersLemmas.{filter-none}
use Rattle.ts_core.proofs.facts.Latests.{latest-distinct}
use Rattle.ts_core.proofs.plans.PieceCells.{same_cell-eq}
use Rattle.ts_core.proofs.store.Cuts.{Holds, live_of-held}
use Rattle.ts_core.proofs.settings.SettingsLaws.{settings_are}
use Rattle.ts_core.proofs.settings.RuleLaws.{with_rule-fault, added_new}
use Rattle.ts_core.proofs.settings.Intervals.{settings_faultless}
use Rattle.ts_core.proofs.store.LowIndices.{first_from-after}
use Rattle.ts_core.proofs.store.RunSteps.{stands_as}
use Rattle.ts_core.proofs.store.StateLemmas.{same_head, same_rest, is_kept-above, StandsFor-Holds}

-- ---- a rule is added

-- a new rule has the cells of the raw facts from its low index on, with nothing frozen
pub record StartsWith (held : List Fact) (r : RuleCells) : Type 0 where
  pub once : AllDistinct r.cells
  pub there : (f : Fact) → Among f held → IsTrue (is_rolled r.rule f) → r.low ≤ℤ (cell_of r.rule f).index → Among (cell_of r.rule f) r.cells
  pub frozen : (k : Cell) → r.low ≤ℤ k.index → (r.parts k).frozen ≡ empty_aggregate
  pub live : (k : Cell) → r.low ≤ℤ k.index → (r.parts k).live ≡ total_of r.rule k held

abbrev pub added : RuleCells → StoreState → StoreState
added r s = record s {
  settings = with_rule r.rule s.settings;
  marks = record { raw = s.marks.raw; lows = s.marks.lows ++ r.low ∷ [] };
  rules = s.rules ++ r ∷ [];
}

pub all_last : {X : Type 0} (P : X → Type 0) (xs : List X) (x : X) → AllByRecursion P (xs ++ x ∷ []) → P x
all_last P [] x a = a.0
all_last P (y ∷ ys) x a = all_last P ys x a.1

same_text-flip : (a b : Text) → same_text a b ≡ same_text b a
same_text-flip a b = same_bool (same_text a b) (same_text b a) (λ e. same_text-from_eq b a (sym (same_text-eq a b e))) (λ e. same_text-from_eq a b (sym (same_text-eq b a e)))

-- the rules there were keep their low indices: none has the name
lows_stay : (opening : Settings) (h : History) (rule : Rule) (rs : List Rule) → is_named rs rule.name ≡ false → map (low_of opening (AddRule rule ∷ h)) rs ≡ map (low_of opening h) rs
lows_stay opening h rule [] n = refl
lows_stay opening h rule (r ∷ rs) n =
    let p = or_parts (same_text r.name rule.name) (is_named rs rule.name) n in
    ap₂ (λ x xs. x ∷ xs) (ap (λ b. cond b (first_from r (raw_mark opening h)) (low_of opening h r)) (same_text-flip rule.name r.name ∙ p.0)) (lows_stay opening h rule rs p.1)

not_kept : (a b : Bool) → (a ≡ true → b ≡ true) → a && not b ≡ false
not_kept true b h = ap not (h refl)
not_kept false b h = refl

added_cells : (opening : Settings) (h : History) (waiting : List Column) (held : List Fact) → Holds (kept_from opening h waiting) (latest_of h) held
    → (r : RuleCells) → pos 1 ≤ℤ r.rule.interval → r.low ≡ first_from r.rule (raw_mark opening h) → StartsWith held r → HasCells (kept_from opening h waiting) (latest_of h) r
added_cells opening h waiting held holds r w e s =
    let cut : Column → ℤ = kept_from opening h waiting in
    let raw : (f : Fact) → r.low ≤ℤ index_of r.rule f.time → is_kept cut f ≡ true = λ f l. is_kept-above opening h waiting f (first_from-after r.rule (raw_mark opening h) f.time w (subst (λ x. x ≤ℤ index_of r.rule f.time) e l)) in
    record {
      once = s.once;
      there = λ f a m l. s.there f (holds.all f a (raw f l)) m l;
      frozen = λ k l. s.frozen k l ∙ sym (ap aggregate_of (filter-none (λ (f : Fact). is_in_cell r.rule k f && not (is_kept cut f)) (latest_of h)
          (λ f a. not_kept (is_in_cell r.rule k f) (is_kept cut f) (λ t.
          let at : cell_of r.rule f ≡ k = same_cell-eq (cell_of r.rule f) k (and_parts (is_rolled r.rule f) (same_cell (cell_of r.rule f) k) t).1 in
          raw f (subst (λ (x : Cell). r.low ≤ℤ x.index) (sym at) l)))));
      live = λ k l. s.live k l ∙ sym (live_of-held cut (latest_of h) held holds (latest-distinct (accepted h)) r.rule k);
    }

pub added_stands : (opening : Settings) (h : History) (s : StoreState) (r : RuleCells) → StandsFor opening h s → added_fault s.settings r.rule ≡ None
    → r.low ≡ first_from r.rule s.marks.raw → StartsWith (facts_of s.columns) r → StandsFor opening (AddRule r.rule ∷ h) (added r s)
added_stands opening h s r st well low starts =
    let was : added_fault (settings_of opening h) r.rule ≡ None = subst (λ (x : Settings). added_fault x r.rule ≡ None) st.settings well in
    let raw : s.marks.raw ≡ raw_mark opening h = ap (λ (m : Marks). m.raw) st.marks in
    let at : r.low ≡ first_from r.rule (raw_mark opening h) = low ∙ ap (first_from r.rule) raw in
    let all : settings_fault (with_rule r.rule (settings_of opening h)) ≡ None = with_rule-fault (settings_of opening h) r.rule (settings_faultless opening h st.lawful) ∙ was in
    let wide : pos 1 ≤ℤ r.rule.interval = all_last (λ (x : Rule). pos 1 ≤ℤ x.interval) (settings_of opening h).rules r.rule (settings_are (with_rule r.rule (settings_of opening h)) all).intervals in
    let old : s.marks.lows ≡ map (low_of opening (AddRule r.rule ∷ h)) (settings_of opening h).rules =
    ap (λ (m : Marks). m.lows) st.marks ∙ sym (lows_stay opening h r.rule (settings_of opening h).rules (added_new (settings_of opening h) r.rule was)) in
    let lows : s.marks.lows ++ r.low ∷ [] ≡ map (low_of opening (AddRule r.rule ∷ h)) ((settings_of opening h).rules ++ r.rule ∷ []) =
    ap₂ (λ xs x. xs ++ x ∷ []) old (at ∙ sym (cond-true _ (first_from r.rule (raw_mark opening h)) (low_of opening h r.rule) (same_text-refl r.rule.name))) ∙ sym (map-push (low_of opening (AddRule r.rule ∷ h)) (settings_of opening h).rules r.rule) in
    stands_as opening h (AddRule r.rule ∷ h) s (with_rule r.rule s.settings) (record { raw = s.marks.raw; lows = s.marks.lows ++ r.low ∷ [] }) s.running (s.rules ++ r ∷ []) st refl refl
    (st.lawful, was) (ap (with_rule r.rule) st.settings) (λ i. record { raw = raw i; lows = lows i }) st.running st.idle
    (map-push rule_of s.rules r ∙ ap (λ xs. xs ++ r.rule ∷ []) st.rules) (map-push lowest_of s.rules r ∙ ap (λ xs. xs ++ r.low ∷ []) st.lows)
    (all_push (HasCells (kept_from opening h s.waiting) (latest_of h)) s.rules r st.rolled (added_cells opening h s.waiting (facts_of s.columns) (StandsFor-Holds opening h s st) r wide at starts))

-- ---- a rule is dropped

abbrev pub stays_under : Text → RuleCells → Bool
stays_under name r = is_unnamed name r.rule

abbrev pub dropped : Text → StoreState → StoreState
dropped name s = record s {
  settings = without_rule name s.settings;
  marks = record { raw = s.marks.raw; lows = map lowest_of (filter (stays_under name) s.rules) };
  rules = filter (stays_under name) s.rules;
}

lows_left : (f : Rule → ℤ) (name : Text) (rs : List RuleCells) → map lowest_of rs ≡ map f (map rule_of rs) → map lowest_of (filter (stays_under name) rs) ≡ map f (filter (is_unnamed name) (map rule_of rs))
lows_left f name [] e = refl
lows_left f name (r ∷ rs) e =
    let top = same_head r.low (f r.rule) (map lowest_of rs) (map f (map rule_of rs)) e in
    let rest = lows_left f name rs (same_rest r.low (f r.rule) (map lowest_of rs) (map f (map rule_of rs)) e) in
    elim (is_unnamed name r.rule) as (λ b. map lowest_of (cond b (r ∷ filter (stays_under name) rs) (filter (stays_under name) rs)) ≡ map f (cond b (r.rule ∷ filter (is_unnamed name) (map rule_of rs)) (filter (is_unnamed name) (map rule_of rs)))) [
      | true ↦ ap₂ (λ x xs. x ∷ xs) top rest
      | false ↦ rest
    ]

pub dropped_stands : (opening : Settings) (h : History) (s : StoreState) (name : Text) → StandsFor opening h s → IsTrue (is_named s.settings.rules name) → StandsFor opening (DropRule name ∷ h) (dropped name s)
dropped_stands opening h s name st named =
    let old : map lowest_of s.rules ≡ map (low_of opening h) (map rule_of s.rules) =
    st.lows ∙ ap (λ (m : Marks). m.lows) st.marks ∙ ap (map (low_of opening h)) (sym (st.rules ∙ ap (λ (x : Settings). x.rules) st.settings)) in
    let rules : map rule_of (filter (stays_under name) s.rules) ≡ filter (is_unnamed name) s.settings.rules = sym (filter-map (is_unnamed name) rule_of s.rules) ∙ ap (filter (is_unnamed name)) st.rules in
    let lows : map lowest_of (filter (stays_under name) s.rules) ≡ map (low_of opening h) (filter (is_unnamed name) (settings_of opening h).rules) =
    lows_left (low_of opening h) name s.rules old ∙ ap (λ rs. map (low_of opening h) (filter (is_unnamed name) rs)) (st.rules ∙ ap (λ (x : Settings). x.rules) st.settings) in
    stands_as opening h (DropRule name ∷ h) s (without_rule name s.settings) (dropped name s).marks s.running (filter (stays_under name) s.rules) st refl refl
    (st.lawful, subst (λ (x : Settings). IsTrue (is_named x.rules name)) st.settings named) (ap (without_rule name) st.settings) (λ i. record { raw = ap (λ (m : Marks). m.raw) st.marks i; lows = lows i }) st.running st.idle rules refl
    (all_filter (HasCells (kept_from opening h s.waiting) (latest_of h)) (stays_under name) s.rules st.rolled)
