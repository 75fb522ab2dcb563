-- The effect of a begin: it leaves the points of the columns, and both parts of each cell.
use Rattle.std.proofs.Common.{◌≡◌, ℤ, false, cond, List, [], ◌∷◌, map, refl, sym, ◌∙◌, ap, ap₂, subst, true≢false, int_le, ◌≤ℤ◌}
use Rattle.std.specs.List.{AllZip}
use Rattle.std.specs.Int.{int_max}
use Rattle.ts_core.specs.lists.Members.{Among, AllDistinct}
use Rattle.ts_core.specs.facts.Facts.{Column, Fact}
use Rattle.ts_core.specs.settings.Settings.{Settings}
use Rattle.ts_core.specs.store.History.{History, Begin, IsRunOpen, settings_of, kept_since, raw_mark}
use Rattle.ts_core.specs.facts.Latest.{latest_of}
use Rattle.ts_core.specs.store.Marks.{Marks, index_of, low_of}
use Rattle.ts_core.specs.store.RawFacts.{is_waiting, earlier_mark, kept_from, is_kept}
use Rattle.ts_core.specs.store.Cells.{cell_of}
use Rattle.ts_core.specs.store.StoreStates.{RuleCells, StoreState, StandsFor, HasCells, column_of, rule_of, lowest_of, facts_of}
use Rattle.ts_core.proofs.store.Cuts.{CutsAgree, frozen_of-agree, live_of-agree, Holds-agree}
use Rattle.ts_core.proofs.store.Moves.{IsRaised, begun}
use Rattle.ts_core.proofs.store.StateLemmas.{AllZip-all, AllZip-maps, same_head, same_rest, is_waiting-there, le_trans, int_max-left, raw_duration_of, Holds-raw_of, StandsFor-Holds, HasCells-as}

-- a begin lets each column keep what it kept
pub begin_keeps : (opening : Settings) (h : History) (now : ℤ) (waiting columns : List Column) → waiting ≡ [] → (f : Fact) → Among f.column columns
    → is_kept (kept_from opening h waiting) f ≡ is_kept (kept_from opening (Begin now ∷ h) columns) f
begin_keeps opening h now waiting columns e f a =
    ap (λ ws. int_le (cond (is_waiting ws f.column) (earlier_mark opening h) (raw_mark opening h)) f.time) e
    ∙ sym (ap (λ b. int_le (cond b (raw_mark opening h) (raw_mark opening (Begin now ∷ h))) f.time) (is_waiting-there f.column columns a))

-- the low indices rise to those of the longer history
raised_lows : (opening : Settings) (h : History) (now : ℤ) (rs after : List RuleCells) → AllZip (IsRaised now) rs after
    → map lowest_of rs ≡ map (low_of opening h) (map rule_of rs) → map lowest_of after ≡ map (low_of opening (Begin now ∷ h)) (map rule_of after)
raised_lows opening h now [] [] t e = refl
raised_lows opening h now (x ∷ xs) (y ∷ ys) t e =
    let top : x.low ≡ low_of opening h x.rule = same_head x.low (low_of opening h x.rule) (map lowest_of xs) (map (low_of opening h) (map rule_of xs)) e in
    let low : y.low ≡ low_of opening (Begin now ∷ h) y.rule =
    sym t.0.low ∙ ap (λ m. int_max m (index_of x.rule (kept_since x.rule.duration now))) top ∙ ap (low_of opening (Begin now ∷ h)) t.0.rule in
    ap₂ (λ m ms. m ∷ ms) low (raised_lows opening h now xs ys t.1 (same_rest x.low (low_of opening h x.rule) (map lowest_of xs) (map (low_of opening h) (map rule_of xs)) e))
raised_lows opening h now _ _ t e = absurd t

raised_cells : (cut next : Column → ℤ) (fs : List Fact) (now : ℤ) → CutsAgree cut next fs → (r after : RuleCells) → IsRaised now r after → HasCells cut fs r → HasCells next fs after
raised_cells cut next fs now same r after t p =
    let low : ℤ = int_max r.low (index_of r.rule (kept_since r.rule.duration now)) in
    let rises : r.low ≤ℤ low = int_max-left r.low (index_of r.rule (kept_since r.rule.duration now)) in
    HasCells-as next fs (record { rule = r.rule; low = low; cells = r.cells; parts = r.parts }) after t.rule t.low (record {
      once = subst AllDistinct t.cells p.once;
      there = λ f a m l. subst (Among (cell_of r.rule f)) t.cells (p.there f a m (le_trans r.low low (cell_of r.rule f).index rises l));
      frozen = λ k l. ap (λ x. x.frozen) (t.parts k) ∙ p.frozen k (le_trans r.low low k.index rises l) ∙ frozen_of-agree cut next fs same r.rule k;
      live = λ k l. ap (λ x. x.live) (t.parts k) ∙ p.live k (le_trans r.low low k.index rises l) ∙ live_of-agree cut next fs same r.rule k;
    })

-- a begin where no run is open
pub begin_stands : (opening : Settings) (h : History) (s : StoreState) (now : ℤ) (after : List RuleCells) → StandsFor opening h s → s.running ≡ false → AllZip (IsRaised now) s.rules after
    → StandsFor opening (Begin now ∷ h) (begun now after s)
begin_stands opening h s now after st e t =
    let idle : IsRunOpen h → ⊥ = λ o. true≢false (sym (st.running.1 o) ∙ e) in
    let none : s.waiting ≡ [] = st.idle idle in
    let columns : List Column = map column_of s.columns in
    let cut : Column → ℤ = kept_from opening h s.waiting in
    let next : Column → ℤ = kept_from opening (Begin now ∷ h) columns in
    let fs : List Fact = latest_of h in
    let same : CutsAgree cut next fs = λ f a. begin_keeps opening h now s.waiting columns none f (st.columns_there f a) in
    let rules : map rule_of after ≡ s.settings.rules = sym (AllZip-maps (IsRaised now) rule_of rule_of (λ r y k. k.rule) s.rules after t) ∙ st.rules in
    let old : map lowest_of s.rules ≡ map (low_of opening h) (map rule_of s.rules) =
    st.lows ∙ ap (λ (m : Marks). m.lows) st.marks ∙ ap (map (low_of opening h)) (sym (st.rules ∙ ap (λ (x : Settings). x.rules) st.settings)) in
    let lows : map lowest_of after ≡ map (low_of opening (Begin now ∷ h)) (settings_of opening h).rules =
    raised_lows opening h now s.rules after t old ∙ ap (map (low_of opening (Begin now ∷ h))) (rules ∙ ap (λ (x : Settings). x.rules) st.settings) in
    let raw : int_max s.marks.raw (kept_since s.settings.raw_duration now) ≡ raw_mark opening (Begin now ∷ h) =
    ap₂ (λ m d. int_max m (kept_since d now)) (ap (λ (m : Marks). m.raw) st.marks) (ap (λ (x : Settings). x.raw_duration) st.settings ∙ raw_duration_of opening h) in
    record {
      lawful = (st.lawful, idle);
      settings = st.settings;
      marks = λ i. record { raw = raw i; lows = lows i };
      accepted = st.accepted;
      running = (λ k. tt, λ k. refl);
      waiting_once = st.columns_once;
      waiting_there = λ c a. a;
      idle = λ k. absurd (k tt);
      columns_once = st.columns_once;
      columns_there = st.columns_there;
      registered = st.registered;
      once = st.once;
      raw = λ f. Holds-raw_of opening (Begin now ∷ h) columns (facts_of s.columns) (Holds-agree cut next fs (facts_of s.columns) same (StandsFor-Holds opening h s st)) f;
      rules = rules;
      lows = refl;
      rolled = AllZip-all (IsRaised now) (HasCells cut fs) (HasCells next fs) (λ r y k p. raised_cells cut next fs now same r y k p) s.rules after t st.rolled;
    }
