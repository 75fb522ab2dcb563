-- The steps of a run. One moves a column, whose facts below the mark go from the live parts to the frozen ones; one
-- removes cells below the low index; the last one ends the run.
use Rattle.ts_core.proofs.lists.ListSteps.{filter-map}
pub use Rattle.std.proofs.lemmas.List.Elements.{filter-append}
use Rattle.std.proofs.Common.{◌≡◌, ◌↔◌, IsTrue, ℤ, Bool, true, false, cond, not, ◌&&◌, ◌||◌, List, [], ◌∷◌, ◌++◌, filter, length, map, refl, sym, ◌∙◌, ap, ap₂, subst, inr, true≢false, int_le, ◌≤ℤ◌}
use Rattle.std.specs.List.{AllByRecursion, AllZip}
use Rattle.ts_core.specs.lists.Members.{Among, AllDistinct}
use Rattle.ts_core.specs.facts.Facts.{Column, Fact}
use Rattle.ts_core.specs.settings.Settings.{Rule, Settings}
use Rattle.ts_core.specs.store.History.{History, Step, IsRunOpen, IsLawful, settings_of, raw_mark, accepted}
use Rattle.ts_core.specs.facts.Latest.{latest, latest_of}
use Rattle.ts_core.specs.store.Marks.{Marks, marks_of}
use Rattle.ts_core.specs.aggregates.Aggregates.{merged}
use Rattle.ts_core.specs.store.RawFacts.{same_column, is_waiting, earlier_mark, kept_from, is_kept}
use Rattle.ts_core.specs.store.Cells.{Cell, cell_of, is_in_cell}
use Rattle.ts_core.specs.store.StoreStates.{ColumnPoints, RuleCells, StoreState, StandsFor, HasCells, column_of, rule_of, lowest_of, fact_at, facts_at, facts_of}
use Rattle.ts_core.proofs.lists.MembersLemmas.{filter-all, AllDistinct-filter, Among-filter_passes, Among-filter_was, Among-filter_stays}
use Rattle.ts_core.proofs.facts.Latests.{latest-distinct}
use Rattle.ts_core.proofs.lists.Comparisons.{le_true, le_from}
use Rattle.ts_core.proofs.store.Cuts.{aggregate_where, aggregate_where-agree, CutRises, passed_of, frozen_of-gains, aggregate_where-held, live_of-held, Holds}
use Rattle.ts_core.proofs.store.Moves.{is_left, left_points, columns_left, IsMoved, moved, IsExpired, expired, closed}
use Rattle.ts_core.proofs.store.StateLemmas.{AllZip-all, AllZip-maps, cons_not, same_column-eq, is_waiting-not, earlier_mark-le, le_trans, Holds-raw_of, StandsFor-Holds, HasCells-as}

-- one column's cut rises from the earlier mark to the new
pub cut_rises : (b w : Bool) (old mark t : ℤ) → old ≤ℤ mark → int_le (cond w old mark) t ≡ true → int_le (cond (b || w) old mark) t ≡ true
cut_rises true false old mark t h k = le_true old t (le_trans old mark t h (le_from mark t k))
cut_rises _ w old mark t h k = k

pub left_is : (b w : Bool) (old mark t : ℤ) → (b ≡ true → w ≡ false) → int_le (cond (b || w) old mark) t ≡ true → (not b || int_le mark t) ≡ int_le (cond w old mark) t
left_is true true old mark t h k = absurd (true≢false (h refl))
left_is true false old mark t h k = refl
left_is false w old mark t h k = sym k

-- ---- what a column leaves

facts_left : (c : Column) (mark : ℤ) (d : Column) (ps : List (ℤ × ℤ)) → same_column d c ≡ true
    → facts_at d (filter (λ (p : ℤ × ℤ). int_le mark p.0) ps) ≡ filter (is_left c mark) (facts_at d ps)
facts_left c mark d ps e = sym (filter-map (is_left c mark) (fact_at d) ps ∙ (λ i. facts_at d (filter (λ p. not (e i) || int_le mark p.0) ps)))

facts_stay : (c : Column) (mark : ℤ) (d : Column) (ps : List (ℤ × ℤ)) → same_column d c ≡ false → facts_at d ps ≡ filter (is_left c mark) (facts_at d ps)
facts_stay c mark d ps e =
    sym (filter-map (is_left c mark) (fact_at d) ps ∙ (λ i. facts_at d (filter (λ p. not (e i) || int_le mark p.0) ps)) ∙ ap (facts_at d) (filter-all (λ p. true) ps (λ p a. refl)))

pub facts_of-left : (c : Column) (mark : ℤ) (cs : List ColumnPoints) → facts_of (map (left_points c mark) cs) ≡ filter (is_left c mark) (facts_of cs)
facts_of-left c mark [] = refl
facts_of-left c mark (s ∷ ss) =
    let first = elim (same_column s.column c) as (λ b. same_column s.column c ≡ b → (let z : ColumnPoints = cond b (record { column = s.column; points = filter (λ (p : ℤ × ℤ). int_le mark p.0) s.points }) s in facts_at z.column z.points ≡ filter (is_left c mark) (facts_at s.column s.points))) [
      | true ↦ λ e. facts_left c mark s.column s.points e
      | false ↦ λ e. facts_stay c mark s.column s.points e
    ] refl in
    ap₂ (λ xs ys. xs ++ ys) first (facts_of-left c mark ss) ∙ sym (filter-append (is_left c mark) (facts_at s.column s.points) (facts_of ss))

pub columns_of-left : (c : Column) (mark : ℤ) (cs : List ColumnPoints) → map column_of (map (left_points c mark) cs) ≡ map column_of cs
columns_of-left c mark [] = refl
columns_of-left c mark (s ∷ ss) =
    let first = elim (same_column s.column c) as (λ b. (let z : ColumnPoints = cond b (record { column = s.column; points = filter (λ (p : ℤ × ℤ). int_le mark p.0) s.points }) s in z.column ≡ s.column)) [ true ↦ refl | false ↦ refl ] in
    ap₂ (λ x xs. x ∷ xs) first (columns_of-left c mark ss)

-- the facts in columns after some were removed
pub Holds-filtered : (cut next : Column → ℤ) (fs before after : List Fact) (q : Fact → Bool) → after ≡ filter q before
    → CutRises cut next → ((f : Fact) → is_kept cut f ≡ true → q f ≡ is_kept next f) → Holds cut fs before → Holds next fs after
Holds-filtered cut next fs before after q e rise is s = record {
  once = subst AllDistinct (sym e) (AllDistinct-filter q before s.once);
  all = λ f a k. let was = rise f k in subst (Among f) (sym e) (Among-filter_stays q f before (s.all f a was) (is f was ∙ k));
  only = λ f a. let b = subst (Among f) e a in let n = s.only f (Among-filter_was q f before b) in (n.0, sym (is f n.1) ∙ Among-filter_passes q f before b);
}

swap_and : (a b c : Bool) → a && (b && not c) ≡ (a && not c) && b
swap_and true true c = elim c as (λ x. not x ≡ not x && true) [ true ↦ refl | false ↦ refl ]
swap_and true false c = elim c as (λ x. false ≡ not x && false) [ true ↦ refl | false ↦ refl ]
swap_and false b c = refl

-- the facts that the cut passes are those in columns that are removed
pub passed_of-held : (cut next : Column → ℤ) (fs held : List Fact) (q : Fact → Bool) → ((f : Fact) → is_kept cut f ≡ true → q f ≡ is_kept next f) → Holds cut fs held → AllDistinct fs → (r : Rule) (k : Cell)
    → passed_of cut next r k fs ≡ aggregate_where (λ (f : Fact). is_in_cell r k f && not (q f)) held
passed_of-held cut next fs held q is s d r k =
    aggregate_where-agree _ _ fs (λ f a. swap_and (is_in_cell r k f) (is_kept cut f) (is_kept next f))
    ∙ aggregate_where-held cut fs held s d (λ (f : Fact). is_in_cell r k f && not (is_kept next f))
    ∙ aggregate_where-agree _ _ held (λ f a. ap (λ b. is_in_cell r k f && not b) (sym (is f (s.only f a).1)))

-- ---- a column is moved

moved_cells : (cut next : Column → ℤ) (fs : List Fact) (c : Column) (mark : ℤ) (before after : List ColumnPoints) → CutRises cut next
    → ((f : Fact) → is_kept cut f ≡ true → is_left c mark f ≡ is_kept next f) → Holds cut fs (facts_of before) → Holds next fs (facts_of after) → AllDistinct fs
    → (r y : RuleCells) → IsMoved c mark before after r y → HasCells cut fs r → HasCells next fs y
moved_cells cut next fs c mark before after rise is held left distinct r y t p =
    HasCells-as next fs r y t.rule t.low (record {
      once = subst AllDistinct t.cells p.once;
      there = λ f a m l. subst (Among (cell_of r.rule f)) t.cells (p.there f a m l);
      frozen = λ k l. t.frozen k l ∙ ap₂ merged (p.frozen k l) (sym (passed_of-held cut next fs (facts_of before) (is_left c mark) is held distinct r.rule k)) ∙ sym (frozen_of-gains cut next rise r.rule k fs);
      live = λ k l. t.live k l ∙ sym (live_of-held next fs (facts_of after) left distinct r.rule k);
    })

pub move_stands : (opening : Settings) (h : History) (s : StoreState) (c : Column) (rest : List Column) (after : List RuleCells) → StandsFor opening h s → s.waiting ≡ c ∷ rest
    → AllZip (IsMoved c s.marks.raw s.columns (columns_left c s)) s.rules after → StandsFor opening (Step false ∷ h) (moved c rest after s)
move_stands opening h s c rest after st w t =
    let fs : List Fact = latest_of h in
    let old : ℤ = earlier_mark opening h in
    let mark : ℤ = raw_mark opening h in
    let cut : Column → ℤ = kept_from opening h (c ∷ rest) in
    let next : Column → ℤ = kept_from opening h rest in
    let columns : List ColumnPoints = columns_left c s in
    let held : Holds cut fs (facts_of s.columns) = subst (λ ws. Holds (kept_from opening h ws) fs (facts_of s.columns)) w (StandsFor-Holds opening h s st) in
    let rolled : AllByRecursion (HasCells cut fs) s.rules = subst (λ ws. AllByRecursion (HasCells (kept_from opening h ws) fs) s.rules) w st.rolled in
    let once : AllDistinct (c ∷ rest) = subst AllDistinct w st.waiting_once in
    let raw : s.marks.raw ≡ mark = ap (λ (m : Marks). m.raw) st.marks in
    let rise : CutRises cut next = λ f k. cut_rises (same_column f.column c) (is_waiting rest f.column) old mark f.time (earlier_mark-le opening h) k in
    let alone : (f : Fact) → same_column f.column c ≡ true → is_waiting rest f.column ≡ false = λ f e. is_waiting-not f.column rest (λ a. once.0 (subst (λ x. Among x rest) (same_column-eq f.column c e) a)) in
    let is : (f : Fact) → is_kept cut f ≡ true → is_left c s.marks.raw f ≡ is_kept next f =
    λ f k. ap (λ m. is_left c m f) raw ∙ left_is (same_column f.column c) (is_waiting rest f.column) old mark f.time (alone f) k in
    let there : map column_of columns ≡ map column_of s.columns = columns_of-left c s.marks.raw s.columns in
    let left : Holds next fs (facts_of columns) = Holds-filtered cut next fs (facts_of s.columns) (facts_of columns) (is_left c s.marks.raw) (facts_of-left c s.marks.raw s.columns) rise is held in
    record {
      lawful = st.lawful;
      settings = st.settings;
      marks = st.marks;
      accepted = st.accepted;
      running = st.running;
      waiting_once = once.1;
      waiting_there = λ x a. subst (Among x) (sym there) (st.waiting_there x (subst (Among x) (sym w) (inr a)));
      idle = λ e. absurd (cons_not (sym w ∙ st.idle e));
      columns_once = subst AllDistinct (sym there) st.columns_once;
      columns_there = λ f a. subst (Among f.column) (sym there) (st.columns_there f a);
      registered = λ x a. st.registered x (subst (Among x) there a);
      once = left.once;
      raw = λ f. Holds-raw_of opening h rest (facts_of columns) left f;
      rules = sym (AllZip-maps (IsMoved c s.marks.raw s.columns columns) rule_of rule_of (λ r y k. k.rule) s.rules after t) ∙ st.rules;
      lows = sym (AllZip-maps (IsMoved c s.marks.raw s.columns columns) lowest_of lowest_of (λ r y k. k.low) s.rules after t) ∙ st.lows;
      rolled = AllZip-all (IsMoved c s.marks.raw s.columns columns) (HasCells cut fs) (HasCells next fs)
          (λ r y k p. moved_cells cut next fs c s.marks.raw s.columns columns rise is held left (latest-distinct (accepted h)) r y k p) s.rules after t rolled;
    }

-- ---- cells are removed, and the run ends

-- after an event that changes no facts, and cuts no column anew, the columns are those of before
pub stands_as : (opening : Settings) (h after : History) (s : StoreState) (settings : Settings) (marks : Marks) (running : Bool) (rules : List RuleCells) → StandsFor opening h s
    → accepted h ≡ accepted after → kept_from opening h s.waiting ≡ kept_from opening after s.waiting → IsLawful opening after → settings ≡ settings_of opening after → marks ≡ marks_of opening after
    → (IsTrue running ↔ IsRunOpen after) → ((IsRunOpen after → ⊥) → s.waiting ≡ []) → map rule_of rules ≡ settings.rules → map lowest_of rules ≡ marks.lows
    → AllByRecursion (HasCells (kept_from opening after s.waiting) (latest_of after)) rules → StandsFor opening after (record s { settings = settings; marks = marks; running = running; rules = rules })
stands_as opening h after s settings marks running rules st facts cut lawful of_settings of_marks is_open idle same_rules lows rolled = record {
  lawful = lawful;
  settings = of_settings;
  marks = of_marks;
  accepted = st.accepted ∙ ap (λ xs. length xs) facts;
  running = is_open;
  waiting_once = st.waiting_once;
  waiting_there = st.waiting_there;
  idle = idle;
  columns_once = st.columns_once;
  columns_there = subst (λ xs. (f : Fact) → Among f (latest xs) → Among f.column (map column_of s.columns)) facts st.columns_there;
  registered = st.registered;
  once = st.once;
  raw = subst (λ (z : (Column → ℤ) × List Fact). (f : Fact) → Among f (facts_of s.columns) ↔ Among f (filter (λ (g : Fact). same_column g.column f.column && is_kept z.0 g) (latest z.1))) (λ i. (cut i, facts i)) st.raw;
  rules = same_rules;
  lows = lows;
  rolled = rolled;
}

-- cells below the low index are nobody's
pub expire_stands : (opening : Settings) (h : History) (s : StoreState) (after : List RuleCells) → StandsFor opening h s → AllZip IsExpired s.rules after → StandsFor opening (Step false ∷ h) (expired after s)
expire_stands opening h s after st t =
    let cut : Column → ℤ = kept_from opening h s.waiting in
    let fs : List Fact = latest_of h in
    stands_as opening h (Step false ∷ h) s s.settings s.marks s.running after st refl refl st.lawful st.settings st.marks st.running st.idle
    (sym (AllZip-maps IsExpired rule_of rule_of (λ r y k. k.rule) s.rules after t) ∙ st.rules)
    (sym (AllZip-maps IsExpired lowest_of lowest_of (λ r y k. k.low) s.rules after t) ∙ st.lows)
    (AllZip-all IsExpired (HasCells cut fs) (HasCells cut fs) (λ r y k p. HasCells-as cut fs r y k.rule k.low (record {
      once = k.once;
      there = λ f a m l. k.stays (cell_of r.rule f) l (p.there f a m l);
      frozen = λ q l. ap (λ x. x.frozen) (k.parts q l) ∙ p.frozen q l;
      live = λ q l. ap (λ x. x.live) (k.parts q l) ∙ p.live q l;
    })) s.rules after t st.rolled)

pub close_stands : (opening : Settings) (h : History) (s : StoreState) → StandsFor opening h s → s.waiting ≡ [] → StandsFor opening (Step true ∷ h) (closed s)
close_stands opening h s st e =
    stands_as opening h (Step true ∷ h) s s.settings s.marks false s.rules st refl refl st.lawful st.settings st.marks (λ k. absurd (true≢false (sym k)), λ k. absurd k) (λ k. e) st.rules st.lows st.rolled
