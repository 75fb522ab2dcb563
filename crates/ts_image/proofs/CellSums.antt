-- Distinct cells of a rule, which have distinct facts: the sum of their counts is at most the number of facts that the
-- rule rolls up.
use Rattle.std.proofs.Common.{◌≡◌, ℕ, ◌+◌, ◌≤◌, ◌≤ℤ◌, ℤ, Bool, true, false, cond, not, ◌&&◌, List, [], ◌∷◌, length, filter, refl, ◌∙◌, ap, ap₂, subst, inl, inr, arith}
use Rattle.std.specs.List.{sum_by}
use Rattle.std.proofs.lemmas.List.Sums.{sum_by-cons}
use Rattle.std.proofs.lemmas.Bool.{and_parts}
use Rattle.ts_core.specs.lists.Members.{Among, AllDistinct}
use Rattle.ts_core.specs.facts.Facts.{Column, Fact, id_of, same_id}
use Rattle.ts_core.specs.settings.Settings.{Rule, Settings}
use Rattle.ts_core.specs.store.History.{History, accepted}
use Rattle.ts_core.specs.facts.Latest.{latest, latest_of}
use Rattle.ts_core.specs.aggregates.Aggregates.{Aggregate}
use Rattle.ts_core.specs.aggregates.MergeLaws.{aggregate_laws}
use Rattle.ts_core.specs.store.RawFacts.{is_kept, kept_from}
use Rattle.ts_core.specs.store.StoreStates.{StandsFor, facts_of}
use Rattle.ts_core.specs.store.StoreData.{CellMap, StoreData, state_of}
use Rattle.ts_core.proofs.store.Cuts.{one_fact, Holds}
use Rattle.ts_core.proofs.aggregates.Folds.{fold-count, length-same}
use Rattle.ts_core.proofs.facts.Latests.{latest-distinct}
use Rattle.ts_core.proofs.lists.MembersLemmas.{AllDistinct-filter, Among-filter_was, Among-filter_passes, Among-filter_stays}
use Rattle.ts_core.proofs.store.StateLemmas.{StandsFor-Holds}
use Rattle.ts_image.specs.Pictures.{part_at}
use Rattle.ts_core.specs.store.Cells.{Cell, is_rolled, is_in_cell, same_cell, cell_of, frozen_of}
use Rattle.ts_core.proofs.plans.PieceCells.{same_cell-eq}
use Rattle.ts_core.proofs.lists.ListSteps.{length-filter}

-- the number of members of a list that pass
abbrev pub number_of : {X : Type 0} → (X → Bool) → List X → ℕ
number_of p xs = length (filter p xs)

one_if : Bool → ℕ
one_if true = 1
one_if false = 0

number-cons : {X : Type 0} (p : X → Bool) (x : X) (xs : List X) → number_of p (x ∷ xs) ≡ one_if (p x) + number_of p xs
unfolding one_if
number-cons p x xs = elim (p x) as (λ b. length (cond b (x ∷ filter p xs) (filter p xs)) ≡ one_if b + length (filter p xs)) [ true ↦ omega arith | false ↦ omega arith ]

module _ (r : Rule) (p : Fact → Bool) where
  abbrev here : Cell → Fact → Bool
  here k f = is_in_cell r k f && p f

  abbrev rolled : Fact → Bool
  rolled f = is_rolled r f && p f

  -- the counts of cells
  abbrev counts : List Cell → List Fact → ℕ
  counts ks fs = sum_by (λ (k : Cell). number_of (here k) fs) ks

  -- in how many of the cells a fact is
  abbrev cursors : List Cell → Fact → ℕ
  cursors ks f = sum_by (λ (k : Cell). one_if (here k f)) ks

  counts-cons : (ks : List Cell) (f : Fact) (fs : List Fact) → counts ks (f ∷ fs) ≡ cursors ks f + counts ks fs
  counts-cons [] f fs = refl
  counts-cons (k ∷ ks) f fs =
      let a = sum_by-cons (λ (q : Cell). number_of (here q) (f ∷ fs)) k ks in
      let b = sum_by-cons (λ (q : Cell). one_if (here q f)) k ks in
      let c = sum_by-cons (λ (q : Cell). number_of (here q) fs) k ks in
      let one = number-cons (here k) f fs in
      let rest = counts-cons ks f fs in
      omega (arith, a, b, c, one, rest)

  -- a fact is in its own cell alone
  in_own : (k : Cell) (f : Fact) → here k f ≡ true → (cell_of r f ≡ k) × (rolled f ≡ true)
  in_own k f e =
      let s = and_parts (is_in_cell r k f) (p f) e in
      let t = and_parts (is_rolled r f) (same_cell (cell_of r f) k) s.0 in
      (same_cell-eq (cell_of r f) k t.1, ap₂ (λ a b. a && b) t.0 s.1)

  nowhere : (ks : List Cell) (f : Fact) → (Among (cell_of r f) ks → ⊥) → cursors ks f ≡ 0
  unfolding one_if
  nowhere [] f out = refl
  nowhere (k ∷ ks) f out =
      let b = sum_by-cons (λ (q : Cell). one_if (here q f)) k ks in
      let rest = nowhere ks f (λ a. out (inr a)) in
      let not_here : here k f ≡ false = elim (here k f) as (λ x. here k f ≡ x → x ≡ false) [ true ↦ λ e. absurd (out (inl (in_own k f e).0)) | false ↦ λ e. refl ] refl in
      let none : one_if (here k f) ≡ 0 = ap one_if not_here in
      omega (arith, b, rest, none)

  at_most_one : (ks : List Cell) (f : Fact) → AllDistinct ks → cursors ks f ≤ one_if (rolled f)
  unfolding one_if
  at_most_one [] f d = omega arith
  at_most_one (k ∷ ks) f d =
      let b = sum_by-cons (λ (q : Cell). one_if (here q f)) k ks in
      elim (here k f) as (λ x. here k f ≡ x → cursors (k ∷ ks) f ≤ one_if (rolled f)) [
        | true ↦ λ e.
            let own = in_own k f e in
            let rest = nowhere ks f (λ a. d.0 (subst (λ (q : Cell). Among q ks) own.0 a)) in
            let here_one : one_if (here k f) ≡ 1 = ap one_if e in
            let whole : one_if (rolled f) ≡ 1 = ap one_if own.1 in
            omega (arith, b, rest, here_one, whole)
        | false ↦ λ e.
            let rest = at_most_one ks f d.1 in
            let none : one_if (here k f) ≡ 0 = ap one_if e in
            omega (arith, b, rest, none)
      ] refl

  nothing : (ks : List Cell) → counts ks [] ≡ 0
  nothing [] = refl
  nothing (k ∷ ks) = let b = sum_by-cons (λ (q : Cell). number_of (here q) []) k ks in let rest = nothing ks in omega (arith, b, rest)

  pub counts-few : (ks : List Cell) → AllDistinct ks → (fs : List Fact) → counts ks fs ≤ number_of rolled fs
  counts-few ks d [] = let e = nothing ks in omega (arith, e)
  counts-few ks d (f ∷ fs) =
      let a = counts-cons ks f fs in
      let b = at_most_one ks f d in
      let c = number-cons rolled f fs in
      let rest = counts-few ks d fs in
      omega (arith, a, b, c, rest)

-- ---- of a store that represents a history

at_most : (a b : Bool) → one_if (a && not b) + one_if (a && b) ≤ 1
unfolding one_if
at_most true true = omega arith
at_most true false = omega arith
at_most false b = omega arith

split_few : (p q : Fact → Bool) (fs : List Fact) → number_of (λ (f : Fact). p f && not (q f)) fs + number_of (λ (f : Fact). p f && q f) fs ≤ length fs
split_few p q [] = omega arith
split_few p q (f ∷ fs) =
    let a = number-cons (λ (g : Fact). p g && not (q g)) f fs in
    let b = number-cons (λ (g : Fact). p g && q g) f fs in
    let rest = split_few p q fs in
    let one : one_if (p f && not (q f)) + one_if (p f && q f) ≤ 1 = at_most (p f) (q f) in
    omega (arith, a, b, rest, one)

pub latest-few : (fs : List Fact) → length (latest fs) ≤ length fs
latest-few [] = omega arith
latest-few (f ∷ fs) = let rest = latest-few fs in let less = length-filter (λ (g : Fact). not (same_id (id_of g) (id_of f))) (latest fs) in omega (arith, rest, less)

-- the count of a cell's frozen part is the number of its frozen facts
frozen-count : (cut : Column → ℤ) (r : Rule) (k : Cell) (fs : List Fact) → (frozen_of cut r k fs).count ≡ number_of (here r (λ (f : Fact). not (is_kept cut f)) k) fs
frozen-count cut r k fs = fold-count aggregate_laws one_fact (λ f. refl) (filter (here r (λ (f : Fact). not (is_kept cut f)) k) fs)

-- each is among those from the low index on
abbrev pub AreFrom : ℤ → List Cell → Type 0
AreFrom low [] = Unit {0}
AreFrom low (k ∷ ks) = (low ≤ℤ k.index) × AreFrom low ks

frozen-sum : (cut : Column → ℤ) (r : Rule) (low : ℤ) (m : CellMap) (fs : List Fact) → ((k : Cell) → low ≤ℤ k.index → part_at m k ≡ frozen_of cut r k fs) → (ks : List Cell) → AreFrom low ks
    → sum_by (λ (k : Cell). (part_at m k).count) ks ≡ counts r (λ (f : Fact). not (is_kept cut f)) ks fs
frozen-sum cut r low m fs h [] from = refl
frozen-sum cut r low m fs h (k ∷ ks) from =
    let a = sum_by-cons (λ (q : Cell). (part_at m q).count) k ks in
    let b = sum_by-cons (λ (q : Cell). number_of (here r (λ (f : Fact). not (is_kept cut f)) q) fs) k ks in
    let one : (part_at m k).count ≡ number_of (here r (λ (f : Fact). not (is_kept cut f)) k) fs = ap (λ (x : Aggregate). x.count) (h k from.0) ∙ frozen-count cut r k fs in
    let rest = frozen-sum cut r low m fs h ks from.1 in
    omega (arith, a, b, one, rest)

-- the number of facts in columns of a rule's measurement is that of the latest ones that the cut keeps
held-count : (cut : Column → ℤ) (r : Rule) (fs held : List Fact) → Holds cut fs held → AllDistinct fs → number_of (is_rolled r) held ≡ number_of (λ (f : Fact). is_rolled r f && is_kept cut f) fs
held-count cut r fs held s d =
    length-same (filter (is_rolled r) held) (filter (λ (f : Fact). is_rolled r f && is_kept cut f) fs) (AllDistinct-filter (is_rolled r) held s.once) (AllDistinct-filter (λ (f : Fact). is_rolled r f && is_kept cut f) fs d)
    (λ f a. let n = s.only f (Among-filter_was (is_rolled r) f held a) in Among-filter_stays (λ (g : Fact). is_rolled r g && is_kept cut g) f fs n.0 (ap₂ (λ x y. x && y) (Among-filter_passes (is_rolled r) f held a) n.1))
    (λ f a. let t = and_parts (is_rolled r f) (is_kept cut f) (Among-filter_passes (λ (g : Fact). is_rolled r g && is_kept cut g) f fs a) in
    Among-filter_stays (is_rolled r) f held (s.all f (Among-filter_was (λ (g : Fact). is_rolled r g && is_kept cut g) f fs a) t.1) t.0)

-- the frozen parts of distinct cells of a rule, with the raw facts of its measurement, are no more than the accepted
-- facts
pub rule_counted : (opening : Settings) (h : History) (k : StoreData) → StandsFor opening h (state_of k) → (r : Rule) (low : ℤ) (m : CellMap) → ((q : Cell) → low ≤ℤ q.index → part_at m q ≡ frozen_of (kept_from opening h k.waiting) r q (latest_of h))
    → (ks : List Cell) → AllDistinct ks → AreFrom low ks → sum_by (λ (q : Cell). (part_at m q).count) ks + number_of (is_rolled r) (facts_of k.columns) ≤ k.accepted
rule_counted opening h k st r low m parts ks once from =
    let cut : Column → ℤ = kept_from opening h k.waiting in
    let fs : List Fact = latest_of h in
    let a = frozen-sum cut r low m fs parts ks from in
    let b = counts-few r (λ (f : Fact). not (is_kept cut f)) ks once fs in
    let c = held-count cut r fs (facts_of k.columns) (StandsFor-Holds opening h (state_of k) st) (latest-distinct (accepted h)) in
    let d = split_few (is_rolled r) (is_kept cut) fs in
    let e = latest-few (accepted h) in
    let f = st.accepted in
    omega (arith, a, b, c, d, e, f)
