-- Series tested by their own tags: a search among sorted pairs, and one more condition.
use Rattle.std.proofs.Common.{◌≡◌, ℕ, zero, suc, ◌<◌, ◌≤◌, Bool, true, false, not, cond, ◌&&◌, ◌||◌, T, List, [], ◌∷◌, ◌++◌, length, get_or, drop, map, zip, refl, sym, ◌∙◌, ap, subst, inl, inr, ⊎_elim, true≢false, Result, Ok, Err, Ordering, Less, Equal, Greater, is_eq, Bor, arith}
use Rattle.std.specs.Ordering.{ordering_then, ordering_reverse}
use Rattle.std.specs.List.{list_all, list_any}
use Rattle.std.specs.List.Sorted.{IsPermutation, IsBinarySearchResult, IsSearchInRange}
use Rattle.std.specs.FinMap.Entries.{below_all}
use Rattle.std.specs.Result.{is_ok}
use Rattle.std.proofs.lemmas.Bool.{cases_lt, ne_eqb, or_from, or_left, or_right}
use Rattle.std.proofs.lemmas.Cmp.{nat_list_cmp_total}
use Rattle.std.proofs.lemmas.List.{drop_all}
use Rattle.std.proofs.lemmas.List.Sorted.{searchable_from_sorted, list_any-IsPermutation}
use Rattle.std.proofs.lemmas.Map.Text.{is_eq-slice_cmp}
use Rattle.ts_core.specs.facts.Facts.{Text, text_cmp, same_text, tag_cmp, Series}
use Rattle.ts_core.specs.facts.Tags.{value_among}
use Rattle.ts_core.specs.lists.Members.{Among, AllDistinct}
use Rattle.ts_core.specs.text.Texts.{borrowed_pairs, IsTagSet}
use Rattle.ts_core.specs.queries.Queries.{Condition, meets}
use Rattle.ts_core.proofs.facts.Ids.{same_text-eq, tags_total}
use Rattle.ts_core.proofs.lists.Comparisons.{same_text-refl}
use Rattle.ts_core.proofs.lists.Places.{both_of, less_of}
use Rattle.ts_core.proofs.plans.PiecesTogether.{last_first}
use Rattle.ts_exec.specs.Borrowed.{borrowed}
use Rattle.ts_exec.specs.ReducedConditions.{meets_all}
use Rattle.ts_exec.specs.SeriesTests.{ArePairsSorted, AreDistinctTags, is_empty_text, holds_empty, has_pair, is_refused, meets_tests}
use Rattle.ts_exec.proofs.Reduced.{and_assoc}

-- ---- distinct tags

above_not : (x : Text) (ts : List (Text × Text)) → T (below_all text_cmp x ts) → Among x (map (λ (t : Text × Text). t.0) ts) → ⊥
above_not x [] b a = a
above_not x (t ∷ ts) b a =
    let p = both_of _ _ b in
    ⊎_elim {C = ⊥} (λ s. true≢false (sym (same_text-refl x) ∙ ap (same_text x) s ∙ sym (is_eq-slice_cmp x t.0) ∙ ap is_eq (less_of _ p.0))) (λ r. above_not x ts p.1 r) a

pub set_distinct : (ts : List (Text × Text)) → IsTagSet ts → AreDistinctTags ts
set_distinct [] s = tt
set_distinct (t ∷ ts) s = let p = both_of _ _ s in (above_not t.0 ts p.0, set_distinct ts p.1)

among_zip : (x : Text) (ks gs : List Text) → Among x (map (λ (t : Text × Text). t.0) (zip ks gs)) → Among x ks
among_zip x [] gs a = a
among_zip x (k ∷ ks) [] a = absurd a
among_zip x (k ∷ ks) (g ∷ gs) a = ⊎_elim {C = Among x (k ∷ ks)} (λ s. inl s) (λ r. inr (among_zip x ks gs r)) a

-- a cell has each kept tag once
pub zip_distinct : (ks gs : List Text) → AllDistinct ks → AreDistinctTags (zip ks gs)
zip_distinct [] gs d = tt
zip_distinct (k ∷ ks) [] d = tt
zip_distinct (k ∷ ks) (g ∷ gs) d = (λ a. d.0 (among_zip k ks gs a), zip_distinct ks gs d.1)

-- ---- texts

reversed_eq : (o : Ordering) → is_eq (ordering_reverse o) ≡ is_eq o
reversed_eq Less = refl
reversed_eq Equal = refl
reversed_eq Greater = refl

same_other : (a b : Text) → same_text a b ≡ same_text b a
same_other a b = sym (is_eq-slice_cmp a b) ∙ ap is_eq (nat_list_cmp_total.antisymm a b) ∙ reversed_eq (text_cmp b a) ∙ is_eq-slice_cmp b a

both_tied : (a b : Ordering) → is_eq (ordering_then a b) ≡ (is_eq a && is_eq b)
both_tied Less b = refl
both_tied Equal b = refl
both_tied Greater b = refl

abbrev is_pair : Text × Text → Text × Text → Bool
is_pair t p = same_text t.0 p.0 && same_text t.1 p.1

tied_pair : (p t : Text × Text) → is_eq (tag_cmp p t) ≡ is_pair t p
tied_pair p t =
    both_tied (text_cmp p.0 t.0) (text_cmp p.1 t.1)
    ∙ ap (λ b. b && is_eq (text_cmp p.1 t.1)) (is_eq-slice_cmp p.0 t.0 ∙ same_other p.0 t.0)
    ∙ ap (λ b. same_text t.0 p.0 && b) (is_eq-slice_cmp p.1 t.1 ∙ same_other p.1 t.1)

-- ---- a search

abbrev Pairs : Type 0
Pairs = List (Bor Text × Bor Text)

abbrev plain : Bor Text × Bor Text → Text × Text
plain p = (p.0.now, p.1.now)

found : (t : Text × Text) (xs : Pairs) (i : ℕ) → i < length xs → ((d : Bor Text × Bor Text) → tag_cmp (plain (get_or xs i d)) t ≡ Equal) → has_pair (borrowed_pairs xs) t ≡ true
found t [] i l h = absurd (omega arith)
found t (x ∷ xs) zero l h = or_left _ _ (sym (tied_pair (plain x) t) ∙ ap is_eq (h x))
found t (x ∷ xs) (suc i) l h = or_right (is_pair t (plain x)) _ (found t xs i (omega arith) h)

missing : (t : Text × Text) (xs : Pairs) → ((k : ℕ) (d : Bor Text × Bor Text) → k < length xs → is_eq (tag_cmp (plain (get_or xs k d)) t) ≡ false) → has_pair (borrowed_pairs xs) t ≡ false
missing t [] h = refl
missing t (x ∷ xs) h = or_from _ _ (sym (tied_pair (plain x) t) ∙ h 0 x (omega arith)) (missing t xs (λ k d l. h (suc k) d (omega arith)))

pub search_is : (t : Text × Text) (xs : Pairs) (r : Result ℕ ℕ) → ArePairsSorted xs → IsSearchInRange r (length xs)
    → IsBinarySearchResult (λ (x : Bor Text × Bor Text). tag_cmp (plain x) t) xs r → is_ok r ≡ has_pair (borrowed_pairs xs) t
search_is t xs (Ok i) s b h = sym (found t xs i b h)
search_is t xs (Err i) s b h =
    let p = h (searchable_from_sorted tags_total plain xs t s) in
    sym (missing t xs (λ k d l. ⊎_elim {C = is_eq (tag_cmp (plain (get_or xs k d)) t) ≡ false} (λ m. ap is_eq (p.0 k d (omega arith) m)) (λ m. ap is_eq (p.1 k d m l)) (cases_lt k i)))

-- ---- in another order

any_plain : (p : Text × Text → Bool) (xs : Pairs) → list_any p (borrowed_pairs xs) ≡ list_any (λ (x : Bor Text × Bor Text). p (plain x)) xs
any_plain p [] = refl
any_plain p (x ∷ xs) = ap (λ b. p (plain x) || b) (any_plain p xs)

has_permuted : (xs ys : Pairs) → IsPermutation xs ys → (t : Text × Text) → has_pair (borrowed_pairs ys) t ≡ has_pair (borrowed_pairs xs) t
has_permuted xs ys h t = any_plain (is_pair t) ys ∙ sym (list_any-IsPermutation (λ x. is_pair t (plain x)) xs ys h) ∙ sym (any_plain (is_pair t) xs)

all_alike : {X : Type 0} (f g : X → Bool) → ((x : X) → f x ≡ g x) → (xs : List X) → list_all f xs ≡ list_all g xs
all_alike f g h [] = refl
all_alike f g h (x ∷ xs) = rw (h x) (ap (λ b. g x && b) (all_alike f g h xs))

pub tests_permuted : (needed : List Condition) (xs ys : Pairs) → IsPermutation xs ys → (s : Series) → meets_tests needed (borrowed_pairs ys) s ≡ meets_tests needed (borrowed_pairs xs) s
tests_permuted needed xs ys h s =
    ap (λ b. b && list_all (meets s) needed)
    (all_alike (λ t. not (is_refused (borrowed_pairs ys) t)) (λ t. not (is_refused (borrowed_pairs xs) t))
    (λ t. ap (λ b. not (not (is_empty_text t.1) && (b || has_pair (borrowed_pairs ys) (t.0, [])))) (has_permuted xs ys h t)
    ∙ ap (λ b. not (not (is_empty_text t.1) && (has_pair (borrowed_pairs xs) t || b))) (has_permuted xs ys h (t.0, []))) s.tags)

-- ---- a condition that a series without the tag meets

-- the tag must not have this value
abbrev refuses : Text × Text → Text × Text → Bool
refuses p t = not (is_empty_text t.1) && (is_pair t p || is_pair (t.0, []) p)

-- what a condition says of a value
abbrev fits : Condition → Text → Bool
fits c value = cond c.negated (not (same_text value c.value)) (same_text value c.value)

empty_text-same : (w : Text) → is_empty_text w ≡ same_text [] w
empty_text-same [] = refl
empty_text-same (y ∷ w) = ne_eqb (length (y ∷ w)) 0 (λ e. absurd (omega (arith, e)))

fits_here : (v w : Text) (n : Bool) → cond n (not (same_text [] w)) (same_text [] w) ≡ true → not (not (same_text [] v) && (same_text v w || same_text [] w)) ≡ cond n (not (same_text v w)) (same_text v w)
fits_here [] [] true h = absurd (subst (λ b. T (not b)) h tt)
fits_here [] [] false h = refl
fits_here [] (y ∷ w) true h = refl
fits_here [] (y ∷ w) false h = absurd (subst (λ b. T (not b)) h tt)
fits_here (x ∷ v) [] true h = absurd (subst (λ b. T (not b)) h tt)
fits_here (x ∷ v) [] false h = refl
fits_here (x ∷ v) (y ∷ w) true h = elim (same_text (x ∷ v) (y ∷ w)) as (λ b. not (b || false) ≡ not b) [ true ↦ refl | false ↦ refl ]
fits_here (x ∷ v) (y ∷ w) false h = absurd (subst (λ b. T (not b)) h tt)

-- another tag is not refused
other_kept : (p t : Text × Text) → same_text t.0 p.0 ≡ false → not (refuses p t) ≡ true
other_kept p t e = rw e (elim (is_empty_text t.1) as (λ b. not (not b && false) ≡ true) [ true ↦ refl | false ↦ refl ])

own_kept : (p t : Text × Text) → same_text t.0 p.0 ≡ true → not (refuses p t) ≡ not (not (same_text [] t.1) && (same_text t.1 p.1 || same_text [] p.1))
own_kept p t e = rw (e, empty_text-same t.1) refl

-- tags other than one that a condition is on
others_kept : (p : Text × Text) (x : Text) (ts : List (Text × Text)) → (Among x (map (λ (t : Text × Text). t.0) ts) → ⊥) → same_text x p.0 ≡ true → list_all (λ t. not (refuses p t)) ts ≡ true
others_kept p x [] n e = refl
others_kept p x (t ∷ ts) n e =
    let apart : same_text t.0 p.0 ≡ false = not_true (same_text t.0 p.0) (λ h. n (inl (same_text-eq x p.0 e ∙ sym (same_text-eq t.0 p.0 h)))) in
    ap (λ b. b && list_all (λ t. not (refuses p t)) ts) (other_kept p t apart) ∙ others_kept p x ts (λ a. n (inr a)) e
  where
    not_true : (b : Bool) → (b ≡ true → ⊥) → b ≡ false
    not_true true h = absurd (h refl)
    not_true false h = refl

holds_same : (c : Condition) → holds_empty c ≡ true → fits c [] ≡ true
holds_same c h = subst (λ b. cond c.negated (not b) b ≡ true) (empty_text-same c.value) h

kept_tags : (c : Condition) → holds_empty c ≡ true → (ts : List (Text × Text)) → AreDistinctTags ts → list_all (λ t. not (refuses (c.tag, c.value) t)) ts ≡ fits c (value_among ts c.tag)
kept_tags c h [] s = sym (holds_same c h)
kept_tags c h (t ∷ ts) s =
    let p : Text × Text = (c.tag, c.value) in
    let rest : Bool = list_all (λ t. not (refuses p t)) ts in
    elim (same_text t.0 c.tag) as (λ b. same_text t.0 c.tag ≡ b → (not (refuses p t) && rest) ≡ fits c (cond b t.1 (value_among ts c.tag))) [
      | true ↦ λ e. ap (λ b. not (refuses p t) && b) (others_kept p t.0 ts s.0 e) ∙ and_true (not (refuses p t)) ∙ own_kept p t e ∙ fits_here t.1 c.value c.negated (holds_same c h)
      | false ↦ λ e. ap (λ b. b && rest) (other_kept p t e) ∙ kept_tags c h ts s.1
    ] refl
  where
    and_true : (b : Bool) → (b && true) ≡ b
    and_true true = refl
    and_true false = refl

-- ---- one more condition

has_more : (xs : Pairs) (x : Bor Text × Bor Text) (t : Text × Text) → has_pair (borrowed_pairs (xs ++ x ∷ [])) t ≡ (has_pair (borrowed_pairs xs) t || is_pair t (plain x))
has_more [] x t = elim (is_pair t (plain x)) as (λ b. (b || false) ≡ b) [ true ↦ refl | false ↦ refl ]
has_more (y ∷ xs) x t = ap (λ b. is_pair t (plain y) || b) (has_more xs x t) ∙ assoc (is_pair t (plain y)) _ _
  where
    assoc : (a b c : Bool) → (a || (b || c)) ≡ ((a || b) || c)
    assoc true b c = refl
    assoc false b c = refl

apart_more : (e a b p q : Bool) → not (not e && ((a || p) || (b || q))) ≡ (not (not e && (a || b)) && not (not e && (p || q)))
apart_more true a b p q = refl
apart_more false true b p q = refl
apart_more false false true true q = refl
apart_more false false true false q = refl
apart_more false false false p q = refl

all_both : {X : Type 0} (f g : X → Bool) (xs : List X) → list_all (λ x. f x && g x) xs ≡ (list_all f xs && list_all g xs)
all_both f g [] = refl
all_both f g (x ∷ xs) = ap (λ b. (f x && g x) && b) (all_both f g xs) ∙ swap (f x) (g x) (list_all f xs) (list_all g xs)
  where
    swap : (a b c d : Bool) → ((a && b) && (c && d)) ≡ ((a && c) && (b && d))
    swap false b c d = refl
    swap true false false d = refl
    swap true false true d = refl
    swap true true c d = refl

allowed_more : (xs : Pairs) (x : Bor Text × Bor Text) (ts : List (Text × Text)) → list_all (λ t. not (is_refused (borrowed_pairs (xs ++ x ∷ [])) t)) ts
    ≡ (list_all (λ t. not (is_refused (borrowed_pairs xs) t)) ts && list_all (λ t. not (refuses (plain x) t)) ts)
allowed_more xs x ts =
    all_alike _ (λ t. not (is_refused (borrowed_pairs xs) t) && not (refuses (plain x) t))
    (λ t. rw (has_more xs x t, has_more xs x (t.0, [])) (apart_more (is_empty_text t.1) (has_pair (borrowed_pairs xs) t) (has_pair (borrowed_pairs xs) (t.0, [])) (is_pair t (plain x)) (is_pair (t.0, []) (plain x)))) ts
    ∙ all_both (λ t. not (is_refused (borrowed_pairs xs) t)) (λ t. not (refuses (plain x) t)) ts

pub refused_more : (needed : List Condition) (xs : Pairs) (x : Bor Text × Bor Text) (c : Condition) → plain x ≡ (c.tag, c.value) → holds_empty c ≡ true → (s : Series) → AreDistinctTags s.tags
    → (meets_tests needed (borrowed_pairs xs) s && meets s c) ≡ meets_tests needed (borrowed_pairs (xs ++ x ∷ [])) s
refused_more needed xs x c is h s set =
    let kept : Bool = list_all (λ t. not (is_refused (borrowed_pairs xs) t)) s.tags in
    last_first kept (list_all (meets s) needed) (meets s c)
    ∙ ap (λ b. (kept && b) && list_all (meets s) needed)
    (sym (kept_tags c h s.tags set) ∙ ap (λ p. list_all (λ t. not (refuses p t)) s.tags) (sym is))
    ∙ ap (λ b. b && list_all (meets s) needed) (sym (allowed_more xs x s.tags))

all_more : (p : Condition → Bool) (cs : List (Bor Condition)) (c : Bor Condition) → (list_all p (borrowed cs) && p c.now) ≡ list_all p (borrowed (cs ++ c ∷ []))
all_more p [] c = sym (and_true (p c.now))
  where
    and_true : (b : Bool) → (b && true) ≡ b
    and_true true = refl
    and_true false = refl
all_more p (x ∷ cs) c = and_assoc (p x.now) (list_all p (borrowed cs)) (p c.now) ∙ ap (λ b. p x.now && b) (all_more p cs c)

-- ---- all conditions

none_refused : (ts : List (Text × Text)) → list_all (λ t. not (is_refused [] t)) ts ≡ true
none_refused [] = refl
none_refused (t ∷ ts) = elim (is_empty_text t.1) as (λ b. (not (not b && false) && list_all (λ u. not (is_refused [] u)) ts) ≡ true) [ true ↦ none_refused ts | false ↦ none_refused ts ]

-- without pairs no tag is refused
pub allowed-none : (xs : Pairs) → length xs ≡ 0 → (ts : List (Text × Text)) → true ≡ list_all (λ t. not (is_refused (borrowed_pairs xs) t)) ts
allowed-none [] e ts = sym (none_refused ts)
allowed-none (x ∷ xs) e ts = absurd (omega (arith, e))

pub tests-none : (s : Series) (b : Bool) → (meets_tests [] [] s && b) ≡ b
tests-none s b = ap (λ k. (k && true) && b) (none_refused s.tags)

pub tests-all : (tests : Bool) (items : List (Bor Condition)) (i : ℕ) (s : Series) → length items ≤ i → (tests && meets_all (borrowed (drop i items)) s) ≡ meets_all (borrowed items) s → tests ≡ meets_all (borrowed items) s
tests-all tests items i s long h = sym (and_true tests) ∙ ap (λ (cs : List (Bor Condition)). tests && meets_all (borrowed cs) s) (sym (drop_all i items long)) ∙ h
  where
    and_true : (b : Bool) → (b && true) ≡ b
    and_true true = refl
    and_true false = refl
