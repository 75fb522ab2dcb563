-- GroupValues: values without the empty ones are those of a series' own tags, and compare as all values.
use Rattle.std.proofs.Common.{◌≡◌, ℕ, zero, suc, ◌+◌, ◌<◌, ◌==◌, true, false, Bool, if◌then◌else◌, T, refl, sym, ◌∙◌}
use Rattle.std.proofs.Common.{ap, ap₂, subst, subst₂, ◌⊎◌, inl, inr}
use Rattle.std.proofs.Common.{List, [], ◌∷◌, length, get_or, map, zip}
use Rattle.std.proofs.Common.{Option, Some, None, Result, Ok, Err, Ordering, Less, Equal, Greater, is_eq, is_lt}
use Rattle.std.proofs.Common.{arith, add-one, eq-eqb, ne_eqb, eqb-true, lt-ltb, le-ltb}
use borrow.Author.Tests.{eqb-false}
use Rattle.std.specs.Ordering.{ordering_then, ordering_reverse, nat_cmp}
use Rattle.std.specs.Cmp.Lexicographic.{slice_cmp}
use Rattle.std.specs.FinMap.Entries.{below_all}
use Rattle.std.specs.List.{AllByRecursion}
use Rattle.std.specs.List.Sorted.{IsStrictlySortedBy, IsBinarySearchResult, IsSearchInRange}
use Rattle.std.specs.Result.{result_ok}
use Rattle.std.proofs.lemmas.Bool.{cases_lt}
use Rattle.std.proofs.lemmas.Bool.Decides.{nat_tests}
use Rattle.std.proofs.lemmas.Cmp.{nat_list_cmp_total, alike_right}
use Rattle.std.proofs.lemmas.List.{get_or-map, length-map}
use Rattle.std.proofs.lemmas.List.Sorted.{searchable_from_sorted}
use Rattle.std.proofs.lemmas.Map.Lookups.{exact_bytes}
use Rattle.std.proofs.lemmas.Map.Text.{is_eq-slice_cmp}
use Rattle.ts_core.specs.facts.Facts.{Text, text_cmp, same_text}
use Rattle.ts_core.specs.facts.Tags.{value_among}
use Rattle.ts_core.specs.queries.Answers.{group_cmp}
use Rattle.ts_core.specs.text.Texts.{IsTagSet}
use Rattle.ts_core.proofs.lists.Comparisons.{same_text-refl}
use Rattle.ts_core.proofs.lists.Places.{both_of, less_of}
use Rattle.ts_exec.specs.GroupValues.{SetValue, AreSetValues, all_values, set_value_cmp, set_values}
use Rattle.ts_exec.specs.GroupValues.{tag_index, with_set, own_values, with_kept, kept_indices, kept_values}

-- ---- tags in order

abbrev IsRising : List Text → Type 0
IsRising = IsStrictlySortedBy text_cmp

abbrev AreAbove : Text → List Text → Type 0
AreAbove k ts = AllByRecursion (λ t. text_cmp k t ≡ Less) ts

below_other : (a b : Text) → text_cmp a b ≡ Less → same_text a b ≡ false
below_other a b l = sym (is_eq-slice_cmp a b) ∙ ap is_eq l

above_other : (a b : Text) → text_cmp a b ≡ Less → same_text b a ≡ false
above_other a b l = sym (is_eq-slice_cmp b a) ∙ ap is_eq (nat_list_cmp_total.antisymm b a ∙ ap ordering_reverse l)

all_above : (a b : Text) (ts : List Text) → text_cmp a b ≡ Less → AreAbove b ts → AreAbove a ts
all_above a b [] l h = tt
all_above a b (t ∷ ts) l h = (nat_list_cmp_total.trans a b t l h.0, all_above a b ts l h.1)

above_at : (a : Text) (ts : List Text) → AreAbove a ts → (j : ℕ) (d : Text) → j < length ts
    → text_cmp a (get_or ts j d) ≡ Less
above_at a [] h j d l = absurd (omega arith)
above_at a (t ∷ ts) h zero d l = h.0
above_at a (t ∷ ts) h (suc j) d l = above_at a ts h.1 j d (omega arith)

-- ---- one more own tag, below the others

-- a tag below all of them has no value
none_among : (k : Text) (own : List (Text × Text)) → T (below_all text_cmp k own) → value_among own k ≡ []
none_among k [] h = refl
none_among k (o ∷ own) h =
    let parts = both_of _ _ h in
    let next : text_cmp k o.0 ≡ Less = less_of _ parts.0 in
    rw (above_other k o.0 next) (none_among k own parts.1)

lower_among : (t k : Text) (own : List (Text × Text)) → text_cmp t k ≡ Less → T (below_all text_cmp k own)
    → value_among own t ≡ []
lower_among t k [] l h = refl
lower_among t k (o ∷ own) l h =
    let parts = both_of _ _ h in
    let next : text_cmp t o.0 ≡ Less = nat_list_cmp_total.trans t k o.0 l (less_of _ parts.0) in
    rw (above_other t o.0 next) (lower_among t k own l parts.1)

module _ (k v : Text) (own : List (Text × Text)) where
  -- it is none of the tags above it
  no_index : (i : ℕ) (ts : List Text) → AreAbove k ts → tag_index i ts k ≡ None
  no_index i [] h = refl
  no_index i (t ∷ ts) h = rw (above_other k t h.0) (no_index (suc i) ts h.1)

  skipped : (i : ℕ) (ts : List Text) → AreAbove k ts
      → set_values i ts (value_among ((k, v) ∷ own)) ≡ set_values i ts (value_among own)
  skipped i [] h = refl
  skipped i (t ∷ ts) h = rw (below_other k t h.0, skipped (suc i) ts h.1) refl

  abbrev SetMore : ℕ → List Text → Type 0
  SetMore i ts =
      with_set (tag_index i ts k) v (set_values i ts (value_among own)) ≡ set_values i ts (value_among ((k, v) ∷ own))

  set_here : (i : ℕ) (ts : List Text) → AreAbove k ts → T (below_all text_cmp k own) → SetMore i (k ∷ ts)
  set_here i ts above h = rw (same_text-refl k, none_among k own h, skipped (suc i) ts above) refl

  set_more : (i : ℕ) (ts : List Text) → IsRising ts → T (below_all text_cmp k own) → SetMore i ts
  unfolding IsStrictlySortedBy
  set_more i [] s h = refl
  set_more i (t ∷ ts) s h = elim (text_cmp k t) as (λ o. text_cmp k t ≡ o → SetMore i (t ∷ ts)) [
    | Less ↦ λ e.
        let above = all_above k t ts e s.0 in
        rw (no_index i (t ∷ ts) (e, above)) (sym (skipped i (t ∷ ts) (e, above)))
    | Equal ↦ λ e.
        let same : t ≡ k = sym (exact_bytes k t e) in
        subst (λ u. SetMore i (u ∷ ts)) (sym same) (set_here i ts (subst (λ u. AreAbove u ts) same s.0) h)
    | Greater ↦ λ e.
        let lower : text_cmp t k ≡ Less = nat_list_cmp_total.antisymm t k ∙ ap ordering_reverse e in
        rw (below_other t k lower, above_other t k lower, lower_among t k own lower h) (set_more (suc i) ts s.1 h)
  ] refl

none_set : (i : ℕ) (ts : List Text) → [] ≡ set_values i ts (value_among [])
none_set i [] = refl
none_set i (t ∷ ts) = none_set (suc i) ts

-- the values that own tags give
pub own-set : (tags : List Text) (own : List (Text × Text)) → IsStrictlySortedBy text_cmp tags → IsTagSet own
    → own_values tags own ≡ set_values 0 tags (value_among own)
own-set tags [] s h = none_set 0 tags
own-set tags (t ∷ own) s h =
    let parts = both_of _ _ h in
    ap (with_set (tag_index 0 tags t.0) t.1) (own-set tags own s parts.1) ∙ set_more t.0 t.1 own 0 tags s parts.0

-- ---- the first of some tags, with a value or without

-- it has this value, before the others
record IsFirst (i n : ℕ) (vs : List SetValue) : Type 0 where
  value : Text
  rest : List SetValue
  is : (i, value) ∷ rest ≡ vs
  filled : 0 < length value
  later : AreSetValues (suc i) n rest

first_or_later : (i n : ℕ) (vs : List SetValue) → AreSetValues i n vs → AreSetValues (suc i) n vs ⊎ IsFirst i n vs
first_or_later i n [] h = inl tt
first_or_later i n (v ∷ vs) h = elim (cases_lt i v.0) [
  | inl l ↦ inl (omega arith, h.1, h.2, h.3)
  | inr g ↦
      let low = h.0 in
      let at : i ≡ v.0 = omega arith in
      inr (record {
        value = v.1;
        rest = vs;
        is = ap (λ k. (k, v.1) ∷ vs) at;
        filled = h.2;
        later = subst (λ k. AreSetValues (suc k) n vs) (sym at) h.3;
      })
]

later_all : (i n k : ℕ) (vs : List SetValue) → AreSetValues (suc i) n vs
    → all_values i (suc k) vs ≡ [] ∷ all_values (suc i) k vs
later_all i n k [] h = refl
later_all i n k (v ∷ vs) h = let above = h.0 in rw (ne_eqb v.0 i (λ e. omega arith)) refl

first_all : (i k : ℕ) (v : Text) (vs : List SetValue)
    → all_values i (suc k) ((i, v) ∷ vs) ≡ v ∷ all_values (suc i) k vs
first_all i k v vs = rw (eq-eqb i i refl) refl

-- ---- orders

empty_below : (v : Text) → 0 < length v → text_cmp [] v ≡ Less
empty_below [] h = absurd (omega arith)
empty_below (x ∷ v) h = refl

above_empty : (v : Text) → 0 < length v → text_cmp v [] ≡ Greater
above_empty [] h = absurd (omega arith)
above_empty (x ∷ v) h = refl

module _ (i n : ℕ) (v : Text) (us : List SetValue) where
  -- an earlier tag's value comes after
  comes_after : (vs : List SetValue) → AreSetValues (suc i) n vs → slice_cmp set_value_cmp ((i, v) ∷ us) vs ≡ Greater
  comes_after [] h = refl
  comes_after (w ∷ ws) h = let above = h.0 in rw (le-ltb w.0 i (omega arith), ne_eqb w.0 i (λ e. omega arith)) refl

  comes_before : (vs : List SetValue) → AreSetValues (suc i) n vs → slice_cmp set_value_cmp vs ((i, v) ∷ us) ≡ Less
  comes_before [] h = refl
  comes_before (w ∷ ws) h = let above = h.0 in rw (lt-ltb i w.0 (omega arith)) refl

then_assoc : (a b c : Ordering) → ordering_then a (ordering_then b c) ≡ ordering_then (ordering_then a b) c
then_assoc Less b c = refl
then_assoc Equal b c = refl
then_assoc Greater b c = refl

more_cmp : (m n : ℕ) → nat_cmp m n ≡ nat_cmp (suc m) (suc n)
more_cmp m n = grind (arith, nat_tests)

-- all values compare as those that are set, and then by their number
abbrev Compares : ℕ → ℕ → ℕ → List SetValue → List SetValue → Type 0
Compares i m n us vs =
    group_cmp (all_values i m us) (all_values i n vs) ≡ ordering_then (slice_cmp set_value_cmp us vs) (nat_cmp m n)

-- all values of a tag's and others
abbrev all_of : Bool → ℕ → ℕ → SetValue → List SetValue → List Text
all_of b i n v vs = if b then v.1 ∷ all_values (suc i) n vs else [] ∷ all_values (suc i) n (v ∷ vs)

none_compares : (i b n : ℕ) (vs : List SetValue) → b ≡ i + n → AreSetValues i b vs → Compares i 0 n [] vs
none_compares i b zero [] q h = refl
none_compares i b zero (v ∷ vs) q h = let low = h.0 in let high = h.1 in absurd (omega arith)
none_compares i b (suc n) [] q h = rw (lt-ltb 0 (suc n) (omega arith)) refl
none_compares i b (suc n) (v ∷ vs) q h =
    elim (v.0 == i) as (λ b. group_cmp [] (all_of b i n v vs) ≡ Less) [ true ↦ refl | false ↦ refl ]

some_compares : (i m : ℕ) (us : List SetValue) → Compares i (suc m) 0 us []
some_compares i m [] = rw (le-ltb (suc m) 0 (omega arith), ne_eqb (suc m) 0 (λ e. omega arith)) refl
some_compares i m (v ∷ vs) =
    elim (v.0 == i) as (λ b. group_cmp (all_of b i m v vs) [] ≡ Greater) [ true ↦ refl | false ↦ refl ]

module _ (i a b m n : ℕ) (us vs : List SetValue) where
  first_compares : AreSetValues i a us → AreSetValues i b vs
      → ((us vs : List SetValue) → AreSetValues (suc i) a us → AreSetValues (suc i) b vs → Compares (suc i) m n us vs)
      → Compares i (suc m) (suc n) us vs
  first_compares h k rest = elim (first_or_later i a us h) [
    | inl x ↦ elim (first_or_later i b vs k) [
      | inl y ↦ rw (later_all i a m us x, later_all i b n vs y) (next us vs x y)
      | inr g ↦
          let below = empty_below g.value g.filled in
          let before = comes_before i a g.value g.rest us x in
          subst (Compares i (suc m) (suc n) us) g.is
          (rw (later_all i a m us x, first_all i n g.value g.rest, below, before) refl)
    ]
    | inr f ↦ elim (first_or_later i b vs k) [
      | inl y ↦
          let above = above_empty f.value f.filled in
          let after = comes_after i b f.value f.rest vs y in
          subst (λ us. Compares i (suc m) (suc n) us vs) f.is
          (rw (first_all i m f.value f.rest, later_all i b n vs y, above, after) refl)
      | inr g ↦
          let one : Ordering = text_cmp f.value g.value in
          let same : nat_cmp i i ≡ Equal = rw (le-ltb i i (omega arith), eq-eqb i i refl) refl in
          subst₂ (Compares i (suc m) (suc n)) f.is g.is
          (rw (first_all i m f.value f.rest, first_all i n g.value g.rest, same)
          (ap (ordering_then one) (next f.rest g.rest f.later g.later) ∙ then_assoc one _ _))
    ]
  ]
    where
      next : (us vs : List SetValue) → AreSetValues (suc i) a us → AreSetValues (suc i) b vs
          → group_cmp (all_values (suc i) m us) (all_values (suc i) n vs)
          ≡ ordering_then (slice_cmp set_value_cmp us vs) (nat_cmp (suc m) (suc n))
      next us vs x y = rest us vs x y ∙ ap (ordering_then (slice_cmp set_value_cmp us vs)) (more_cmp m n)

compare : (i a b m n : ℕ) (us vs : List SetValue) → a ≡ i + m → b ≡ i + n → AreSetValues i a us → AreSetValues i b vs
    → Compares i m n us vs
compare i a b zero n [] vs p q h k = none_compares i b n vs q k
compare i a b zero n (u ∷ us) vs p q h k = let low = h.0 in let high = h.1 in absurd (omega arith)
compare i a b (suc m) zero us [] p q h k = some_compares i m us
compare i a b (suc m) zero us (v ∷ vs) p q h k = let low = k.0 in let high = k.1 in absurd (omega arith)
compare i a b (suc m) (suc n) us vs p q h k =
    first_compares i a b m n us vs h k (λ us vs. compare (suc i) a b m n us vs (omega arith) (omega arith))

pub compare-set : (i m n : ℕ) (us vs : List SetValue) → AreSetValues i (i + m) us → AreSetValues i (i + n) vs
    → group_cmp (all_values i m us) (all_values i n vs) ≡ ordering_then (slice_cmp set_value_cmp us vs) (nat_cmp m n)
compare-set i m n us vs = compare i (i + m) (i + n) m n us vs refl refl

-- ---- all values, back from those that are set

lower : (i n : ℕ) (vs : List SetValue) → AreSetValues (suc i) n vs → AreSetValues i n vs
lower i n [] h = tt
lower i n (v ∷ vs) h = let above = h.0 in (omega arith, h.1, h.2, h.3)

no_bytes : (t : Text) → (length t == 0) ≡ true → [] ≡ t
no_bytes [] e = refl
no_bytes (x ∷ t) e = let none = eqb-true (length (x ∷ t)) 0 e in absurd (omega arith)

abbrev set_first : Bool → ℕ → Text → List Text → (Text → Text) → List SetValue
set_first b i t tags f = if b then set_values (suc i) tags f else (i, f t) ∷ set_values (suc i) tags f

set_within : (i n : ℕ) (tags : List Text) (f : Text → Text) → n ≡ i + length tags
    → AreSetValues i n (set_values i tags f)
set_within i n [] f e = tt
set_within i n (t ∷ tags) f e =
    let rest = set_within (suc i) n tags f (omega arith) in
    elim (length (f t) == 0) as (λ b. (length (f t) == 0) ≡ b → AreSetValues i n (set_first b i t tags f)) [
      | true ↦ λ e. lower i n (set_values (suc i) tags f) rest
      | false ↦ λ q. let some = eqb-false (length (f t)) 0 q in (omega arith, omega arith, omega arith, rest)
    ] refl

pub are-set : (i : ℕ) (tags : List Text) (f : Text → Text) → AreSetValues i (i + length tags) (set_values i tags f)
are-set i tags f = set_within i (i + length tags) tags f refl

pub all-set : (i : ℕ) (tags : List Text) (f : Text → Text)
    → all_values i (length tags) (set_values i tags f) ≡ map f tags
all-set i [] f = refl
all-set i (t ∷ tags) f =
    let rest = all-set (suc i) tags f in
    let n : ℕ = length tags in
    elim (length (f t) == 0) as (λ b. (length (f t) == 0) ≡ b
    → all_values i (suc n) (set_first b i t tags f) ≡ f t ∷ map f tags) [
      | true ↦ λ e. later_all i (suc i + n) n _ (are-set (suc i) tags f) ∙ ap₂ (λ v vs. v ∷ vs) (no_bytes (f t) e) rest
      | false ↦ λ e. first_all i n (f t) _ ∙ ap (λ vs. f t ∷ vs) rest
    ] refl

-- ---- one more own tag, after the others

-- ---- the index of a tag, by a search

index_from : (i k : ℕ) (tags : List Text) (tag : Text) → IsRising tags → (j : ℕ) (d : Text)
    → k ≡ i + j → j < length tags → text_cmp (get_or tags j d) tag ≡ Equal → tag_index i tags tag ≡ Some k
unfolding IsStrictlySortedBy
index_from i k [] tag s j d q l e = absurd (omega arith)
index_from i k (t ∷ tags) tag s zero d q l e =
    let same : i ≡ k = omega arith in
    rw (sym (is_eq-slice_cmp t tag) ∙ ap is_eq e) (ap (λ n. Some n) same)
index_from i k (t ∷ tags) tag s (suc j) d q l e =
    let less : text_cmp t (get_or tags j d) ≡ Less = above_at t tags s.0 j d (omega arith) in
    let below : text_cmp t tag ≡ Less = sym (alike_right nat_list_cmp_total (get_or tags j d) tag t e) ∙ less in
    rw (below_other t tag below) (index_from (suc i) k tags tag s.1 j d (omega arith) (omega arith) e)

pub tag_index-at : (tags : List Text) (tag : Text) (i : ℕ) (d : Text) → IsStrictlySortedBy text_cmp tags
    → i < length tags → text_cmp (get_or tags i d) tag ≡ Equal → tag_index 0 tags tag ≡ Some i
tag_index-at tags tag i d s l e = index_from 0 i tags tag s i d (omega arith) l e

pub tag_index-none : (i : ℕ) (tags : List Text) (tag : Text)
    → ((k : ℕ) (d : Text) → k < length tags → is_eq (text_cmp (get_or tags k d) tag) ≡ false)
    → tag_index i tags tag ≡ None
tag_index-none i [] tag h = refl
tag_index-none i (t ∷ tags) tag h =
    rw (sym (is_eq-slice_cmp t tag) ∙ h 0 t (omega arith))
    (tag_index-none (suc i) tags tag (λ k d l. h (suc k) d (omega arith)))

module _ {X : Type 0} (text_of : X → Text) where
  -- the texts rise, as a binary search asks
  rises : (xs : List X) → IsRising (map text_of xs) → (k : ℕ) (d : X) → suc k < length xs
      → is_lt (text_cmp (text_of (get_or xs (suc k) d)) (text_of (get_or xs k d))) ≡ false
  unfolding IsStrictlySortedBy
  rises [] s k d l = absurd (omega arith)
  rises (x ∷ xs) s (suc k) d l = rises xs s.1 k d (omega arith)
  rises (x ∷ []) s zero d l = absurd (omega arith)
  rises (x ∷ y ∷ ys) s zero d l =
      ap is_lt (nat_list_cmp_total.antisymm (text_of y) (text_of x) ∙ ap ordering_reverse s.0.0)

  -- what a binary search for the tag finds
  pub tag_index-search : (tag : Text) (xs : List X) (r : Result ℕ ℕ) → IsStrictlySortedBy text_cmp (map text_of xs)
      → IsSearchInRange r (length xs) → IsBinarySearchResult (λ x. text_cmp (text_of x) tag) xs r
      → tag_index 0 (map text_of xs) tag ≡ result_ok r
  tag_index-search tag [] (Ok i) s b h = absurd (omega arith)
  tag_index-search tag (x ∷ xs) (Ok i) s b h =
      let long : length (map text_of (x ∷ xs)) ≡ length (x ∷ xs) = length-map (x ∷ xs) text_of in
      tag_index-at (map text_of (x ∷ xs)) tag i [] s (omega arith)
      (ap (λ t. text_cmp t tag) (get_or-map text_of (x ∷ xs) i x [] b) ∙ h x)
  tag_index-search tag [] (Err i) s b h = refl
  tag_index-search tag (x ∷ xs) (Err i) s b h =
      let long : length (map text_of (x ∷ xs)) ≡ length (x ∷ xs) = length-map (x ∷ xs) text_of in
      let p = h (searchable_from_sorted nat_list_cmp_total text_of (x ∷ xs) tag
      (λ k d z l. rw add-one (rises (x ∷ xs) s k d (omega arith)))) in
      tag_index-none 0 (map text_of (x ∷ xs)) tag (λ k d l.
      let within : k < length (x ∷ xs) = omega arith in
      let other : is_eq (text_cmp (text_of (get_or (x ∷ xs) k x)) tag) ≡ false =
      elim (cases_lt k i) [ inl m ↦ ap is_eq (p.0 k x (omega arith) m) | inr m ↦ ap is_eq (p.1 k x m within) ] in
      ap (λ t. is_eq (text_cmp t tag)) (get_or-map text_of (x ∷ xs) k x d within) ∙ other)

-- ---- the tags that a rule keeps

abbrev value_at : Option ℕ → List Text → Text
value_at None group = []
value_at (Some k) group = get_or group k []

none_at : (i : ℕ) (kept : List Text) (tag : Text) → value_at (tag_index i kept tag) [] ≡ []
none_at i [] tag = refl
none_at i (k ∷ kept) tag =
    elim (same_text k tag) as (λ b. value_at (if b then Some i else tag_index (suc i) kept tag) [] ≡ []) [
      | true ↦ refl
      | false ↦ none_at (suc i) kept tag
    ]

later_at : (i : ℕ) (kept : List Text) (tag v : Text) (group : List Text)
    → value_at (tag_index (suc i) kept tag) (v ∷ group) ≡ value_at (tag_index i kept tag) group
later_at i [] tag v group = refl
later_at i (k ∷ kept) tag v group =
    elim (same_text k tag) as (λ b. value_at (if b then Some (suc i) else tag_index (suc (suc i)) kept tag) (v ∷ group)
    ≡ value_at (if b then Some i else tag_index (suc i) kept tag) group) [
      | true ↦ refl
      | false ↦ later_at (suc i) kept tag v group
    ]

value_at-among : (kept group : List Text) (tag : Text)
    → value_at (tag_index 0 kept tag) group ≡ value_among (zip kept group) tag
value_at-among [] group tag = refl
value_at-among (k ∷ kept) [] tag = none_at 0 (k ∷ kept) tag
value_at-among (k ∷ kept) (v ∷ group) tag =
    elim (same_text k tag) as (λ b. value_at (if b then Some 0 else tag_index 1 kept tag) (v ∷ group)
    ≡ (if b then v else value_among (zip kept group) tag)) [
      | true ↦ refl
      | false ↦ later_at 0 kept tag v group ∙ value_at-among kept group tag
    ]

kept_more : (o : Option ℕ) (i : ℕ) (ps : List (ℕ × ℕ)) (group : List Text) → kept_values (with_kept i o ps) group
    ≡ if length (value_at o group) == 0 then kept_values ps group else (i, value_at o group) ∷ kept_values ps group
kept_more None i ps group = refl
kept_more (Some k) i ps group = refl

kept-set_from : (i : ℕ) (tags kept group : List Text)
    → kept_values (kept_indices i tags kept) group ≡ set_values i tags (value_among (zip kept group))
kept-set_from i [] kept group = refl
kept-set_from i (t ∷ tags) kept group =
    kept_more (tag_index 0 kept t) i (kept_indices (suc i) tags kept) group
    ∙ ap₂ (λ v vs. if length v == 0 then vs else (i, v) ∷ vs) (value_at-among kept group t)
    (kept-set_from (suc i) tags kept group)

pub kept-set : (tags kept group : List Text)
    → kept_values (kept_indices 0 tags kept) group ≡ set_values 0 tags (value_among (zip kept group))
kept-set = kept-set_from 0
