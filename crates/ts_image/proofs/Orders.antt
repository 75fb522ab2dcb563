-- Lists in ascending order, in which no two items are equal; the number of distinct items of a list, at most the
-- list's.
use Rattle.std.proofs.Common.{◌≡◌, Bool, true, false, List, [], ◌∷◌, T, map, refl, sym, ◌∙◌, ap, subst, inl, inr, ⊎_elim, true≢false, Ordering, Less, Equal, Greater, is_lt, ◌&&◌}
use Rattle.std.specs.Cmp.{IsTotalOrder}
use Rattle.std.specs.List.{AllByRecursion}
use Rattle.std.specs.FinMap.{is_sorted}
use Rattle.std.specs.FinMap.Entries.{below_all}
use Rattle.std.proofs.lemmas.Cmp.{tied_itself}
use Rattle.ts_core.specs.lists.Members.{Among, AllDistinct}
use Rattle.ts_core.proofs.lists.MembersLemmas.{Among-map, map_back}
use Rattle.ts_core.proofs.lists.Places.{both_of}
use Rattle.ts_store.specs.image.SavedContent.{AreRising}

-- ---- tests

less_of : (o : Ordering) → is_lt o ≡ true → o ≡ Less
less_of Less h = refl
less_of Equal h = absurd (true≢false (sym h))
less_of Greater h = absurd (true≢false (sym h))

true_of : (b : Bool) → T b → b ≡ true
true_of true h = refl
true_of false h = absurd h

of_true : (b : Bool) → b ≡ true → T b
of_true true h = tt
of_true false h = absurd (true≢false (sym h))

pub of_both : (a b : Bool) → T a → T b → T (a && b)
of_both true b h k = k
of_both false b h k = absurd h

-- ---- each member

pub all_among : {X : Type 0} (P : X → Type 0) (xs : List X) → AllByRecursion P xs → (x : X) → Among x xs → P x
all_among P [] h x a = absurd a
all_among P (y ∷ ys) h x a = ⊎_elim {C = P x} (λ e. subst P (sym e) h.0) (λ k. all_among P ys h.1 x k) a

pub among_all : {X : Type 0} (P : X → Type 0) (xs : List X) → ((x : X) → Among x xs → P x) → AllByRecursion P xs
among_all P [] h = tt
among_all P (y ∷ ys) h = (h y (inl refl), among_all P ys (λ x a. h x (inr a)))

-- ---- rising order

pub rising_rest : {X : Type 0} (cmp : X → X → Ordering) (x : X) (ys : List X) → AreRising cmp (x ∷ ys) → AreRising cmp ys
rising_rest cmp x [] r = tt
rising_rest cmp x (y ∷ ys) r = r.1

module _ {X : Type 0} {cmp : X → X → Ordering} (o : IsTotalOrder cmp) where
  not_before_itself : (x : X) → cmp x x ≡ Less → ⊥
  not_before_itself x h = true≢false (sym (ap is_lt h) ∙ ap is_lt (tied_itself o x))

  -- the first comes before all others
  pub first_before : (x : X) (ys : List X) → AreRising cmp (x ∷ ys) → (y : X) → Among y ys → cmp x y ≡ Less
  first_before x [] r y a = absurd a
  first_before x (z ∷ zs) r y a =
      let here : cmp x z ≡ Less = less_of (cmp x z) r.0 in
      ⊎_elim {C = cmp x y ≡ Less} (λ e. ap (cmp x) e ∙ here) (λ k. o.trans x z y here (first_before z zs r.1 y k)) a

  pub rising_distinct : (xs : List X) → AreRising cmp xs → AllDistinct xs
  rising_distinct [] r = tt
  rising_distinct (x ∷ xs) r = (λ a. not_before_itself x (first_before x xs r x a), rising_distinct xs (rising_rest cmp x xs r))

-- ---- the same as the order of a finite map's keys

module _ {K X : Type 0} (cmp : K → K → Ordering) where
  pub rising_keys : (es : List (K × X)) → T (is_sorted cmp es) → AreRising cmp (map (λ (e : K × X). e.0) es)
  rising_keys [] s = tt
  rising_keys (e ∷ []) s = tt
  rising_keys (e ∷ f ∷ es) s =
      let parts = both_of (below_all cmp e.0 (f ∷ es)) (is_sorted cmp (f ∷ es)) s in
      (true_of (is_lt (cmp e.0 f.0)) (both_of (is_lt (cmp e.0 f.0)) (below_all cmp e.0 es) parts.0).0, rising_keys (f ∷ es) parts.1)

  below_each : (k : K) (es : List (K × X)) → ((x : K) → Among x (map (λ (e : K × X). e.0) es) → cmp k x ≡ Less) → T (below_all cmp k es)
  below_each k [] h = tt
  below_each k (e ∷ es) h = of_both (is_lt (cmp k e.0)) (below_all cmp k es) (of_true _ (ap is_lt (h e.0 (inl refl)))) (below_each k es (λ x a. h x (inr a)))

  pub keys_rising : IsTotalOrder cmp → (es : List (K × X)) → AreRising cmp (map (λ (e : K × X). e.0) es) → T (is_sorted cmp es)
  keys_rising o [] r = tt
  keys_rising o (e ∷ es) r =
      of_both (below_all cmp e.0 es) (is_sorted cmp es) (below_each e.0 es (first_before o e.0 (map (λ (f : K × X). f.0) es) r)) (keys_rising o es (rising_rest cmp e.0 (map (λ (f : K × X). f.0) es) r))

-- ---- distinct members

-- members with distinct keys are the same where their keys are
pub one_of_key : {X K : Type 0} (key : X → K) (xs : List X) → AllDistinct (map key xs) → (x y : X) → Among x xs → Among y xs → key x ≡ key y → x ≡ y
one_of_key key [] d x y a b e = absurd a
one_of_key {X} {K} key (z ∷ zs) d x y (inl p) (inl q) e = p ∙ sym q
one_of_key {X} {K} key (z ∷ zs) d x y (inl p) (inr q) e = absurd (d.0 (subst (λ (k : K). Among k (map key zs)) (sym e ∙ ap key p) (Among-map key y zs q)))
one_of_key {X} {K} key (z ∷ zs) d x y (inr p) (inl q) e = absurd (d.0 (subst (λ (k : K). Among k (map key zs)) (e ∙ ap key q) (Among-map key x zs p)))
one_of_key key (z ∷ zs) d x y (inr p) (inr q) e = one_of_key key zs d.1 x y p q e

-- members with distinct keys stay distinct by any finer key
pub distinct_by : {X K J : Type 0} (key : X → K) (finer : X → J) → ((x y : X) → finer x ≡ finer y → key x ≡ key y) → (xs : List X) → AllDistinct (map key xs) → AllDistinct (map finer xs)
distinct_by key finer h [] d = tt
distinct_by {X} {K} {J} key finer h (x ∷ xs) d = (
  λ a. let s = map_back finer xs (finer x) a in d.0 (subst (λ (k : K). Among k (map key xs)) (h s.0 x s.2) (Among-map key s.0 xs s.1)),
  distinct_by key finer h xs d.1,
)
