-- The result of a binary search by time among sorted steps.
use Rattle.std.proofs.Common.{◌≡◌, ℕ, zero, suc, ◌<◌, ◌≤◌, ℤ, ◌≤ℤ◌, ◌<ℤ◌, Bool, true, false, List, [], ◌∷◌, length, get_or, drop, pos, refl, sym, Result, Ok, Err, Less, Equal, Greater, arith}
use Rattle.std.specs.Ordering.{ordering_index, int_cmp, int_eq}
use Rattle.std.specs.List.{AllByRecursion}
use Rattle.std.specs.List.Sorted.{IsNonDecreasingBy, IsBinarySearchResult, IsSearchInRange}
use Rattle.std.specs.Result.{is_ok}
use Rattle.ts_core.specs.plans.Pieces.{QueryContext}
use Rattle.std.proofs.lemmas.Int.{ints, by_lt_z}
use Rattle.std.proofs.lemmas.Bool.Decides.{Decides-int_eq}
use Rattle.ts_plan.specs.declared.steps.Step.{Step}
use Rattle.ts_plan.specs.Steps.{Ascends, Upto, starts_at, kept_if, pruned_steps}
use Rattle.std.proofs.lemmas.Bool.{or_from, or_left, or_right}

cmp_up : (a b e : ℤ) → a ≤ℤ b → ordering_index (int_cmp a e) ≤ ordering_index (int_cmp b e)
cmp_up a b e h = grind (arith, ints)

cmp_eq : (a e : ℤ) → int_cmp a e ≡ Equal → a ≡ e
cmp_eq a e h = grind (arith, ints)

cmp_less : (a e : ℤ) → int_cmp a e ≡ Less → a <ℤ e
cmp_less a e h = grind (arith, ints)

cmp_greater : (a e : ℤ) → int_cmp a e ≡ Greater → e <ℤ a
cmp_greater a e h = grind (arith, ints)

upto_at : (s : Step) (ss : List Step) (j : ℕ) (d : Step) → AllByRecursion (λ (x : Step). Upto s x) ss → j < length ss → s.from ≤ℤ (get_or ss j d).from
upto_at s [] j d a l = absurd (omega arith)
upto_at s (x ∷ ss) zero d a l = a.0.from
upto_at s (x ∷ ss) (suc j) d a l = upto_at s ss j d a.1 (omega arith)

pub rises : (e : ℤ) (ss : List Step) → Ascends ss → IsNonDecreasingBy (λ (s : Step). ordering_index (int_cmp s.from e)) ss
rises e [] a i j d l h = absurd (omega arith)
rises e (s ∷ ss) a zero zero d l h = omega arith
rises e (s ∷ ss) a zero (suc j) d l h = cmp_up s.from (get_or ss j d).from e (upto_at s ss j d a.0 (omega arith))
rises e (s ∷ ss) a (suc i) zero d l h = absurd (omega arith)
rises e (s ∷ ss) a (suc i) (suc j) d l h = rises e ss a.1 i j d (omega arith) (omega arith)

found : (e : ℤ) (ss : List Step) (i : ℕ) → i < length ss → ((d : Step) → int_cmp (get_or ss i d).from e ≡ Equal) → starts_at e ss ≡ true
found e [] i l h = absurd (omega arith)
found e (s ∷ ss) zero l h = or_left _ _ ((Decides-int_eq s.from e).1 (cmp_eq s.from e (h s)))
found e (s ∷ ss) (suc i) l h = or_right (int_eq s.from e) _ (found e ss i (omega arith) h)

pub apart : (a e : ℤ) → (a ≡ e → ⊥) → int_eq a e ≡ false
apart a e n = elim (int_eq a e) as (λ b. int_eq a e ≡ b → b ≡ false) [ true ↦ λ q. absurd (n ((Decides-int_eq a e).0 q)) | false ↦ λ q. refl ] refl

missing : (e : ℤ) (ss : List Step) → ((k : ℕ) (d : Step) → k < length ss → (get_or ss k d).from ≡ e → ⊥) → starts_at e ss ≡ false
missing e [] h = refl
missing e (s ∷ ss) h = or_from _ _ (apart s.from e (h 0 s (omega arith))) (missing e ss (λ k d l. h (suc k) d (omega arith)))

by_le : {P : Type 0} (m n : ℕ) → (m < n → P) → (n ≤ m → P) → P
by_le m n f g = by_lt_z (pos m) (pos n) (λ l. f (omega (arith, ints))) (λ l. g (omega (arith, ints)))

pub search_is : (e : ℤ) (ss : List Step) (r : Result ℕ ℕ) → Ascends ss → IsSearchInRange r (length ss) → IsBinarySearchResult (λ (s : Step). int_cmp s.from e) ss r → is_ok r ≡ starts_at e ss
search_is e ss (Ok i) a b h = sym (found e ss i b h)
search_is e ss (Err i) a b h =
    let p = h (rises e ss a) in
    sym (missing e ss (λ k d l q. by_le k i
    (λ m. let x = cmp_less _ e (p.0 k d (omega arith) m) in absurd (omega (arith, ints)))
    (λ m. let x = cmp_greater _ e (p.1 k d m l) in absurd (omega (arith, ints)))))

pub drop_ascends : (n : ℕ) (ss : List Step) → Ascends ss → Ascends (drop n ss)
drop_ascends zero ss a = a
drop_ascends (suc n) [] a = tt
drop_ascends (suc n) (s ∷ ss) a = drop_ascends n ss a.1

upto_kept : (t : QueryContext) (s x : Step) (b : Bool) (gs : List Step) → Upto s x → AllByRecursion (λ (y : Step). Upto s y) gs → AllByRecursion (λ (y : Step). Upto s y) (kept_if b x gs)
upto_kept t s x true gs u a = (u, a)
upto_kept t s x false gs u a = a

uptos_kept : (t : QueryContext) (s : Step) (ss : List Step) → AllByRecursion (λ (y : Step). Upto s y) ss → AllByRecursion (λ (y : Step). Upto s y) (pruned_steps t ss)
uptos_kept t s [] a = tt
uptos_kept t s (x ∷ ss) a = upto_kept t s x _ _ a.0 (uptos_kept t s ss a.1)

ascends_if : (t : QueryContext) (s : Step) (b : Bool) (gs : List Step) → AllByRecursion (λ (y : Step). Upto s y) gs → Ascends gs → Ascends (kept_if b s gs)
ascends_if t s true gs u a = (u, a)
ascends_if t s false gs u a = a

pub kept_ascends : (t : QueryContext) (ss : List Step) → Ascends ss → Ascends (pruned_steps t ss)
kept_ascends t [] a = tt
kept_ascends t (s ∷ ss) a = ascends_if t s _ _ (uptos_kept t s ss a.0) (kept_ascends t ss a.1)
