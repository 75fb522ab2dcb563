-- The points from the front that are in the bucket of the first.
use Rattle.std.proofs.Common.{◌≡◌, ℤ, pos, ◌+ℤ◌, ◌≤ℤ◌, ◌<ℤ◌, Bool, true, false, cond, List, [], ◌∷◌, ◌++◌, ◌+◌, ◌<◌, length, length-append, refl, sym, ◌∙◌, ap, subst, inl, arith}
use Rattle.std.specs.List.{AllByRecursion, take_while}
use Rattle.std.proofs.lemmas.Int.{ints}
use Rattle.std.proofs.lemmas.Bool.{and_parts}
use Rattle.std.proofs.lemmas.List.Sums.{take_while-cons}
use Rattle.ts_core.specs.lists.Members.{Among}
use Rattle.ts_core.specs.facts.Facts.{is_within}
use Rattle.ts_core.specs.facts.Times.{IsTime}
use Rattle.ts_core.specs.settings.Settings.{Rule}
use Rattle.ts_core.specs.store.Marks.{index_of}
use Rattle.ts_core.specs.aggregates.Buckets.{bucket_of, bucket_start}
use Rattle.ts_core.proofs.aggregates.BucketsOrder.{bucket_is, bucket_same}
use Rattle.ts_core.proofs.lists.Comparisons.{le_from, lt_from}
use Rattle.ts_core.proofs.plans.Covered.{within_true}
use Rattle.ts_store.specs.rollup.BucketsTaken.{TakesBucket}

-- a time from another on, and before the end of its bucket, is in that bucket too
pub same_until : (t i o end u : ℤ) → pos 1 ≤ℤ i → end ≤ℤ bucket_start (bucket_of t i o +ℤ pos 1) i o → t ≤ℤ u → u <ℤ end → bucket_of u i o ≡ bucket_of t i o
same_until t i o end u h most from before =
    let b = bucket_is t i o h in
    let start = b.from_start in
    bucket_same u i o (bucket_of u i o) (bucket_of t i o) h (bucket_is u i o h) (record { from_start = omega (arith, ints); before_end = omega (arith, ints) })

all_taken : {X : Type 0} (P : X → Type 0) (f : X → Bool) (xs : List X) → ((x : X) → f x ≡ true → P x) → AllByRecursion P (take_while f xs)
all_taken P f [] h = tt
all_taken P f (x ∷ xs) h =
    subst (AllByRecursion P) (sym (take_while-cons f x xs))
    (elim (f x) as (λ b. f x ≡ b → AllByRecursion P (cond b (x ∷ take_while f xs) [])) [ true ↦ λ e. (h x e, all_taken P f xs h) | false ↦ λ e. tt ] refl)

pub bucket_taken : (r : Rule) (end : ℤ) (p : ℤ × ℤ) (ps taken left : List (ℤ × ℤ)) → ((t : ℤ) → p.0 ≤ℤ t → t <ℤ end → index_of r t ≡ index_of r p.0) → p.0 <ℤ end → IsTime p.0
    → taken ≡ take_while (λ q. is_within p.0 end q.0) (p ∷ ps) → p ∷ ps ≡ taken ++ left → TakesBucket r (index_of r p.0) taken (p ∷ ps) left
bucket_taken r end p ps taken left same after valid is points =
    let within : ℤ × ℤ → Bool = λ q. is_within p.0 end q.0 in
    let here : within p ≡ true = within_true p.0 end p.0 (omega (arith, ints)) after in
    let first : taken ≡ p ∷ take_while within ps = is ∙ take_while-cons within p ps ∙ ap (λ b. cond b (p ∷ take_while within ps) []) here in
    record {
      points = points;
      each = subst (AllByRecursion (λ (q : ℤ × ℤ). index_of r q.0 ≡ index_of r p.0)) (sym is)
          (all_taken (λ (q : ℤ × ℤ). index_of r q.0 ≡ index_of r p.0) within (p ∷ ps) (λ q e. let b = and_parts _ _ e in same q.0 (le_from _ _ b.0) (lt_from _ _ b.1)));
      some = (p, subst (Among p) (sym first) (inl refl), valid);
    }

pub fewer_left : (r : Rule) (index : ℤ) (taken all left : List (ℤ × ℤ)) → TakesBucket r index taken all left → length left < length all
fewer_left r index [] all left h = absurd h.some.1
fewer_left r index (p ∷ taken) all left h =
    let n : length all ≡ length (p ∷ taken) + length left = ap length h.points ∙ length-append (p ∷ taken) left in
    omega (arith, n)
