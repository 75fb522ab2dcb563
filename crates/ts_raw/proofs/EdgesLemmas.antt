-- Points of a bucket, as those between its bounds.
use Rattle.std.proofs.Common.{◌≡◌, ℤ, pos, ◌+ℤ◌, ◌≤ℤ◌, int_eq, subst, List, filter}
use Rattle.std.proofs.lemmas.Bool.{and_parts, and_from}
use Rattle.std.proofs.lemmas.Bool.Decides.{Decides-int_eq}
use Rattle.ts_core.specs.aggregates.Buckets.{IsBucketOf, bucket_of, bucket_start}
use Rattle.ts_core.specs.facts.Facts.{is_within}
use Rattle.ts_core.proofs.aggregates.BucketsOrder.{bucket_is, bucket_same}
use Rattle.ts_core.proofs.lists.Comparisons.{le_from, le_true, lt_from, lt_true, same_bool}

-- a time lies between the starts of a bucket and of the next one just where the bucket is its own
pub inside_edges : (t i o k : ℤ) → pos 1 ≤ℤ i → is_within (bucket_start k i o) (bucket_start (k +ℤ pos 1) i o) t ≡ int_eq (bucket_of t i o) k
inside_edges t i o k h =
    same_bool (is_within (bucket_start k i o) (bucket_start (k +ℤ pos 1) i o) t) (int_eq (bucket_of t i o) k)
    (λ w.
    let b = and_parts _ _ w in
    let is : IsBucketOf t i o k = record { from_start = le_from _ _ b.0; before_end = lt_from _ _ b.1 } in
    (Decides-int_eq (bucket_of t i o) k).1 (bucket_same t i o (bucket_of t i o) k h (bucket_is t i o h) is))
    (λ e.
    let same : bucket_of t i o ≡ k = (Decides-int_eq (bucket_of t i o) k).0 e in
    let is : IsBucketOf t i o k = subst (IsBucketOf t i o) same (bucket_is t i o h) in
    and_from _ _ (le_true _ _ is.from_start) (lt_true _ _ is.before_end))

pub filter-inside : (i o k : ℤ) (points : List (ℤ × ℤ)) → pos 1 ≤ℤ i
    → filter (λ (p : ℤ × ℤ). is_within (bucket_start k i o) (bucket_start (k +ℤ pos 1) i o) p.0) points ≡ filter (λ (p : ℤ × ℤ). int_eq (bucket_of p.0 i o) k) points
filter-inside i o k points h = λ x. filter (λ (p : ℤ × ℤ). inside_edges p.0 i o k h x) points
