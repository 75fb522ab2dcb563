-- A bucket's edge, the bucket that starts there, and its edge.
use Rattle.std.proofs.Common.{◌≡◌, ℕ, ◌+◌, min, ℤ, pos, ◌+ℤ◌, ◌-ℤ◌, ◌≤ℤ◌, ◌<ℤ◌, arith, sym, ◌∙◌, ap, subst}
use Rattle.std.proofs.lemmas.Int.{ints}
use Rattle.ts_core.specs.aggregates.Buckets.{IsBucketOf, bucket_of}
use Rattle.ts_core.proofs.aggregates.BucketsOrder.{bucket_is, bucket_same, bucket_le, one_more}
use Rattle.ts_core.specs.queries.Answers.{at_least_none}
use Rattle.ts_core.proofs.queries.BucketsInRange.{at_least_none-is}
use Rattle.ts_exec.specs.RowParts.{BucketGrid, row_index_at, IsEnd}

-- the bucket that starts at an edge
module _ (g : BucketGrid) (high : ℤ) (row_index : ℕ) (h : pos 1 ≤ℤ g.interval) (later : g.from <ℤ high) (e : IsEnd g high row_index) where
  abbrev before : ℤ
  before = bucket_of (high -ℤ pos 1) g.interval g.offset

  bucket_within : (u : ℤ) → high ≤ℤ u → u <ℤ (high +ℤ g.interval) → bucket_of u g.interval g.offset ≡ before +ℤ pos 1
  bucket_within u l v =
      let i : ℤ = g.interval in
      let o : ℤ = g.offset in
      let last = bucket_is (high -ℤ pos 1) i o h in
      let last_end = last.before_end in
      let own : IsBucketOf high i o (before +ℤ pos 1) = subst (IsBucketOf high i o) e.start (bucket_is high i o h) in
      let own_start = own.from_start in
      let more = one_more (before +ℤ pos 1) i in
      bucket_same u i o (bucket_of u i o) (before +ℤ pos 1) h (bucket_is u i o h) (record { from_start = omega (arith, ints); before_end = omega (arith, ints) })

  pub next-guessed : (u : ℤ) → high ≤ℤ u → u <ℤ (high +ℤ g.interval) → min (row_index + 1) 18446744073709551615 ≡ min (row_index_at g u) 18446744073709551615
  next-guessed u l v =
      let i : ℤ = g.interval in
      let o : ℤ = g.offset in
      let first : ℤ = bucket_of g.from i o in
      let low = bucket_le g.from (high -ℤ pos 1) i o h (omega (arith, ints)) in
      let p : pos (row_index_at g (high -ℤ pos 1)) ≡ before -ℤ first = at_least_none-is (before -ℤ first) (omega (arith, ints)) in
      let is = bucket_within u l v in
      let k : ℤ = bucket_of u i o in
      let q : pos (row_index_at g u) ≡ k -ℤ first = at_least_none-is (k -ℤ first) (omega (arith, ints)) in
      let old = e.last in
      let one : row_index_at g u ≡ row_index_at g (high -ℤ pos 1) + 1 = omega (arith, ints) in
      omega arith

  pub next-end : IsEnd g (high +ℤ g.interval) (min (row_index + 1) 18446744073709551615)
  next-end =
      let i : ℤ = g.interval in
      let o : ℤ = g.offset in
      let k : ℤ = before +ℤ pos 1 in
      let end : ℤ = high +ℤ i in
      let last_is : bucket_of (end -ℤ pos 1) i o ≡ k = bucket_within (end -ℤ pos 1) (omega (arith, ints)) (omega (arith, ints)) in
      let last = bucket_is (high -ℤ pos 1) i o h in
      let last_end = last.before_end in
      let own : IsBucketOf high i o k = subst (IsBucketOf high i o) e.start (bucket_is high i o h) in
      let own_start = own.from_start in
      let more = one_more k i in
      let more2 = one_more (k +ℤ pos 1) i in
      let end_is : bucket_of end i o ≡ k +ℤ pos 1 =
      bucket_same end i o (bucket_of end i o) (k +ℤ pos 1) h (bucket_is end i o h) (record { from_start = omega (arith, ints); before_end = omega (arith, ints) }) in
      record {
        start = end_is ∙ ap (λ z. z +ℤ pos 1) (sym last_is);
        last = next-guessed (end -ℤ pos 1) (omega (arith, ints)) (omega (arith, ints));
      }

-- the edge of a bucket that was computed
pub span-end : (g : BucketGrid) (low high index : ℤ) (row_index : ℕ) → low <ℤ high → ((u : ℤ) → low ≤ℤ u → u <ℤ high → bucket_of u g.interval g.offset ≡ index)
    → bucket_of high g.interval g.offset ≡ index +ℤ pos 1 → row_index ≡ min (at_least_none (index -ℤ bucket_of g.from g.interval g.offset)) 18446744073709551615 → IsEnd g high row_index
span-end g low high index row_index some all next is =
    let last : bucket_of (high -ℤ pos 1) g.interval g.offset ≡ index = all (high -ℤ pos 1) (omega (arith, ints)) (omega (arith, ints)) in
    record {
      start = next ∙ ap (λ z. z +ℤ pos 1) (sym last);
      last = is ∙ ap (λ z. min (at_least_none (z -ℤ bucket_of g.from g.interval g.offset)) 18446744073709551615) (sym last);
    }
