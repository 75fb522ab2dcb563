-- The counting query: one bucket, which starts where the range does.
use Rattle.std.proofs.Common.{◌≡◌, ◌∙◌, ◌≤◌, ℤ, pos, ◌+ℤ◌, ◌-ℤ◌, ◌*ℤ◌, ◌≤ℤ◌, ◌<ℤ◌, arith, sym, ap, subst, List, [], ◌∷◌, length, Bool, true, cond}
use Rattle.std.proofs.Math.IntN.{zero-*ℤ}
use Rattle.std.proofs.lemmas.Int.{ints}
use Rattle.ts_core.specs.aggregates.Buckets.{IsBucketOf, bucket_of, bucket_start}
use Rattle.ts_core.specs.facts.Times.{least_time}
use Rattle.ts_core.specs.queries.Queries.{Query}
use Rattle.ts_core.specs.queries.Answers.{at_least_none, numbers_from, bucket_in, buckets_in}
use Rattle.ts_core.proofs.aggregates.BucketsOrder.{bucket_same, bucket_is, one_more}
use Rattle.ts_core.proofs.lists.Comparisons.{lt_true}
use Rattle.ts_ql.specs.BucketLimits.{IsLimited}

-- each time of a range is in its first bucket if that is as long as the range
pub in_first : (a b i t : ℤ) → i ≡ b -ℤ a → a ≤ℤ t → t <ℤ b → bucket_of t i a ≡ pos 0
in_first a b i t e from before =
    let one : pos 1 ≤ℤ i = omega (arith, ints) in
    let none : pos 0 *ℤ i ≡ pos 0 = zero-*ℤ i in
    let next : (pos 0 +ℤ pos 1) *ℤ i ≡ (pos 0 *ℤ i) +ℤ i = one_more (pos 0) i in
    let here : IsBucketOf t i a (pos 0) = record { from_start = omega (arith, ints); before_end = omega (arith, ints) } in
    bucket_same t i a (bucket_of t i a) (pos 0) one (bucket_is t i a one) here

pub first_start : (i a : ℤ) → bucket_start (pos 0) i a ≡ a
first_start i a = let none : pos 0 *ℤ i ≡ pos 0 = zero-*ℤ i in omega (arith, ints)

-- a query whose range is its one bucket
pub record IsOneBucket (q : Query) : Type 0 where
  pub some : q.from <ℤ q.to
  pub interval : q.interval ≡ q.to -ℤ q.from
  pub offset : q.offset ≡ q.from

pub in_one : (q : Query) (t : ℤ) → IsOneBucket q → q.from ≤ℤ t → t <ℤ q.to → bucket_in q t ≡ pos 0
in_one q t is from before = subst (λ (o : ℤ). bucket_of t q.interval o ≡ pos 0) (sym is.offset) (in_first q.from q.to q.interval t is.interval from before)

pub one_bucket : (q : Query) → IsOneBucket q → buckets_in q ≡ pos 0 ∷ []
one_bucket q is =
    let some = is.some in
    let first = in_one q q.from is (omega (arith, ints)) some in
    let last = in_one q (q.to -ℤ pos 1) is (omega (arith, ints)) (omega (arith, ints)) in
    let buckets : ℤ → ℤ → Bool → List ℤ = λ k l b. cond b (numbers_from k (at_least_none ((l -ℤ k) +ℤ pos 1))) [] in
    ap (λ b. buckets (bucket_in q q.from) (bucket_in q (q.to -ℤ pos 1)) b) (lt_true q.from q.to some)
    ∙ ap (λ k. buckets k (bucket_in q (q.to -ℤ pos 1)) true) first
    ∙ ap (λ l. buckets (pos 0) l true) last

pub one_start : (q : Query) → IsOneBucket q → bucket_start (pos 0) q.interval q.offset ≡ q.from
one_start q is = first_start q.interval q.offset ∙ is.offset

pub one_limited : (q : Query) → IsOneBucket q → least_time ≤ℤ q.from → IsLimited q
one_limited q is least =
    let some = is.some in
    let interval = is.interval in
    let first = in_one q q.from is (omega (arith, ints)) some in
    record {
      query = record { interval = omega (arith, ints); range = omega (arith, ints) };
      start = λ l. subst (λ (k : ℤ). least_time ≤ℤ bucket_start k q.interval q.offset) (sym first) (subst (λ (s : ℤ). least_time ≤ℤ s) (sym (one_start q is)) least);
      few = subst (λ (ks : List ℤ). length ks ≤ 10000) (sym (one_bucket q is)) (omega arith);
    }
