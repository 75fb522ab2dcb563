-- The buckets of a query: exactly those with a moment of the range, each once, in order.
use Rattle.std.proofs.Common.{◌≡◌, ◌↔◌, ℕ, ℤ, pos, negsuc, ◌+ℤ◌, ◌-ℤ◌, ◌*ℤ◌, ◌≤ℤ◌, ◌<ℤ◌, int_lt, arith, refl, sym, ap, ◌∙◌, suc, zero, subst, List, [], ◌∷◌, inl, inr, Bool, true, false, cond}
use Rattle.std.specs.Int.Signed.{≤ℤ_refl}
use Rattle.std.proofs.lemmas.Int.{ints, by_lt_z}
use Rattle.ts_core.specs.lists.Members.{Among, AllDistinct}
use Rattle.ts_core.specs.queries.Queries.{Query}
use Rattle.ts_core.specs.queries.Answers.{at_least_none, numbers_from, bucket_in, buckets_in}
use Rattle.ts_core.proofs.aggregates.BucketsOrder.{bucket_is, bucket_le, times_le, bucket_of-start}
use Rattle.ts_core.proofs.lists.Comparisons.{lt_from, lt_true}

-- each is less than those after it
abbrev pub AreRising : List ℤ → Type 0
AreRising [] = Unit {0}
AreRising (k ∷ ks) = ((j : ℤ) → Among j ks → k <ℤ j) × AreRising ks

pub AreRising-distinct : (ks : List ℤ) → AreRising ks → AllDistinct ks
AreRising-distinct [] r = tt
AreRising-distinct (k ∷ ks) r = (λ h. let l = r.0 k h in absurd (omega (arith, ints)), AreRising-distinct ks r.1)

numbers_there : (k j : ℤ) (n : ℕ) → k ≤ℤ j → j <ℤ (k +ℤ pos n) → Among j (numbers_from k n)
numbers_there k j zero l u = absurd (omega (arith, ints))
numbers_there k j (suc n) l u = by_lt_z k j (λ m. inr (numbers_there (k +ℤ pos 1) j n (omega (arith, ints)) (omega (arith, ints)))) (λ m. inl (omega (arith, ints)))

numbers_between : (k j : ℤ) (n : ℕ) → Among j (numbers_from k n) → (k ≤ℤ j) × (j <ℤ (k +ℤ pos n))
numbers_between k j zero h = absurd h
numbers_between k j (suc n) (inl e) = (omega (arith, ints), omega (arith, ints))
numbers_between k j (suc n) (inr h) = let r = numbers_between (k +ℤ pos 1) j n h in let low = r.0 in let high = r.1 in (omega (arith, ints), omega (arith, ints))

numbers_rise : (k : ℤ) (n : ℕ) → AreRising (numbers_from k n)
numbers_rise k zero = tt
numbers_rise k (suc n) = (λ j h. let r = (numbers_between (k +ℤ pos 1) j n h).0 in omega (arith, ints), numbers_rise (k +ℤ pos 1) n)

pub at_least_none-is : (z : ℤ) → pos 0 ≤ℤ z → pos (at_least_none z) ≡ z
at_least_none-is (pos n) h = refl
at_least_none-is (negsuc n) h = absurd (omega (arith, ints))

-- some moment of the range lies in bucket k
pub record MeetsRange (q : Query) (k : ℤ) : Type 0 where
  pub moment : ℤ
  pub from : q.from ≤ℤ moment
  pub before : moment <ℤ q.to
  pub inside : bucket_in q moment ≡ k

abbrev buckets_if : Query → Bool → List ℤ
buckets_if q b = cond b (numbers_from (bucket_in q q.from) (at_least_none ((bucket_in q (q.to -ℤ pos 1) -ℤ bucket_in q q.from) +ℤ pos 1))) []

number_is : (q : Query) → pos 1 ≤ℤ q.interval → q.from <ℤ q.to → bucket_in q q.from +ℤ pos (at_least_none ((bucket_in q (q.to -ℤ pos 1) -ℤ bucket_in q q.from) +ℤ pos 1)) ≡ bucket_in q (q.to -ℤ pos 1) +ℤ pos 1
number_is q h l =
    let m = bucket_le q.from (q.to -ℤ pos 1) q.interval q.offset h (omega (arith, ints)) in
    let e = at_least_none-is ((bucket_in q (q.to -ℤ pos 1) -ℤ bucket_in q q.from) +ℤ pos 1) (omega (arith, ints)) in
    ap (λ z. bucket_in q q.from +ℤ z) e ∙ omega (arith, ints)

-- a bucket from that of the first moment to that of the last one has a moment of the range
some_moment : (q : Query) (k : ℤ) → pos 1 ≤ℤ q.interval → q.from <ℤ q.to → bucket_in q q.from ≤ℤ k → k ≤ℤ bucket_in q (q.to -ℤ pos 1) → MeetsRange q k
some_moment q k h l a b =
    let s : ℤ = (k *ℤ q.interval) +ℤ q.offset in
    let e : bucket_in q s ≡ k = bucket_of-start k q.interval q.offset h in
    by_lt_z s q.from
    (λ m. let c = bucket_le s q.from q.interval q.offset h (omega (arith, ints)) in record { moment = q.from; from = ≤ℤ_refl q.from; before = l; inside = omega (arith, ints) })
    (λ m.
    let t = times_le k (bucket_in q (q.to -ℤ pos 1)) q.interval h b in
    let u = (bucket_is (q.to -ℤ pos 1) q.interval q.offset h).from_start in
    record { moment = s; from = m; before = omega (arith, ints); inside = e })

meets_from : (q : Query) (k : ℤ) → pos 1 ≤ℤ q.interval → Among k (buckets_in q) → MeetsRange q k
meets_from q k h =
    elim (int_lt q.from q.to) as (λ b. int_lt q.from q.to ≡ b → Among k (buckets_if q b) → MeetsRange q k) [
      | true ↦ λ e a.
          let l = lt_from q.from q.to e in
          let n : ℕ = at_least_none ((bucket_in q (q.to -ℤ pos 1) -ℤ bucket_in q q.from) +ℤ pos 1) in
          let low = (numbers_between (bucket_in q q.from) k n a).0 in
          let high = (numbers_between (bucket_in q q.from) k n a).1 in
          let e2 = number_is q h l in
          let up : k <ℤ (bucket_in q (q.to -ℤ pos 1) +ℤ pos 1) = subst (λ z. k <ℤ z) e2 high in
          some_moment q k h l low (omega (arith, ints))
      | false ↦ λ e a. absurd a
    ] refl

meets_to : (q : Query) (k : ℤ) → pos 1 ≤ℤ q.interval → MeetsRange q k → Among k (buckets_in q)
meets_to q k h r =
    let f = r.from in
    let b = r.before in
    let l : q.from <ℤ q.to = omega (arith, ints) in
    let low = bucket_le q.from r.moment q.interval q.offset h f in
    let high = bucket_le r.moment (q.to -ℤ pos 1) q.interval q.offset h (omega (arith, ints)) in
    let i = r.inside in
    let below : k <ℤ (bucket_in q (q.to -ℤ pos 1) +ℤ pos 1) = omega (arith, ints) in
    let n : ℕ = at_least_none ((bucket_in q (q.to -ℤ pos 1) -ℤ bucket_in q q.from) +ℤ pos 1) in
    let up : k <ℤ (bucket_in q q.from +ℤ pos n) = subst (λ z. k <ℤ z) (sym (number_is q h l)) below in
    subst (λ x. Among k (buckets_if q x)) (sym (lt_true q.from q.to l)) (numbers_there (bucket_in q q.from) k n (omega (arith, ints)) up)

-- a bucket is listed exactly where some moment of the range lies in it
pub buckets_in-meet : (q : Query) → pos 1 ≤ℤ q.interval → (k : ℤ) → Among k (buckets_in q) ↔ MeetsRange q k
buckets_in-meet q h k = (meets_from q k h, meets_to q k h)

-- in order
pub buckets_in-rise : (q : Query) → AreRising (buckets_in q)
buckets_in-rise q =
    elim (int_lt q.from q.to) as (λ b. AreRising (buckets_if q b)) [
      | true ↦ numbers_rise (bucket_in q q.from) (at_least_none ((bucket_in q (q.to -ℤ pos 1) -ℤ bucket_in q q.from) +ℤ pos 1))
      | false ↦ tt
    ]

-- each once
pub buckets_in-once : (q : Query) → AllDistinct (buckets_in q)
buckets_in-once q = AreRising-distinct (buckets_in q) (buckets_in-rise q)
