-- Queries within the limits on their buckets.
use Rattle.std.proofs.Common.{◌≡◌, ℕ, zero, suc, ◌≤◌, ℤ, pos, negsuc, ◌+ℤ◌, ◌-ℤ◌, ◌≤ℤ◌, ◌<ℤ◌, int_le, int_lt, arith, refl, sym, ap, subst, [], length, Bool, true, false, cond, Some, None}
use Rattle.std.proofs.lemmas.Int.{ints}
use Rattle.ts_core.specs.facts.Times.{least_time}
use Rattle.ts_core.specs.queries.Queries.{Query}
use Rattle.ts_core.specs.queries.Answers.{at_least_none, numbers_from, bucket_in}
use Rattle.ts_core.proofs.lists.Comparisons.{lt_from}
use Rattle.ts_core.specs.declared.aggregates.bucket.Buckets.{Buckets}
use Rattle.ts_ql.specs.declared.query.Span.{Span}
use Rattle.ts_ql.specs.BucketLimits.{IsLimited}
use Rattle.ts_ql.specs.QueryFaults.{Fault}
use Rattle.ts_ql.specs.Statements.{first_start, buckets_between, span_fault}

length_numbers : (k : ℤ) (n : ℕ) → length (numbers_from k n) ≡ n
length_numbers k zero = refl
length_numbers k (suc n) = ap suc (length_numbers (k +ℤ pos 1) n)

at_most : (z : ℤ) (n : ℕ) → z ≤ℤ pos n → at_least_none z ≤ n
at_most (pos m) n h = omega (arith, ints)
at_most (negsuc m) n h = omega arith

few_from : (k l : ℤ) → (l -ℤ k) <ℤ pos 10000 → length (numbers_from k (at_least_none ((l -ℤ k) +ℤ pos 1))) ≤ 10000
few_from k l h =
    let z : ℤ = (l -ℤ k) +ℤ pos 1 in
    let up : z ≤ℤ pos 10000 = omega (arith, ints) in
    subst (λ (n : ℕ). n ≤ 10000) (sym (length_numbers k (at_least_none z))) (at_most z 10000 up)

few_if : (b : Bool) (k l : ℤ) → (b ≡ true → (l -ℤ k) <ℤ pos 10000) → length (cond b (numbers_from k (at_least_none ((l -ℤ k) +ℤ pos 1))) []) ≤ 10000
few_if true k l h = few_from k l (h refl)
few_if false k l h = omega arith

-- if no test found a fault, the two tests of buckets failed
none_found : (empty early many : Bool) (f g : Fault) → cond empty None (cond early (Some f) (cond many (Some g) None)) ≡ None → empty ≡ false → (early ≡ false) × (many ≡ false)
none_found true early many f g e h = cc
none_found false true many f g e h = cc
none_found false false true f g e h = cc
none_found false false false f g e h = (refl, refl)

not_lt : (x y : ℤ) → int_lt x y ≡ false → y ≤ℤ x
not_lt x y h = grind (arith, ints)

not_le : (x y : ℤ) → int_le x y ≡ false → y <ℤ x
not_le x y h = grind (arith, ints)

le_not : (x y : ℤ) → y <ℤ x → int_le x y ≡ false
le_not x y h = grind (arith, ints)

-- a non-empty range without a fault is within the limits
within : (start : ℕ) (b : Buckets) (span : Span) → span_fault start b span ≡ None → span.from <ℤ span.to → (least_time ≤ℤ first_start span.from b) × (buckets_between span.from span.to b <ℤ pos 10000)
unfolding span_fault
within start b span e some =
    let tests = none_found (int_le span.to span.from) (int_lt (first_start span.from b) least_time) (int_le (pos 10000) (buckets_between span.from span.to b)) _ _ e (le_not span.to span.from some) in
    (not_lt (first_start span.from b) least_time tests.0, not_le (pos 10000) (buckets_between span.from span.to b) tests.1)

-- a query over a range without a fault is within the limits
pub limited : (q : Query) (start : ℕ) (span : Span) → pos 1 ≤ℤ q.interval → span.from ≤ℤ span.to → q.from ≡ span.from → q.to ≡ span.to
    → span_fault start (record { interval = q.interval; offset = q.offset }) span ≡ None → IsLimited q
limited q start span one range from to none =
    let b : Buckets = record { interval = q.interval; offset = q.offset } in
    let inside = within start b span none in
    let some : q.from <ℤ q.to → span.from <ℤ span.to = λ l. subst (λ (z : ℤ). span.from <ℤ z) to (subst (λ (z : ℤ). z <ℤ q.to) from l) in
    record {
      query = record { interval = one; range = subst (λ (z : ℤ). z ≤ℤ q.to) (sym from) (subst (λ (z : ℤ). span.from ≤ℤ z) (sym to) range) };
      start = λ l. subst (λ (z : ℤ). least_time ≤ℤ first_start z b) (sym from) (inside (some l)).0;
      few = few_if (int_lt q.from q.to) (bucket_in q q.from) (bucket_in q (q.to -ℤ pos 1))
          (λ t. let far = (inside (some (lt_from q.from q.to t))).1 in subst (λ (z : ℤ). buckets_between z q.to b <ℤ pos 10000) (sym from) (subst (λ (z : ℤ). buckets_between span.from z b <ℤ pos 10000) (sym to) far));
    }
