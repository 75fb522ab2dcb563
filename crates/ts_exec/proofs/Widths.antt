-- The number of buckets of a query; a moment of its range is in one of them.
use Rattle.std.proofs.Common.{◌≡◌, ℕ, zero, suc, ◌+◌, ◌<◌, ℤ, pos, ◌+ℤ◌, ◌-ℤ◌, ◌≤ℤ◌, ◌<ℤ◌, length, min, cond, [], refl, sym, ◌∙◌, ap, subst, arith}
use Rattle.std.proofs.lemmas.Int.{ints}
use Rattle.ts_core.specs.queries.Queries.{Query}
use Rattle.ts_core.specs.queries.Answers.{at_least_none, numbers_from, bucket_in}
use Rattle.ts_core.proofs.aggregates.BucketsOrder.{bucket_le}
use Rattle.ts_core.proofs.queries.BucketsInRange.{at_least_none-is}
use Rattle.ts_core.proofs.lists.Comparisons.{lt_true}
use Rattle.ts_exec.specs.RowParts.{bucket_grid, row_index_at}
use Rattle.ts_exec.specs.GroupTables.{width}

length_numbers : (k : ℤ) (n : ℕ) → length (numbers_from k n) ≡ n
length_numbers k zero = refl
length_numbers k (suc n) = ap suc (length_numbers (k +ℤ pos 1) n)

pub width-some : (q : Query) (d : ℕ) → pos 1 ≤ℤ q.interval → q.from <ℤ q.to → d ≡ min (at_least_none (bucket_in q (q.to -ℤ pos 1) -ℤ bucket_in q q.from)) 18446744073709551615 → d < 18446744073709551615 → d + 1 ≡ width q
width-some q d h l e f =
    let z : ℤ = bucket_in q (q.to -ℤ pos 1) -ℤ bucket_in q q.from in
    let up = bucket_le q.from (q.to -ℤ pos 1) q.interval q.offset h (omega (arith, ints)) in
    let low : pos (at_least_none z) ≡ z = at_least_none-is z (omega (arith, ints)) in
    let more : pos (at_least_none (z +ℤ pos 1)) ≡ z +ℤ pos 1 = at_least_none-is (z +ℤ pos 1) (omega (arith, ints)) in
    let there : d ≡ at_least_none z = omega arith in
    let n : d + 1 ≡ at_least_none (z +ℤ pos 1) = omega (arith, ints) in
    n ∙ sym (ap (λ b. length (cond b (numbers_from (bucket_in q q.from) (at_least_none (z +ℤ pos 1))) [])) (lt_true q.from q.to l) ∙ length_numbers (bucket_in q q.from) (at_least_none (z +ℤ pos 1)))

pub row_index-within : (q : Query) (t : ℤ) → pos 1 ≤ℤ q.interval → q.from ≤ℤ t → t <ℤ q.to → row_index_at (bucket_grid q) t < width q
row_index-within q t h l u =
    let first : ℤ = bucket_in q q.from in
    let k : ℤ = bucket_in q t in
    let z : ℤ = bucket_in q (q.to -ℤ pos 1) -ℤ first in
    let low = bucket_le q.from t q.interval q.offset h l in
    let high = bucket_le t (q.to -ℤ pos 1) q.interval q.offset h (omega (arith, ints)) in
    let p : pos (row_index_at (bucket_grid q) t) ≡ k -ℤ first = at_least_none-is (k -ℤ first) (omega (arith, ints)) in
    let more : pos (at_least_none (z +ℤ pos 1)) ≡ z +ℤ pos 1 = at_least_none-is (z +ℤ pos 1) (omega (arith, ints)) in
    let within : row_index_at (bucket_grid q) t < at_least_none (z +ℤ pos 1) = omega (arith, ints) in
    let some : q.from <ℤ q.to = omega (arith, ints) in
    subst (λ n. row_index_at (bucket_grid q) t < n) (sym (ap (λ b. length (cond b (numbers_from first (at_least_none (z +ℤ pos 1))) [])) (lt_true q.from q.to some) ∙ length_numbers first (at_least_none (z +ℤ pos 1)))) within
