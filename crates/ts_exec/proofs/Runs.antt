-- Runs of points: folding them and merging once equals merging each.
use Rattle.std.proofs.Common.{◌≡◌, ℕ, zero, suc, ◌+◌, ◌≤◌, ◌^◌, ℤ, ◌≤ℤ◌, ◌<ℤ◌, Bool, true, false, List, [], ◌∷◌, length, get_or, min, refl, sym, ◌∙◌, ap, ap₂, subst, cond, arith}
use Rattle.std.proofs.lemmas.Int.{ints}
use Rattle.std.proofs.lemmas.List.{length-set}
use Rattle.ts_core.specs.aggregates.Aggregates.{Aggregate, empty_aggregate, merged, merged_within}
use Rattle.ts_core.specs.aggregates.MergeLaws.{aggregate_laws}
use Rattle.ts_core.proofs.aggregates.AggregatesLemmas.{merged_within-fits}
use Rattle.ts_exec.specs.declared.aggregate_parts.AggregateParts.{AggregateParts}
use Rattle.ts_exec.specs.RowParts.{BucketGrid, IsRun, row_index_at, part_of_point, with_part}
use Rattle.ts_exec.proofs.Folded.{point_count}
use Rattle.ts_exec.proofs.Shares.{part-saturated}

-- where both fit, they may be merged first
merged_first : (x a b : Aggregate) → (x.count + a.count) + b.count ≤ 2 ^ 62 → merged_within b (merged_within a x) ≡ merged_within (merged a b) x
merged_first x a b h =
    ap (merged_within b) (merged_within-fits a x (omega arith))
    ∙ merged_within-fits b (merged x a) (omega arith)
    ∙ aggregate_laws.assoc x a b
    ∙ sym (merged_within-fits (merged a b) x (omega arith))

pub part-joined : (i : ℕ) (a b : Aggregate) (rows : List Aggregate) → ((get_or rows i empty_aggregate).count + a.count) + b.count ≤ 2 ^ 62 → with_part i b (with_part i a rows) ≡ with_part i (merged a b) rows
part-joined i a b [] h = refl
part-joined zero a b (x ∷ rows) h = ap (λ (y : Aggregate). y ∷ rows) (merged_first x a b h)
part-joined (suc i) a b (x ∷ rows) h = ap (λ (ys : List Aggregate). x ∷ ys) (part-joined i a b rows h)

-- a run of one point
pub run-begun : (parts : AggregateParts) (t v : ℤ) (g : BucketGrid) (rows : List Aggregate) (left : ℕ) (low high : ℤ) (row_index : ℕ) (part : Aggregate) (can_grow : Bool)
    → ((u : ℤ) → low ≤ℤ u → u <ℤ high → row_index ≡ min (row_index_at g u) 18446744073709551615)
    → (can_grow ≡ true → (get_or rows row_index empty_aggregate).count + (left + 1) ≤ 2 ^ 62) → part ≡ part_of_point parts t v → IsRun g rows left low (cond can_grow high low) row_index part
run-begun parts t v g rows left low high row_index part true within bounded is =
    let one : part.count ≡ 1 = ap (λ (a : Aggregate). a.count) is ∙ point_count parts t v in
    let fits = bounded refl in
    record { within = within; bounded = λ l. omega arith; few = omega arith }
run-begun parts t v g rows left low high row_index part false within bounded is =
    let one : part.count ≡ 1 = ap (λ (a : Aggregate). a.count) is ∙ point_count parts t v in
    record { within = λ u a b. absurd (omega (arith, ints)); bounded = λ l. absurd (omega (arith, ints)); few = omega arith }

-- one more point of a run
pub run-joined : (parts : AggregateParts) (t v : ℤ) (g : BucketGrid) (rows : List Aggregate) (left : ℕ) (low high : ℤ) (row_index : ℕ) (part : Aggregate)
    → IsRun g rows (suc left) low high row_index part → low ≤ℤ t → t <ℤ high → IsRun g rows left low high row_index (merged part (part_of_point parts t v))
run-joined parts t v g rows left low high row_index part run a b =
    let one : (part_of_point parts t v).count ≡ 1 = point_count parts t v in
    let fits = run.bounded (omega (arith, ints)) in
    record { within = run.within; bounded = λ l. omega arith; few = omega arith }

pub run-first : (parts : AggregateParts) (t v : ℤ) (g : BucketGrid) (rows : List Aggregate) (row_index : ℕ) (part : Aggregate)
    → length rows ≤ 18446744073709551615 → row_index ≡ min (row_index_at g t) 18446744073709551615 → part ≡ part_of_point parts t v → with_part row_index part rows ≡ with_part (row_index_at g t) (part_of_point parts t v) rows
run-first parts t v g rows row_index part short there is =
    ap₂ (λ i (a : Aggregate). with_part i a rows) there is ∙ part-saturated (row_index_at g t) (part_of_point parts t v) rows short

-- a point merged into a run's part, which is then merged into its row, is merged into the row
pub run-point : (parts : AggregateParts) (t v : ℤ) (g : BucketGrid) (rows : List Aggregate) (left : ℕ) (low high : ℤ) (row_index : ℕ) (part : Aggregate)
    → length rows ≤ 18446744073709551615 → IsRun g rows (suc left) low high row_index part → low ≤ℤ t → t <ℤ high
    → with_part row_index (merged part (part_of_point parts t v)) rows ≡ with_part (row_index_at g t) (part_of_point parts t v) (with_part row_index part rows)
run-point parts t v g rows left low high row_index part short run a b =
    let one : Aggregate = part_of_point parts t v in
    let old : List Aggregate = with_part row_index part rows in
    let single : one.count ≡ 1 = point_count parts t v in
    let fits = run.bounded (omega (arith, ints)) in
    sym (part-joined row_index part one rows (omega arith))
    ∙ ap (λ i. with_part i one old) (run.within t a b)
    ∙ part-saturated (row_index_at g t) one old (subst (λ n. n ≤ 18446744073709551615) (sym (length-set rows row_index _)) short)
