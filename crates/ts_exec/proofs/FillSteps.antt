-- Rows filled one by one, which are the filled rows; their starts fit in 128 bits.
use Rattle.std.proofs.Common.{◌≡◌, ℕ, suc, ◌-◌, ◌*◌, ◌≤◌, ◌^◌, ℤ, pos, negsuc, neg_ℤ, ◌+ℤ◌, ◌*ℤ◌, ◌≤ℤ◌, ◌<ℤ◌, true, false, cond, not, List, [], ◌∷◌, map, filter, length, Option, Some, None, SFits, w64, refl, ◌∙◌, ap, ap₂, arith}
use Rattle.std.specs.Int.{w128}
use Rattle.std.proofs.Math.IntN.{suc_ℤ-*ℤ, pos-*ℤ-pos}
use Rattle.std.proofs.lemmas.Nat.{mul-le}
use Rattle.std.proofs.lemmas.Int.{ints, fits_signed_from_abs}
use Rattle.ts_core.specs.declared.queries.fill.Fill.{Fill}
use Rattle.ts_core.specs.declared.queries.fill.Fill.TheVariants.{Null as NullFill, None as NoneFill, Previous as PreviousFill, Number as NumberFill}
use Rattle.ts_core.specs.declared.queries.value.Function.{Function}
use Rattle.ts_core.specs.facts.Facts.{Text}
use Rattle.ts_core.specs.aggregates.Aggregates.{Aggregate}
use Rattle.ts_core.specs.aggregates.Buckets.{bucket_start}
use Rattle.ts_core.specs.queries.Queries.{Query}
use Rattle.ts_core.specs.queries.Answers.{Row, Group, bucket_in}
use Rattle.ts_core.specs.queries.Fills.{FilledRow, FilledGroup, is_empty, has_data, shown, numbered, repeated, last_data, with_previous, number_value, filled_rows, filled}
use Rattle.ts_core.proofs.aggregates.BucketsOrder.{one_more}
use Rattle.ts_exec.specs.RowParts.{BucketGrid, bucket_grid}
use Rattle.ts_exec.specs.GroupTables.{rows_from, group_with}
use Rattle.ts_ql.specs.Selects.{Projection, Select}
use Rattle.ts_exec.specs.declared.filled.RowContent.TheVariants.{Data, Number}
use Rattle.ts_exec.specs.Fillings.{functions_of, rows_at, EndsFit, AreNear, group_at, content_row, row_content, content_rows, rows_following}

-- ---- one by one

all_shown : (fs : List Function) (e : Option Aggregate) (rows : List Row) → rows_following NullFill fs e rows ≡ map (shown fs) rows
all_shown fs e [] = refl
all_shown fs e (r ∷ rows) = ap (λ (more : List FilledRow). shown fs r ∷ more) (all_shown fs (last_data e r) rows)

some_shown : (fs : List Function) (e : Option Aggregate) (rows : List Row) → rows_following NoneFill fs e rows ≡ map (shown fs) rows
some_shown fs e [] = refl
some_shown fs e (r ∷ rows) = ap (λ (more : List FilledRow). shown fs r ∷ more) (some_shown fs (last_data e r) rows)

repeated_is : (fs : List Function) (o : Option Aggregate) (own : Aggregate) (start : ℤ) → content_row (row_content PreviousFill o own) fs start ≡ repeated fs o start
repeated_is fs None own start = refl
repeated_is fs (Some a) own start = refl

all_repeated : (fs : List Function) (e : Option Aggregate) (rows : List Row) → rows_following PreviousFill fs e rows ≡ with_previous fs e rows
all_repeated fs e [] = refl
all_repeated fs e (r ∷ rows) = ap₂ (λ (x : FilledRow) (more : List FilledRow). x ∷ more) (repeated_is fs (last_data e r) r.aggregate r.start) (all_repeated fs (last_data e r) rows)

numbered_is : (fs : List Function) (n : ℤ) (r : Row) → content_row (cond (is_empty r.aggregate) (Number n) (Data r.aggregate)) fs r.start ≡ numbered fs n r
numbered_is fs n r =
    elim (is_empty r.aggregate) as (λ b. content_row (cond b (Number n) (Data r.aggregate)) fs r.start ≡ cond (not b) (shown fs r) (record { start = r.start; values = map (number_value n) fs })) [
      | true ↦ refl
      | false ↦ refl
    ]

all_numbered : (fs : List Function) (n : ℤ) (e : Option Aggregate) (rows : List Row) → rows_following (NumberFill n) fs e rows ≡ map (numbered fs n) rows
all_numbered fs n e [] = refl
all_numbered fs n e (r ∷ rows) = ap₂ (λ (x : FilledRow) (more : List FilledRow). x ∷ more) (numbered_is fs n r) (all_numbered fs n (last_data e r) rows)

pub rows-filled : (fill : Fill) (fs : List Function) (rows : List Row) → rows_following fill fs None (content_rows fill rows) ≡ filled_rows fill fs rows
rows-filled NullFill fs rows = all_shown fs None rows
rows-filled NoneFill fs rows = some_shown fs None (filter has_data rows)
rows-filled PreviousFill fs rows = all_repeated fs None rows
rows-filled (NumberFill n) fs rows = all_numbered fs n None rows

-- ---- where rows begin

times_low : (n : ℕ) (i : ℤ) → pos 0 ≤ℤ i → pos 0 ≤ℤ (pos n *ℤ i)
times_low n (pos i) h = rw pos-*ℤ-pos (omega (arith, ints))
times_low n (negsuc i) h = absurd (omega (arith, ints))

times_high : (n : ℕ) (i : ℤ) → pos 0 ≤ℤ i → SFits w64 i → n ≤ 18446744073709551615 → (pos n *ℤ i) <ℤ pos (2 ^ 127 - 2 ^ 64)
times_high n (pos i) h fits short =
    let below : i ≤ 9223372036854775807 = omega (arith, ints) in
    let product : n * i ≤ 18446744073709551615 * 9223372036854775807 = mul-le n i 18446744073709551615 9223372036854775807 short below in
    rw pos-*ℤ-pos (omega (arith, ints))
times_high n (negsuc i) h fits short = absurd (omega (arith, ints))

pub rows-at : (g : BucketGrid) (k : ℤ) (parts : List Aggregate) → rows_at g.interval ((k *ℤ g.interval) +ℤ g.offset) parts ≡ rows_from g k parts
rows-at g k [] = refl
rows-at g k (a ∷ parts) =
    let more = one_more k g.interval in
    let next : ((k *ℤ g.interval) +ℤ g.offset) +ℤ g.interval ≡ ((k +ℤ pos 1) *ℤ g.interval) +ℤ g.offset = omega (arith, ints) in
    ap (λ (rows : List Row). record { start = (k *ℤ g.interval) +ℤ g.offset; aggregate = a } ∷ rows) (ap (λ z. rows_at g.interval z parts) next ∙ rows-at g (k +ℤ pos 1) parts)

abbrev first_start : Query → ℤ
first_start q = bucket_start (bucket_in q q.from) q.interval q.offset

groups_at : (fill : Fill) (fs : List Function) (q : Query) (gs : List (List Text × List Aggregate)) → map (group_at fill fs q.interval (first_start q)) gs ≡ filled fill fs (map (group_with q) gs)
groups_at fill fs q [] = refl
groups_at fill fs q (g ∷ gs) =
    ap₂ (λ (x : FilledGroup) (more : List FilledGroup). x ∷ more)
    (ap (λ (rows : List Row). record { values = g.0; rows = filled_rows fill fs rows }) (rows-at (bucket_grid q) (bucket_in q q.from) g.1))
    (groups_at fill fs q gs)

pub groups-filled : (fill : Fill) (s : Select) (gs : List (List Text × List Aggregate)) (groups : List Group) (columns : List Projection) (interval begin : ℤ) → columns ≡ s.columns → interval ≡ s.query.interval → begin ≡ first_start s.query
    → map (group_with s.query) gs ≡ groups → map (group_at fill (functions_of columns) interval begin) gs ≡ filled fill (functions_of s.columns) groups
groups-filled fill s gs groups columns interval begin c i b e =
    (λ j. map (group_at fill (functions_of (c j)) (i j) (b j)) gs) ∙ groups_at fill (functions_of s.columns) s.query gs ∙ ap (filled fill (functions_of s.columns)) e

-- ---- where the rows of groups end

ends_fit : (interval start : ℤ) (parts : List Aggregate) → pos 0 ≤ℤ interval → neg_ℤ (pos (2 ^ 64)) ≤ℤ start → (start +ℤ (pos (length parts) *ℤ interval)) <ℤ pos (2 ^ 127) → EndsFit interval (rows_at interval start parts)
ends_fit interval start [] i low high = tt
ends_fit interval start (a ∷ parts) i low high =
    let n : ℕ = length parts in
    let more : pos (suc n) *ℤ interval ≡ (pos n *ℤ interval) +ℤ interval = suc_ℤ-*ℤ (pos n) interval in
    let none : pos 0 ≤ℤ (pos n *ℤ interval) = times_low n interval i in (
      fits_signed_from_abs w128 (start +ℤ interval) (omega (arith, ints)),
      ends_fit interval (start +ℤ interval) parts i (omega (arith, ints)) (omega (arith, ints)),
    )

pub ends-fit : (interval start : ℤ) (parts : List Aggregate) → AreNear start interval → SFits w64 interval → length parts ≤ 18446744073709551615 → EndsFit interval (rows_at interval start parts)
ends-fit interval start parts near fits short =
    let high = near.most in
    let all = times_high (length parts) interval near.forward fits short in
    ends_fit interval start parts near.forward near.least (omega (arith, ints))
