-- Points of which the count alone is kept: they may be added in any order, and those of one bucket as one part.
use Rattle.std.proofs.Common.{◌≡◌, ℕ, zero, suc, ◌+◌, ◌≤◌, ◌^◌, ℤ, ◌≤ℤ◌, ◌<ℤ◌, Bool, true, false, List, [], ◌∷◌, length, get_or, min, refl, sym, ◌∙◌, ap, cond, arith}
use Rattle.std.proofs.lemmas.Int.{ints}
use Rattle.std.proofs.lemmas.List.{length-set}
use Rattle.ts_core.specs.facts.Facts.{is_within}
use Rattle.ts_core.specs.aggregates.Aggregates.{Aggregate, empty_aggregate}
use Rattle.ts_core.proofs.store.Cuts.{Part}
use Rattle.ts_core.proofs.plans.AssembledRows.{within-part}
use Rattle.ts_core.proofs.queries.Boundaries.{within_parts}
use Rattle.ts_store.specs.read.PointsRead.{points_between}
use Rattle.ts_exec.specs.declared.aggregate_parts.AggregateParts.TheVariants.{CountAlone}
use Rattle.ts_exec.specs.RowParts.{BucketGrid, row_index_at, count_part, with_part, with_counted, with_point_parts}
use Rattle.ts_exec.proofs.Shares.{part-saturated}
use Rattle.ts_exec.proofs.Runs.{part-joined}

abbrev one : Aggregate
one = count_part 1

-- no point is in an empty range
pub counted-none : (a b : ℤ) (ps : List (ℤ × ℤ)) → b ≤ℤ a → points_between a b ps ≡ []
counted-none a b [] l = refl
counted-none a b (p ∷ ps) l =
    let xs : List (ℤ × ℤ) = points_between a b ps in
    elim (is_within a b p.0) as (λ z. is_within a b p.0 ≡ z → cond z (p ∷ xs) xs ≡ []) [
      | true ↦ λ e. let inside = within_parts a b p.0 e in let i = inside.0 in let j = inside.1 in absurd (omega (arith, ints))
      | false ↦ λ e. counted-none a b ps l
    ] refl

-- ---- in any order

swapped : (i j : ℕ) (a : Aggregate) (rows : List Aggregate) → with_part i a (with_part j a rows) ≡ with_part j a (with_part i a rows)
swapped i j a [] = refl
swapped zero zero a (x ∷ rows) = refl
swapped zero (suc j) a (x ∷ rows) = refl
swapped (suc i) zero a (x ∷ rows) = refl
swapped (suc i) (suc j) a (x ∷ rows) = ap (λ (ys : List Aggregate). x ∷ ys) (swapped i j a rows)

module _ (g : BucketGrid) where
  abbrev counting : List (ℤ × ℤ) → List Aggregate → List Aggregate
  counting ps rows = with_point_parts CountAlone g ps rows

  first_last : (i : ℕ) (ps : List (ℤ × ℤ)) (rows : List Aggregate) → with_part i one (counting ps rows) ≡ counting ps (with_part i one rows)
  first_last i [] rows = refl
  first_last i (p ∷ ps) rows = first_last i ps (with_part (row_index_at g p.0) one rows) ∙ ap (λ (r : List Aggregate). counting ps r) (swapped i (row_index_at g p.0) one rows)

  pub counted-parts : (a m b : ℤ) (ps : List (ℤ × ℤ)) (rows : List Aggregate) → a ≤ℤ m → m ≤ℤ b → counting (points_between m b ps) (counting (points_between a m ps) rows) ≡ counting (points_between a b ps) rows
  counted-parts a m b [] rows l u = refl
  counted-parts a m b (p ∷ ps) rows l u =
      let xs : List (ℤ × ℤ) = points_between a m ps in
      let ys : List (ℤ × ℤ) = points_between m b ps in
      let zs : List (ℤ × ℤ) = points_between a b ps in
      let next : List Aggregate = with_part (row_index_at g p.0) one rows in
      step (is_within a m p.0) (is_within m b p.0) (is_within a b p.0) xs ys zs (within-part a m b p.0 l u) (counted-parts a m b ps rows l u) (counted-parts a m b ps next l u)
    where
      step : (x y z : Bool) (xs ys zs : List (ℤ × ℤ)) → Part x y z → counting ys (counting xs rows) ≡ counting zs rows
          → counting ys (counting xs (with_part (row_index_at g p.0) one rows)) ≡ counting zs (with_part (row_index_at g p.0) one rows)
          → counting (cond y (p ∷ ys) ys) (counting (cond x (p ∷ xs) xs) rows) ≡ counting (cond z (p ∷ zs) zs) rows
      step true false true xs ys zs h e f = f
      step false true true xs ys zs h e f = ap (λ (r : List Aggregate). counting ys r) (first_last (row_index_at g p.0) xs rows) ∙ f
      step false false false xs ys zs h e f = e
      step true true z xs ys zs h e f = absurd h
      step true false false xs ys zs h e f = absurd h
      step false true false xs ys zs h e f = absurd h
      step false false true xs ys zs h e f = absurd h

  -- ---- in one bucket

  module _ (a b : ℤ) (row_index : ℕ) (here : (t : ℤ) → a ≤ℤ t → t <ℤ b → row_index ≡ min (row_index_at g t) 18446744073709551615) where
    -- a point of the bucket
    placed : (t : ℤ) (rows : List Aggregate) → is_within a b t ≡ true → length rows ≤ 18446744073709551615 → with_part (row_index_at g t) one rows ≡ with_part row_index one rows
    placed t rows e short =
        let inside = within_parts a b t e in
        sym (part-saturated (row_index_at g t) one rows short) ∙ ap (λ i. with_part i one rows) (sym (here t inside.0 inside.1))

    -- points of the bucket after others of it
    joined : (ps : List (ℤ × ℤ)) (k : ℕ) (rows : List Aggregate) → length rows ≤ 18446744073709551615 → (get_or rows row_index empty_aggregate).count + (k + length (points_between a b ps)) ≤ 2 ^ 62
        → counting (points_between a b ps) (with_part row_index (count_part k) rows) ≡ with_part row_index (count_part (k + length (points_between a b ps))) rows
    joined [] k rows short bounded = ap (λ n. with_part row_index (count_part n) rows) (omega arith)
    joined (p ∷ ps) k rows short bounded =
        let xs : List (ℤ × ℤ) = points_between a b ps in
        elim (is_within a b p.0) as (λ z. is_within a b p.0 ≡ z → (get_or rows row_index empty_aggregate).count + (k + length (cond z (p ∷ xs) xs)) ≤ 2 ^ 62
        → counting (cond z (p ∷ xs) xs) (with_part row_index (count_part k) rows) ≡ with_part row_index (count_part (k + length (cond z (p ∷ xs) xs))) rows) [
          | true ↦ λ e fits.
              let old : List Aggregate = with_part row_index (count_part k) rows in
              let size : length old ≡ length rows = length-set rows row_index _ in
              let more : with_part (row_index_at g p.0) one old ≡ with_part row_index (count_part (k + 1)) rows = placed p.0 old e (omega arith) ∙ part-joined row_index (count_part k) one rows (omega arith) in
              let same : (k + 1) + length xs ≡ k + suc (length xs) = omega arith in
              ap (λ (r : List Aggregate). counting xs r) more ∙ joined ps (k + 1) rows short (omega arith) ∙ ap (λ n. with_part row_index (count_part n) rows) same
          | false ↦ λ e fits. joined ps k rows short fits
        ] refl bounded

    -- the points of the bucket are added as their number
    pub counted-bucket : (ps : List (ℤ × ℤ)) (rows : List Aggregate) → length rows ≤ 18446744073709551615 → (get_or rows row_index empty_aggregate).count + length (points_between a b ps) ≤ 2 ^ 62
        → counting (points_between a b ps) rows ≡ with_counted row_index (length (points_between a b ps)) rows
    counted-bucket [] rows short bounded = refl
    counted-bucket (p ∷ ps) rows short bounded =
        let xs : List (ℤ × ℤ) = points_between a b ps in
        elim (is_within a b p.0) as (λ z. is_within a b p.0 ≡ z → (get_or rows row_index empty_aggregate).count + length (cond z (p ∷ xs) xs) ≤ 2 ^ 62
        → counting (cond z (p ∷ xs) xs) rows ≡ with_counted row_index (length (cond z (p ∷ xs) xs)) rows) [
          | true ↦ λ e fits.
              let same : 1 + length xs ≡ suc (length xs) = omega arith in
              ap (λ (r : List Aggregate). counting xs r) (placed p.0 rows e short) ∙ joined ps 1 rows short (omega arith) ∙ ap (λ n. with_part row_index (count_part n) rows) same
          | false ↦ λ e fits. counted-bucket ps rows short fits
        ] refl bounded
