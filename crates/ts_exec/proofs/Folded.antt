-- RowParts: points merged into a part, one by one.
use Rattle.std.proofs.Common.{◌≡◌, ℕ, suc, ◌+◌, ◌<◌, ◌≤◌, ◌^◌, ℤ, pos, ◌+ℤ◌, List, [], ◌∷◌, ◌++◌, length, get_or, take, Some, refl, sym, ◌∙◌, ap, arith, subst, SFits, to_z, of_z, to_z-of_z}
use Rattle.std.proofs.lemmas.List.{take_more, length-take-le}
use Rattle.std.proofs.lemmas.List.Sums.{fold-append}
use Rattle.std.proofs.lemmas.Int.{ints, fits_signed_from_abs}
use Rattle.std.specs.Int.{w128}
use Rattle.ts_core.specs.aggregates.SoundLaws.{IsSound-merged}
use Rattle.ts_core.specs.aggregates.Aggregates.{Aggregate, merged, sum_of_points, IsSpread}
use Rattle.ts_exec.specs.declared.aggregate_parts.AggregateParts.{AggregateParts}
use Rattle.ts_exec.specs.declared.aggregate_parts.AggregateParts.TheVariants.{CountAlone, CountAndSum, Bounds, Whole}
use Rattle.ts_exec.specs.RowParts.{wide_extremes, count_part, part_of_point, part_with}

pub point_count : (parts : AggregateParts) (t v : ℤ) → (part_of_point parts t v).count ≡ 1
point_count CountAlone t v = refl
point_count CountAndSum t v = refl
point_count Bounds t v = refl
point_count Whole t v = refl

pub merged_count : (parts : AggregateParts) (part : Aggregate) (ps : List (ℤ × ℤ)) → (part_with parts part ps).count ≡ part.count + length ps
merged_count parts part [] = omega arith
merged_count parts part (p ∷ ps) =
    let one = point_count parts p.0 p.1 in
    let rest = merged_count parts (merged part (part_of_point parts p.0 p.1)) ps in
    omega arith

-- points of which the count alone is kept
pub merged-counted : (n : ℕ) (ps : List (ℤ × ℤ)) → part_with CountAlone (count_part n) ps ≡ count_part (n + length ps)
merged-counted n [] = ap count_part (omega arith)
merged-counted n (p ∷ ps) =
    let same : (n + 1) + length ps ≡ n + suc (length ps) = omega arith in
    merged-counted (n + 1) ps ∙ ap count_part same

module _ (parts : AggregateParts) (part : Aggregate) (ps : List (ℤ × ℤ)) (i : ℕ) where
  pub merged-room : i < length ps → part.count + length ps ≤ 2 ^ 62 → (part_with parts part (take i ps)).count < 2 ^ 62
  merged-room within few =
      let count = merged_count parts part (take i ps) in
      let size : length (take i ps) ≡ i = length-take-le i ps (omega arith) in
      omega arith

  pub merged-more : (p : ℤ × ℤ) → i < length ps → p ≡ get_or ps i p → merged (part_with parts part (take i ps)) (part_of_point parts p.0 p.1) ≡ part_with parts part (take (i + 1) ps)
  merged-more p within read =
      let next : take (i + 1) ps ≡ take i ps ++ p ∷ [] = take_more ps i p within ∙ ap (λ (q : ℤ × ℤ). take i ps ++ q ∷ []) (sym read) in
      sym (ap (part_with parts part) next ∙ fold-append (λ (b : Aggregate) (q : ℤ × ℤ). merged b (part_of_point parts q.0 q.1)) part (take i ps) (p ∷ []))

-- points of which the count and the sum are kept
pub merged-summed : (n : ℕ) (s : ℤ) (ps : List (ℤ × ℤ)) → part_with CountAndSum (record { count = n; sum = s; extremes = Some wide_extremes }) ps ≡ record { count = n + length ps; sum = s +ℤ sum_of_points ps; extremes = Some wide_extremes }
merged-summed n s [] =
    let count : n ≡ n + 0 = omega arith in
    let sum : s ≡ s +ℤ pos 0 = omega (arith, ints) in
    ap (λ k. record { count = k; sum = s; extremes = Some wide_extremes }) count ∙ ap (λ z. record { count = n + 0; sum = z; extremes = Some wide_extremes }) sum
merged-summed n s (p ∷ ps) =
    let count : (n + 1) + length ps ≡ n + suc (length ps) = omega arith in
    let sum : (s +ℤ p.1) +ℤ sum_of_points ps ≡ s +ℤ (p.1 +ℤ sum_of_points ps) = omega (arith, ints) in
    merged-summed (n + 1) (s +ℤ p.1) ps
    ∙ ap (λ k. record { count = k; sum = (s +ℤ p.1) +ℤ sum_of_points ps; extremes = Some wide_extremes }) count
    ∙ ap (λ z. record { count = n + suc (length ps); sum = z; extremes = Some wide_extremes }) sum

-- two parts of which the count and the sum are kept
module _ (n m : ℕ) (s t : ℤ) (one : IsSpread n s wide_extremes) (other : IsSpread m t wide_extremes) (few : n + m ≤ 2 ^ 62) where
  both : IsSpread (n + m) (s +ℤ t) wide_extremes
  both = IsSound-merged (record { count = n; sum = s; extremes = Some wide_extremes }) (record { count = m; sum = t; extremes = Some wide_extremes }) one other

  -- their sums are added without overflow
  pub summed-both : to_z w128 (of_z w128 (to_z w128 (of_z w128 s) +ℤ to_z w128 (of_z w128 t))) ≡ s +ℤ t
  summed-both =
      let low = one.at_least in
      let high = one.at_most in
      let other_low = other.at_least in
      let other_high = other.at_most in
      let s_fits : SFits w128 s = fits_signed_from_abs w128 s (omega (arith, ints)) in
      let t_fits : SFits w128 t = fits_signed_from_abs w128 t (omega (arith, ints)) in
      let all_fits : SFits w128 (s +ℤ t) = fits_signed_from_abs w128 (s +ℤ t) (omega (arith, ints)) in
      rw (to_z-of_z s_fits, to_z-of_z t_fits) (to_z-of_z all_fits)

  pub spread-both : IsSpread (n + m) (to_z w128 (of_z w128 (to_z w128 (of_z w128 s) +ℤ to_z w128 (of_z w128 t)))) wide_extremes
  spread-both = subst (λ z. IsSpread (n + m) z wide_extremes) (sym summed-both) both
