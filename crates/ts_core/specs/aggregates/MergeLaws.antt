-- Merging aggregates is associative and commutative, the empty one is neutral, and counts add up. (Own rules.)
use Rattle.std.proofs.Common.{◌≡◌, refl, ap, zero-add, add_comm, add_assoc, Option, Some, None}
use Rattle.std.specs.Cmp.{int_cmp_total}
use Rattle.std.proofs.lemmas.Map.Lookups.{exact_signed}
use Rattle.std.proofs.Math.IntN.{+ℤ_assoc, +ℤ_comm, +ℤ_idl}
use Rattle.ts_core.specs.declared.aggregates.aggregate.Extremes.{Extremes}
use Rattle.ts_core.specs.aggregates.Partials.{PartialLaws}
use Rattle.ts_core.specs.aggregates.Aggregates.{empty_aggregate, aggregate_of_one, extremes_of_both, merged_extremes, merged}
use Rattle.ts_core.specs.aggregates.OrderLaws.{lesser_comm, lesser_assoc, exact_down, down_total, early_total, late_total, exact_early, exact_late}

extremes_of_both_comm : (x y : Extremes) → extremes_of_both x y ≡ extremes_of_both y x
extremes_of_both_comm x y =
    let p = lesser_comm int_cmp_total exact_signed x.min y.min in
    let q = lesser_comm down_total exact_down x.max y.max in
    let r = lesser_comm early_total exact_early x.first y.first in
    let s = lesser_comm late_total exact_late x.last y.last in
    λ i. record { min = p i; max = q i; first = r i; last = s i }

extremes_of_both_assoc : (x y z : Extremes)
    → extremes_of_both (extremes_of_both x y) z ≡ extremes_of_both x (extremes_of_both y z)
extremes_of_both_assoc x y z =
    let p = lesser_assoc int_cmp_total exact_signed x.min y.min z.min in
    let q = lesser_assoc down_total exact_down x.max y.max z.max in
    let r = lesser_assoc early_total exact_early x.first y.first z.first in
    let s = lesser_assoc late_total exact_late x.last y.last z.last in
    λ i. record { min = p i; max = q i; first = r i; last = s i }

merged_extremes_comm : (x y : Option Extremes) → merged_extremes x y ≡ merged_extremes y x
merged_extremes_comm None None = refl
merged_extremes_comm None (Some y) = refl
merged_extremes_comm (Some x) None = refl
merged_extremes_comm (Some x) (Some y) = ap Some (extremes_of_both_comm x y)

merged_extremes_assoc : (x y z : Option Extremes)
    → merged_extremes (merged_extremes x y) z ≡ merged_extremes x (merged_extremes y z)
merged_extremes_assoc None y z = refl
merged_extremes_assoc (Some x) None z = refl
merged_extremes_assoc (Some x) (Some y) None = refl
merged_extremes_assoc (Some x) (Some y) (Some z) = ap Some (extremes_of_both_assoc x y z)

pub aggregate_laws : PartialLaws empty_aggregate aggregate_of_one merged (λ a. a.count)
aggregate_laws = record {
  unit = λ x. let p = zero-add x.count in
      let q = +ℤ_idl x.sum in
      λ i. record { count = p i; sum = q i; extremes = x.extremes };
  comm = λ x y. let p = add_comm x.count y.count in
      let q = +ℤ_comm x.sum y.sum in
      let r = merged_extremes_comm x.extremes y.extremes in
      λ i. record { count = p i; sum = q i; extremes = r i };
  assoc = λ x y z. let p = add_assoc x.count y.count z.count in
      let q = +ℤ_assoc x.sum y.sum z.sum in
      let r = merged_extremes_assoc x.extremes y.extremes z.extremes in
      λ i. record { count = p i; sum = q i; extremes = r i };
  count_empty = refl;
  count_single = λ t v. refl;
  count_merge = λ x y. refl;
}
