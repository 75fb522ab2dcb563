-- Points from a time on, in the order of time.
use Rattle.std.proofs.Common.{◌≡◌, ℕ, ℤ, ◌≤◌, true, false, List, length, drop, filter, sym, ◌∙◌, ap, subst, arith, slice_index_or, int_lt, int_le}
use Rattle.std.proofs.lemmas.Int.{ints}
use Rattle.std.specs.Ordering.{int_cmp}
use Rattle.std.specs.FinMap.{from_sorted}
use Rattle.std.specs.FinMap.Entries.{is_sorted-where_key}
use Rattle.ts_core.proofs.lists.Windows.{filter-rest}
use Rattle.ts_raw.specs.Columns.{AreTimed, points_from}
use Rattle.ts_raw.specs.PlainColumns.{IsRising, IsStartOf}
use Rattle.ts_raw.proofs.PointMaps.{kept_map, timed-where}

below_mark : (handle t : ℤ) → int_lt t handle ≡ true → int_le handle t ≡ false
below_mark handle t p = grind (arith, ints)

at_mark : (handle t : ℤ) → int_lt t handle ≡ false → int_le handle t ≡ true
at_mark handle t p = grind (arith, ints)

pub drop-before : (points : List (ℤ × ℤ)) (handle : ℤ) (i : ℕ) → IsStartOf handle points i → i ≤ length points → drop i points ≡ filter (λ (p : ℤ × ℤ). int_le handle p.0) points
drop-before points handle i f l =
    sym (filter-rest (λ (p : ℤ × ℤ). int_le handle p.0) points i
    (λ k d m n. below_mark handle (slice_index_or points k d).0 (f.0 k d m n))
    (λ k d m n. at_mark handle (slice_index_or points k d).0 (f.1 k d m n)) l)

-- dropping what is before the mark
pub rising-drop : (points : List (ℤ × ℤ)) → IsRising points → (handle : ℤ) (i : ℕ) → IsStartOf handle points i → i ≤ length points → IsRising (drop i points)
rising-drop points s handle i f l = subst IsRising (sym (drop-before points handle i f l)) (is_sorted-where_key int_cmp (int_le handle) points s)

pub timed-drop : (points : List (ℤ × ℤ)) → AreTimed points → (handle : ℤ) (i : ℕ) → IsStartOf handle points i → i ≤ length points → AreTimed (drop i points)
timed-drop points h handle i f l = subst AreTimed (sym (drop-before points handle i f l)) (timed-where (λ (p : ℤ × ℤ). int_le handle p.0) points h)

pub from_sorted-drop : (points : List (ℤ × ℤ)) → IsRising points → (handle : ℤ) (i : ℕ) → IsStartOf handle points i → i ≤ length points → from_sorted {R = int_cmp} (drop i points) ≡ points_from (from_sorted points) handle
from_sorted-drop points s handle i f l = ap (from_sorted {R = int_cmp}) (drop-before points handle i f l) ∙ kept_map points s (int_le handle)
