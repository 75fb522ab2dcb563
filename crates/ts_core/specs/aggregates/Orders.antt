-- The lesser of two by an order, and the orders of values and points. A point is a time with a value. (Own rules.)
use Rattle.std.specs.Prelude.{ℤ, if◌then◌else◌}
use Rattle.std.specs.declared.cmp.Ordering.{Ordering}
use Rattle.std.specs.Ordering.{ordering_then, int_cmp, is_gt}

-- the first, unless it comes after the second
abbrev pub lesser : {K : Type 0} → (K → K → Ordering) → K → K → K
lesser R a b = if is_gt (R a b) then b else a

-- greater values first
abbrev pub down_cmp : ℤ → ℤ → Ordering
down_cmp x y = int_cmp y x

-- earlier times first, and at the same time greater values first
abbrev pub early_cmp : ℤ × ℤ → ℤ × ℤ → Ordering
early_cmp x y = ordering_then (int_cmp x.0 y.0) (down_cmp x.1 y.1)

-- later times first, and at the same time greater values first
abbrev pub late_cmp : ℤ × ℤ → ℤ × ℤ → Ordering
late_cmp x y = ordering_then (down_cmp x.0 y.0) (down_cmp x.1 y.1)
