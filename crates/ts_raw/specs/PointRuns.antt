-- Points that are read at once. (Own rule.)
use Rattle.std.specs.Prelude.{◌≡◌, ◌-◌, ◌<◌, ℤ, ◌<ℤ◌, ◌≤ℤ◌, List, length, get_or}

-- the first of the points is at `first`, which is before `end`; the last isn't
pub record IsInside (first end : ℤ) (points : List (ℤ × ℤ)) : Type 0 where
  pub some : 0 < length points
  pub first_is : (d : ℤ × ℤ) → (get_or points 0 d).0 ≡ first
  pub after_first : first <ℤ end
  pub by_last : (d : ℤ × ℤ) → end ≤ℤ (get_or points (length points - 1) d).0
