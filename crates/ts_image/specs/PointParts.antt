-- Points that the code reads: the value of one; and those of a column, which are put into a column as long as they can
-- be, and listed from then on. (Own rules.)
use Rattle.std.specs.Prelude.{◌≡◌, ◌⊎◌, ◌≤ℤ◌, ◌<ℤ◌, ℤ, List, [], ◌∷◌}
use Rattle.std.specs.List.{AllByRecursion}
use Rattle.ts_core.specs.facts.Times.{least_time, IsTime}
use Rattle.ts_core.specs.lists.Members.{Among}
use Rattle.ts_raw.specs.Columns.{AreTimed}

abbrev pub point_of : ℤ × ℤ → ℤ × ℤ
point_of p = (p.0, p.1)

-- a point at this time is put into the column
pub record IsNextPoint (last : ℤ) (others : List (ℤ × ℤ)) (t : ℤ) : Type 0 where
  pub valid : IsTime t
  pub later : last <ℤ t
  pub first : others ≡ []

-- a point at this time can't follow the column's last one
abbrev pub IsOther : ℤ → ℤ → Type 0
IsOther last t = (t ≤ℤ last) ⊎ (IsTime t → ⊥)

abbrev pub IsFirstOther : ℤ → List (ℤ × ℤ) → Type 0
IsFirstOther last [] = Unit {0}
IsFirstOther last (p ∷ ps) = IsOther last p.0

-- the column's points are valid, up to its last time, and the first of the others can't follow them
pub record AreParted (points : List (ℤ × ℤ)) (last : ℤ) (others : List (ℤ × ℤ)) : Type 0 where
  pub timed : AreTimed points
  pub before : AllByRecursion (λ (p : ℤ × ℤ). p.0 ≤ℤ last) points
  pub reached : (last <ℤ least_time) ⊎ ((v : ℤ) × Among (last, v) points)
  pub apart : IsFirstOther last others
