-- A point of a block, and the bytes before and after it. (Own rule.)
use Rattle.std.specs.Prelude.{◌≡◌, ℕ, ◌+◌, ◌<◌, ◌≤◌, ◌==◌, ℤ, int_lt, ◌<ℤ◌, ◌≤ℤ◌, Bool, true, false, List, [], ◌∷◌, ◌++◌, length, if◌then◌else◌}
use Rattle.std.specs.Ordering.{int_cmp}
use Rattle.std.specs.FinMap.{put}
use Rattle.std.specs.List.{AllByRecursion}
use Rattle.ts_block.specs.declared.place.Place.{Place}
use Rattle.ts_block.specs.Varints.{number_text}
use Rattle.ts_block.specs.NumbersRead.{number_at}
use Rattle.ts_block.specs.Blocks.{times_of, values_of, head_text, step_between, steps_text, values_text, IsBlockOf}
use Rattle.ts_block.specs.Appending.{values_start, last_time}
use Rattle.ts_block.specs.Decoding.{number_or}

-- the steps after the first time
abbrev pub steps_of : List (ℤ × ℤ) → List ℕ
steps_of [] = []
steps_of (p ∷ ps) = steps_text p.0 (times_of ps)

-- the first time, or t if there are no points
abbrev pub first_or : ℤ → List (ℤ × ℤ) → ℤ
first_or t [] = t
first_or t (p ∷ ps) = p.0

-- the points are cut before one: the first that isn't before the time, or the one at the index `limit`
pub record IsPlace (points : List (ℤ × ℤ)) (limit : ℕ) (time : ℤ) (place : Place) : Type 0 where
  pub earlier : List (ℤ × ℤ)
  pub point : ℤ × ℤ
  pub later : List (ℤ × ℤ)
  pub cut : points ≡ earlier ++ point ∷ later
  pub index_is : place.index ≡ length earlier
  pub bound : place.index ≤ limit
  pub time_is : place.time ≡ point.0
  pub first_is : place.first ≡ first_or point.0 earlier
  pub before_is : place.before ≡ last_time earlier
  pub earlier_steps : place.earlier_steps.now ≡ steps_of earlier
  pub later_steps : place.later_steps.now ≡ steps_text point.0 (times_of later)
  pub earlier_values : place.earlier_values.now ≡ values_text (values_of earlier)
  pub later_values : place.later_values.now ≡ values_text (values_of (point ∷ later))
  pub passed : AllByRecursion (λ (p : ℤ × ℤ). p.0 <ℤ time) earlier
  pub reached : place.index < limit → time ≤ℤ point.0

-- ---- the parts of a block with a point at this time

-- the head, and the steps up to the time
abbrev pub text_to : ℕ → Place → ℤ → List ℕ
text_to later place time = if place.index == 0 then head_text later time
    else head_text later place.first ++ (place.earlier_steps.now ++ number_text (step_between place.before time))

-- the number of points after the first one
abbrev pub count_with : ℕ → Place → ℤ → ℕ
count_with later place time = if int_lt time place.time then later + 1 else later

abbrev pub steps_after : Place → ℤ → List ℕ
steps_after place time = if int_lt time place.time
    then number_text (step_between time place.time) ++ place.later_steps.now else place.later_steps.now

abbrev pub values_after : Place → ℤ → List ℕ
values_after place time =
    if int_lt time place.time then place.later_values.now else (number_or (number_at place.later_values.now)).1

-- ---- copied blocks

-- one point more
pub record IsAdded (points : List (ℤ × ℤ)) (p : ℤ × ℤ) (new : List (ℤ × ℤ)) : Type 0 where
  pub earlier : List (ℤ × ℤ)
  pub later : List (ℤ × ℤ)
  pub without : points ≡ earlier ++ later
  pub with : new ≡ earlier ++ p ∷ later

-- the block of the points with this one inserted, or replaced
pub record IsBlockWith (points : List (ℤ × ℤ)) (p : ℤ × ℤ) (text : List ℕ) (values : ℕ) (more : Bool) : Type 0 where
  pub block : IsBlockOf text (put int_cmp p.0 p.1 points)
  pub values_at : values ≡ values_start (put int_cmp p.0 p.1 points)
  pub last_is : last_time (put int_cmp p.0 p.1 points) ≡ last_time points
  pub added : more ≡ true → IsAdded points p (put int_cmp p.0 p.1 points)
  pub same : more ≡ false → length (put int_cmp p.0 p.1 points) ≡ length points

-- the block of these points
pub record IsPart (points : List (ℤ × ℤ)) (text : List ℕ) (values : ℕ) (last : ℤ) : Type 0 where
  pub block : IsBlockOf text points
  pub values_at : values ≡ values_start points
  pub last_is : last ≡ last_time points
