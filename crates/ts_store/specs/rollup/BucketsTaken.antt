-- Points that are taken a bucket at a time. (Own rules.)
use Rattle.std.specs.Prelude.{◌≡◌, ℤ, List, ◌++◌}
use Rattle.std.specs.List.{AllByRecursion}
use Rattle.ts_core.specs.lists.Members.{Among}
use Rattle.ts_core.specs.facts.Times.{IsTime}
use Rattle.ts_core.specs.settings.Settings.{Rule}
use Rattle.ts_core.specs.store.Marks.{index_of}

-- points are taken from the front, all in the bucket with this index, at least one of them, which is at a valid time
pub record TakesBucket (r : Rule) (index : ℤ) (taken all left : List (ℤ × ℤ)) : Type 0 where
  pub points : all ≡ taken ++ left
  pub each : AllByRecursion (λ (p : ℤ × ℤ). index_of r p.0 ≡ index) taken
  pub some : (p : ℤ × ℤ) × Among p taken × IsTime p.0
