-- Removing a part from an aggregate, and when the rest is determined. (Own rules.)
use Rattle.std.specs.Prelude.{◌≡◌, ◌⊎◌, ◌-◌, ℤ, ◌-ℤ◌, ◌<ℤ◌, Option, Some, None}
use Rattle.std.specs.declared.cmp.Ordering.TheVariants.{Less}
use Rattle.ts_core.specs.declared.aggregates.aggregate.Extremes.{Extremes}
use Rattle.ts_core.specs.aggregates.Orders.{early_cmp, late_cmp}
use Rattle.ts_core.specs.aggregates.Aggregates.{Aggregate, IsSound}

-- merged with the part it gives the whole, and it is the only possible aggregate that does
pub record IsOnlyRest {M : Type 0} (IsPossible : M → Type 0) (merge : M → M → M) (whole part rest : M) : Type 0 where
  pub possible : IsPossible rest
  pub gives : merge part rest ≡ whole
  pub only : (other : M) → IsPossible other → merge part other ≡ whole → other ≡ rest

-- every aggregate of points is possible: the empty one, that of one point, and two possible ones merged; others may be
-- possible too
pub record PossibleLaws {M : Type 0} (IsPossible : M → Type 0)
    (empty : M) (single : ℤ → ℤ → M) (merge : M → M → M) : Type 0 where
  pub of_none : IsPossible empty
  pub of_one : (t v : ℤ) → IsPossible (single t v)
  pub of_both : (x y : M) → IsPossible x → IsPossible y → IsPossible (merge x y)

-- the part has no extreme of the whole: each is strictly beyond the part's
pub record AreBeyond (whole part : Extremes) : Type 0 where
  pub min : whole.min <ℤ part.min
  pub max : part.max <ℤ whole.max
  pub first : early_cmp whole.first part.first ≡ Less
  pub last : late_cmp whole.last part.last ≡ Less

-- the same for optional extremes
abbrev pub BothAreBeyond : Option Extremes → Option Extremes → Type 0
BothAreBeyond (Some whole) (Some part) = AreBeyond whole part
BothAreBeyond (Some whole) None = ⊥
BothAreBeyond None part = ⊥

-- if so, the rest has all extremes of the whole
abbrev pub inner_rest : Aggregate → Aggregate → Aggregate
inner_rest whole part =
    record { count = whole.count - part.count; sum = whole.sum -ℤ part.sum; extremes = whole.extremes }

-- the part has no extreme of the whole, and the rest is sound
pub record LiesInside (part whole : Aggregate) : Type 0 where
  pub beyond : BothAreBeyond whole.extremes part.extremes
  pub possible : IsSound (inner_rest whole part)

-- the rest is determined: the part is empty, or it is the whole, or it has no extreme of the whole
abbrev pub IsDetermined : Aggregate → Aggregate → Type 0
IsDetermined whole part = (part.count ≡ 0) ⊎ ((part ≡ whole) ⊎ LiesInside part whole)
