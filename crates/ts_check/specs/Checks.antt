-- The result of a check of a plan: acceptance, or the first error. (Own rules.)
use Rattle.std.specs.Prelude.{◌≡◌, ℕ, pos, ◌≤ℤ◌, List, Option, Some, None, Result, Ok, Err}
use Rattle.std.specs.List.{AllByRecursion}
use Rattle.ts_core.specs.settings.Settings.{Settings}
use Rattle.ts_core.specs.store.Marks.{Marks}
use Rattle.ts_core.specs.plans.Pieces.{Piece, MarkedRule, QueryContext, IsValid}
use Rattle.ts_core.specs.declared.plans.fault.PieceFault.{PieceFault}
use Rattle.ts_core.specs.plans.Faults.{first_fault}
use Rattle.ts_ql.specs.Selects.{Select}
use Rattle.ts_check.specs.declared.fault.CheckError.{CheckError}
use Rattle.ts_check.specs.declared.fault.CheckError.TheVariants as errors

-- the intervals of the query and of all rules are at least 1 nanosecond
pub record HasPositiveIntervals (t : QueryContext) : Type 0 where
  pub query : pos 1 ≤ℤ t.query.interval
  pub rules : AllByRecursion (λ (r : MarkedRule). pos 1 ≤ℤ r.rule.interval) t.rules

-- a query with the pieces of a plan, under these settings and marks
pub record Plan : Type 0 where
  pub settings : Settings
  pub marks : Marks
  pub select : Select
  pub pieces : List Piece

-- the pieces cover all points of the query
abbrev pub IsValidPlan : Plan → Type 0
IsValidPlan p = IsValid p.settings p.marks p.select.query p.pieces

-- the first error of a plan, with the index of its piece
abbrev pub fault_of : Plan → Option (PieceFault × ℕ)
fault_of p = first_fault p.settings p.marks p.select.query p.pieces

-- the result of a check: this plan, exactly if it is valid, or its first error; out of memory only if it is valid
abbrev pub IsCheckOf : Plan → Result Plan CheckError → Type 0
IsCheckOf p (Ok checked) = (checked ≡ p) × IsValidPlan p
IsCheckOf p (Err (errors.Fault fault)) = (fault_of p ≡ Some (fault.kind, fault.piece)) × (IsValidPlan p → ⊥)
IsCheckOf p (Err errors.OutOfMemory) = (fault_of p ≡ None) × IsValidPlan p
