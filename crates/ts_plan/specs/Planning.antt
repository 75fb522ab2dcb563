-- Results of a planner. (Own rules.)
use Rattle.std.specs.Prelude.{List, Result, Ok, Err}
use Rattle.ts_core.specs.settings.Settings.{Settings}
use Rattle.ts_core.specs.store.Marks.{Marks}
use Rattle.ts_core.specs.queries.Queries.{Query}
use Rattle.ts_core.specs.plans.Pieces.{Piece, IsValid}
use Rattle.ts_core.specs.plans.Plans.{IsPlan, IsTooMany}
use Rattle.ts_plan.specs.declared.fault.PlanError.{PlanError}
use Rattle.ts_plan.specs.declared.fault.PlanError.TheVariants as errors
use Rattle.ts_plan.specs.declared.fault.PlanFault.TheVariants.{NoPlan, TooManyBuckets}

-- a plan of the query: the one that the definitions determine, which is valid
pub record IsPlanned (s : Settings) (m : Marks) (q : Query) (pieces : List Piece) : Type 0 where
  pub searched : IsTooMany s m q → ⊥
  pub determined : IsPlan s m q pieces
  pub valid : IsValid s m q pieces

-- there is no plan: no list of pieces is valid
pub record IsWithoutPlan (s : Settings) (m : Marks) (q : Query) : Type 0 where
  pub searched : IsTooMany s m q → ⊥
  pub none : (pieces : List Piece) → IsValid s m q pieces → ⊥

-- a planner's error for a query
abbrev pub Refuses : Settings → Marks → Query → PlanError → Type 0
Refuses s m q (errors.Fault TooManyBuckets) = IsTooMany s m q
Refuses s m q (errors.Fault NoPlan) = IsWithoutPlan s m q
Refuses s m q errors.OutOfMemory = IsTooMany s m q → ⊥

-- a planner's result for a query
abbrev pub IsPlanFor : Settings → Marks → Query → Result (List Piece) PlanError → Type 0
IsPlanFor s m q (Ok pieces) = IsPlanned s m q pieces
IsPlanFor s m q (Err error) = Refuses s m q error
