-- The number of a field's values in a range of times, over all facts ever accepted. (Own rules.)
use Rattle.std.specs.Prelude.{◌≡◌, ℕ, ℤ, ◌-ℤ◌, List, length, filter, Result, Ok, Err, ⊤}
use Rattle.ts_core.specs.facts.Facts.{Text}
use Rattle.ts_core.specs.facts.Latest.{latest_of, count_of}
use Rattle.ts_core.specs.plans.Pieces.{Piece}
use Rattle.ts_core.specs.queries.Queries.{Query, matches}
use Rattle.ts_core.specs.settings.Settings.{Settings}
use Rattle.ts_core.specs.store.History.{History, settings_of}
use Rattle.ts_core.specs.store.Marks.{marks_of}
use Rattle.ts_plan.specs.Planning.{IsPlanFor}
use Rattle.ts_plan.specs.declared.fault.PlanError.{PlanError}
use Rattle.ts_plan.specs.declared.fault.PlanError.TheVariants as plans
use Rattle.ts_ql.specs.Counting.{count_select, IsInterval}
use Rattle.ts_reply.specs.declared.counting.CountError.{CountError}
use Rattle.ts_reply.specs.declared.counting.CountError.TheVariants as errors

-- a planner's result for the counting query
abbrev pub CountIsPlanned : Settings → History → Text → Text → ℤ → ℤ → Result (List Piece) PlanError → Type 0
CountIsPlanned opening h measurement field a b answer =
    IsInterval (b -ℤ a)
    × IsPlanFor (settings_of opening h) (marks_of opening h) (count_select measurement field a b).query answer

-- After a history, a count over a non-empty range has this result: if the counting query has a plan, the number of
-- matching facts ever accepted, of each id the latest. Planning and execution may run out of memory.
abbrev pub IsCount : Settings → History → Text → Text → ℤ → ℤ → Result ℕ CountError → Type 0
IsCount opening h measurement field a b (Ok n) =
    ((plan : List Piece) × CountIsPlanned opening h measurement field a b (Ok plan))
    × (n ≡ count_of h measurement field a b)
IsCount opening h measurement field a b (Err errors.BadRange) = IsInterval (b -ℤ a) → ⊥
IsCount opening h measurement field a b (Err (errors.NoPlan fault)) =
    CountIsPlanned opening h measurement field a b (Err (plans.Fault fault))
IsCount opening h measurement field a b (Err errors.OutOfMemory) = IsInterval (b -ℤ a)

-- the same of the facts that match a query, whose range is never too long
abbrev pub IsCounted : Settings → History → Query → Result ℕ CountError → Type 0
IsCounted opening h q (Ok n) =
    ((plan : List Piece) × IsPlanFor (settings_of opening h) (marks_of opening h) q (Ok plan))
    × (n ≡ length (filter (matches q) (latest_of h)))
IsCounted opening h q (Err errors.BadRange) = ⊥
IsCounted opening h q (Err (errors.NoPlan fault)) =
    IsPlanFor (settings_of opening h) (marks_of opening h) q (Err (plans.Fault fault))
IsCounted opening h q (Err errors.OutOfMemory) = ⊤
