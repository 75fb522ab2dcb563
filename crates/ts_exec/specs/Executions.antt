-- Results of executing a checked plan. (Own rules.)
use Rattle.std.specs.Prelude.{◌≡◌, ℕ, min, length, filter, Result, Ok, Err}
use Rattle.ts_core.specs.queries.Answers.{answer_of}
use Rattle.ts_core.specs.store.History.{History}
use Rattle.ts_core.specs.facts.Latest.{latest_of}
use Rattle.ts_core.specs.queries.Queries.{matches}
use Rattle.ts_core.specs.settings.Settings.{Settings}
use Rattle.ts_core.specs.store.Views.{ViewState, Shows}
use Rattle.ts_check.specs.Checks.{Plan}
use Rattle.ts_exec.specs.declared.fault.ExecFault.{ExecFault}
use Rattle.ts_exec.specs.declared.fault.ExecFault.TheVariants as errors
use Rattle.ts_exec.specs.Answered.{Answered}
use Rattle.ts_exec.specs.Fillings.{functions_of}
use Rattle.ts_exec.specs.GroupTables.{given}
use Rattle.ts_exec.specs.Selections.{HaveSameValues}
use Rattle.ts_exec.specs.Shares.{points_of_shares, pieces_shares}

-- the view has the settings and marks that the plan was checked under
pub record IsCurrent (seen : ViewState) (p : Plan) : Type 0 where
  pub settings : seen.settings ≡ p.settings
  pub marks : seen.marks ≡ p.marks

-- the answer of a plan over a view; if the view shows a history, this is the answer over all points ever accepted
pub record IsAnswer (seen : ViewState) (p : Plan) (a : Answered) : Type 0 where
  pub select : a.select ≡ p.select
  pub exact : a.groups ≡ given seen p.select.query p.pieces
  pub answer : (opening : Settings) (h : History)
      → Shows opening h seen → a.groups ≡ answer_of (latest_of h) p.select.query

-- an answer whose values of the query's functions are those of a plan over a view, with any fill option; if the view
-- shows a history, these are the values over all points ever accepted
pub record IsSelectedAnswer (seen : ViewState) (p : Plan) (a : Answered) : Type 0 where
  pub select : a.select ≡ p.select
  pub same : HaveSameValues (functions_of p.select.columns) a.groups (given seen p.select.query p.pieces)
  pub answer : (opening : Settings) (h : History) → Shows opening h seen
      → HaveSameValues (functions_of p.select.columns) a.groups (answer_of (latest_of h) p.select.query)

-- the number of a plan's points over a view; if the view shows a history, of all points ever accepted that match the
-- query
pub record IsPointCount (seen : ViewState) (p : Plan) (n : ℕ) : Type 0 where
  pub exact : n ≡ min (points_of_shares (pieces_shares seen p.select.query p.pieces)) 18446744073709551615
  pub answer : (opening : Settings) (h : History)
      → Shows opening h seen → n ≡ length (filter (matches p.select.query) (latest_of h))

-- the answer; or `Stale`, with the view's settings and marks, exactly if these aren't the plan's; or out of memory
abbrev pub IsExecutionOf : {A : Type 0} → ViewState → Plan → Result Answered (ExecFault A) → Type 0
IsExecutionOf seen p (Ok answered) = IsCurrent seen p × IsAnswer seen p answered
IsExecutionOf seen p (Err (errors.Stale settings marks)) =
    (settings.now ≡ seen.settings) × (marks.now ≡ seen.marks) × (IsCurrent seen p → ⊥)
IsExecutionOf seen p (Err errors.OutOfMemory) = IsCurrent seen p

-- the same for the selected values
abbrev pub IsSelectionOf : {A : Type 0} → ViewState → Plan → Result Answered (ExecFault A) → Type 0
IsSelectionOf seen p (Ok answered) = IsCurrent seen p × IsSelectedAnswer seen p answered
IsSelectionOf seen p (Err (errors.Stale settings marks)) =
    (settings.now ≡ seen.settings) × (marks.now ≡ seen.marks) × (IsCurrent seen p → ⊥)
IsSelectionOf seen p (Err errors.OutOfMemory) = IsCurrent seen p

-- the same for a count, which never runs out of memory
abbrev pub IsCountOf : {A : Type 0} → ViewState → Plan → Result ℕ (ExecFault A) → Type 0
IsCountOf seen p (Ok n) = IsCurrent seen p × IsPointCount seen p n
IsCountOf seen p (Err (errors.Stale settings marks)) =
    (settings.now ≡ seen.settings) × (marks.now ≡ seen.marks) × (IsCurrent seen p → ⊥)
IsCountOf seen p (Err errors.OutOfMemory) = ⊥
