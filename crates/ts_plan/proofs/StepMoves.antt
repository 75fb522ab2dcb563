-- Pruning in place: the remaining steps are at the back.
use Rattle.std.proofs.Common.{◌≡◌, ℕ, ◌≤◌, List, length, take, drop}
use Rattle.ts_plan.specs.declared.steps.Step.{Step}
use Rattle.ts_core.specs.plans.Pieces.{QueryContext}
use Rattle.ts_plan.specs.Steps.{pruned_steps}

-- from begin on there are the steps that remain of those from index on; below index nothing has moved
pub record Moved (t : QueryContext) (index begin : ℕ) (now old : List Step) : Type 0 where
  pub before : index ≤ begin
  pub within : begin ≤ length now
  pub same : length now ≡ length old
  pub left : take index now ≡ take index old
  pub kept : drop begin now ≡ pruned_steps t (drop index old)
