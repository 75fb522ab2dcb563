use Rattle.std.proofs.Common.{rules, ◌≤◌, length}
use Rattle.ts_core.proofs.lists.Permutations.{moved_all, moved_among}
use Rattle.ts_plan.specs.Steps.{IsStep}
use Rattle.ts_plan.proofs.Scans.{sorted_ascends, up_all, up_more}
use Rattle.ts_plan.proofs.steps.all_steps.Goals as goal

pub returns-clause-sound : goal.returns-clause-sound
returns-clause-sound g c = moved_all (IsStep c.args.context.now) c.loop-number.steps.items c.sort.new.self.items c.sort.ensures.permutation c.loop-number.invariant.sound

pub returns-clause-complete : goal.returns-clause-complete
returns-clause-complete g c = λ x i.
    let n : length c.args.context.now.rules ≤ c.loop-number.number = search rules in
    moved_among c.loop-number.steps.items c.sort.new.self.items x c.sort.ensures.permutation
    (up_all c.args.context.now c.loop-number.number c.loop-number.steps.items n c.loop-number.invariant x i)

pub returns-clause-order : goal.returns-clause-order
returns-clause-order g c = sorted_ascends c.sort.new.self.items c.in_ok-sort.ensures.sorted

pub loop-number-preserved : goal.loop-number-preserved
loop-number-preserved g c = up_more c.args.context.now c.loop-number.number c.loop-number.steps.items c.push_rule.new.steps.items c.loop-number.invariant c.in_ok-push_rule.ensures
