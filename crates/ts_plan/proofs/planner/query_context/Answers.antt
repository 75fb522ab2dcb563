use Rattle.ts_plan.proofs.Plannable.{are_wide, plannable}
use Rattle.ts_plan.proofs.planner.query_context.Goals as goal

pub returns-clause-plannable : goal.returns-clause-plannable
returns-clause-plannable g c = plannable c.args.settings.now c.args.marks.now c.args.query.now.query _ c.requires c.rules-rules.ensures.valid c.rules-rules.ensures.faultless c.new.ensures.value (are_wide _ c.new.ensures.intervals)
