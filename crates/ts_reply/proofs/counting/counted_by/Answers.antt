use Rattle.std.proofs.Common.{ap}
use Rattle.ts_check.specs.Checks.{Plan}
use Rattle.ts_reply.proofs.Answered.{plan_faultless}
use Rattle.ts_reply.proofs.CountLemmas.{count_shown}
use Rattle.ts_reply.proofs.counting.counted_by.Goals as goal

pub unreachable-requires : goal.unreachable-requires
unreachable-requires g c =
    plan_faultless c.args.store.now c.settings.result.now c.marks.result.now c.args.query.now c.args.plan.now c.check.result c.in-Err-Fault.field-0 c.in-Err-Fault.field-0-0
    c.settings.ensures.value c.marks.ensures.value c.requires c.check.ensures c.in-Err-Fault.is c.in-Err-Fault.field-0-is

pub returns : goal.returns
returns g c =
    count_shown c.args.store.now c.args.query.now c.in-Ok.checked c.in-Ok-count_points.count
    c.settings.ensures.shows (ap (λ (p : Plan). p.select) c.in-Ok.ensures.0) c.in-Ok-count_points.ensures.1
