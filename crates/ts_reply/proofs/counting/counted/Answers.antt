use Rattle.std.proofs.Common.{◌∙◌, ap, Err}
use Rattle.ts_reply.proofs.CountLemmas.{was_counted, was_refused}
use Rattle.ts_reply.proofs.counting.counted.Goals as goal

pub returns-in_ok-counted_by-in-Ok : goal.returns-in_ok-counted_by-in-Ok
returns-in_ok-counted_by-in-Ok g c =
    was_counted c.args.store.now c.settings.result.now c.marks.result.now c.args.query.now.query c.plan.result c.in-Ok.plan c.in_ok-counted_by-in-Ok.field-0
    c.settings.ensures.shows c.settings.ensures.value c.marks.ensures.value c.plan.ensures c.in-Ok.is c.in_ok-counted_by-in-Ok.ensures

pub returns-in-Err-Fault : goal.returns-in-Err-Fault
returns-in-Err-Fault g c =
    let refused = was_refused c.args.store.now c.settings.result.now c.marks.result.now c.args.query.now.query c.plan.result c.in-Err-Fault.fault
    c.settings.ensures.shows c.settings.ensures.value c.marks.ensures.value c.plan.ensures (c.in-Err-Fault.is ∙ ap Err c.in-Err-Fault.field-0-is) in
    rw c.in-Err-Fault.field-0-is refused
