use Rattle.std.proofs.Common.{◌∙◌, ap, Err}
use Rattle.ts_reply.proofs.CountLemmas.{count_refused, count_stopped, count_given}
use Rattle.ts_reply.proofs.counting.count.Goals as goal

pub returns-in-Err-Fault : goal.returns-in-Err-Fault
returns-in-Err-Fault g c = λ opening h stands.
    count_refused opening h c.args.measurement.now c.args.field.now c.args.from c.args.to c.count_query.result c.in-Err-Fault.field-0-0 c.count_query.ensures
    (c.in-Err-Fault.is ∙ ap Err c.in-Err-Fault.field-0-is)

pub returns-in-Err-OutOfMemory : goal.returns-in-Err-OutOfMemory
returns-in-Err-OutOfMemory g c = λ opening h stands.
    count_stopped opening h c.args.measurement.now c.args.field.now c.args.from c.args.to c.count_query.result c.count_query.ensures
    (c.in-Err-OutOfMemory.is ∙ ap Err c.in-Err-OutOfMemory.field-0-is)

pub returns : goal.returns
returns g c = λ opening h stands.
    count_given opening h c.args.measurement.now c.args.field.now c.args.from c.args.to c.count_query.result c.in-Ok.query c.counted.result
    c.count_query.ensures c.in-Ok.is (c.counted.ensures opening h stands)
