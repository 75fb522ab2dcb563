use Rattle.std.proofs.Common.{refl, inl}
use Rattle.std.specs.declared.alloc.AllocError.{AllocError}
use Rattle.ts_http.specs.declared.refusal.Refusal.TheVariants as refusals
use Rattle.ts_http.proofs.ActLemmas.{write_refused, lines_written, lines_stopped}
use Rattle.ts_http.proofs.writing.write_text.Goals as goal

pub returns-in-Err : goal.returns-in-Err
returns-in-Err g c = write_refused c.args.now c.args.query.now c.args.body.now c.args.store.now c.in-Err.refusal c.utf8.body c.in-Err.ensures

pub returns-in_default : goal.returns-in_default
returns-in_default g c = write_refused c.args.now c.args.query.now c.args.body.now c.args.store.now refusals.OutOfMemory c.utf8.body (inl refl)

pub returns-in-Ok-write_lines : goal.returns-in-Ok-write_lines
returns-in-Ok-write_lines g c = lines_written c.args.now c.args.query.now c.args.body.now c.args.store.now AllocError c.in-Ok.precision c.write_lines.new.store c.in-Ok-write_lines.tally c.batch_outcome.result c.utf8.body c.in-Ok.ensures c.in-Ok-write_lines.ensures c.batch_outcome.ensures

pub returns-in-Err-write_lines : goal.returns-in-Err-write_lines
returns-in-Err-write_lines g c = lines_stopped c.args.now c.args.query.now c.args.body.now c.args.store.now AllocError c.in-Ok.precision c.write_lines.new.store c.in-Err-write_lines.field-0 c.utf8.body c.in-Ok.ensures c.in-Err-write_lines.ensures
