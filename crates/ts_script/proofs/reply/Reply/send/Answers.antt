use Rattle.std.specs.Fmt.{digits}
use Rattle.ts_script.proofs.reply.Reply.send.Goals as goal

pub returns-in-OutOfMemory-clause-sent : goal.returns-in-OutOfMemory-clause-sent
unfolding digits
returns-in-OutOfMemory-clause-sent g c = rw c.in-OutOfMemory.is c.write_all-in-OutOfMemory.ensures
