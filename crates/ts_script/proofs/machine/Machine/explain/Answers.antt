use Rattle.std.proofs.Common.{string_bytes}
use Rattle.ts_script.proofs.MachineLemmas.{was_explained, explained_no_memory}
use Rattle.ts_script.proofs.machine.Machine.explain.Goals as goal

pub returns-in-Ok : goal.returns-in-Ok
returns-in-Ok c = λ s i. was_explained c.args.text.now (string_bytes c.in-Ok.body) s c.args.self.now i (c.in-Ok.ensures s i)

pub returns-in-Err : goal.returns-in-Err
returns-in-Err c = λ s i. explained_no_memory c.args.text.now s c.args.self.now i
