use Rattle.ts_script.proofs.MachineLemmas.{begun_no_memory}
use Rattle.ts_script.proofs.machine.Machine.begin.Goals as goal

pub returns-in-Err : goal.returns-in-Err
returns-in-Err c = λ s i. begun_no_memory s c.args.self.now i
