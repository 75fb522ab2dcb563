use Rattle.ts_script.proofs.MachineLemmas.{retained_no_memory}
use Rattle.ts_script.proofs.machine.Machine.retain.Goals as goal

pub returns-in-Err : goal.returns-in-Err
returns-in-Err c = λ s i. retained_no_memory s c.args.self.now i
