use Rattle.ts_script.specs.Machine.{adds_no_memory}
use Rattle.ts_script.proofs.machine.Machine.add_rule.Goals as goal

pub returns-in-Err : goal.returns-in-Err
returns-in-Err c = λ s i. (s, adds_no_memory c.args.text.now, i)
