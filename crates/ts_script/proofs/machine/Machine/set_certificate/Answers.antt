use Rattle.std.proofs.Common.{sym, subst, option_map, string_bytes}
use Rattle.ts_script.specs.MachineState.{MachineState, IsMachineIn}
use Rattle.ts_script.proofs.MachineLemmas.{serving, was_given, given_no_memory}
use Rattle.ts_script.proofs.machine.Machine.set_certificate.Goals as goal

pub returns-in-Ok : goal.returns-in-Ok
returns-in-Ok c = λ s i.
    let m : MachineState = serving c.self.inside.moment c.self.inside.precision c.self.inside.epoch c.self.inside.fresh (option_map string_bytes c.self.inside.certificate) c.self.inside.store in
    was_given c.args.text.now (string_bytes c.in-Ok.certificate) s m (subst (λ (k : MachineState). IsMachineIn s k) (sym c.self.view_is) i) c.in-Ok.ensures

pub returns-in-Err : goal.returns-in-Err
returns-in-Err c = λ s i. given_no_memory c.args.text.now s c.args.self.now i
