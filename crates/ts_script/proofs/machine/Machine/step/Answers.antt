use Rattle.std.proofs.Common.{sym, subst, option_map, string_bytes}
use Rattle.ts_script.specs.MachineState.{MachineState, IsMachineIn}
use Rattle.ts_script.proofs.MachineLemmas.{serving, stepped}
use Rattle.ts_script.proofs.machine.Machine.step.Goals as goal

pub returns : goal.returns
returns c = λ s i.
    let m : MachineState = serving c.self.inside.moment c.self.inside.precision c.self.inside.epoch c.self.inside.fresh (option_map string_bytes c.self.inside.certificate) c.self.inside.store in
    let before = subst (λ (k : MachineState). IsMachineIn s k) (sym c.self.view_is) i in
    stepped c.step.result s m c.step.new.self before c.step.ensures
