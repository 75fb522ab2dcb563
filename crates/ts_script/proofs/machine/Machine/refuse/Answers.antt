use Rattle.std.proofs.Common.{sym, subst, option_map, string_bytes}
use Rattle.ts_script.specs.MachineState.{MachineState, IsMachineIn}
use Rattle.ts_script.proofs.MachineLemmas.{serving, was_not_read}
use Rattle.ts_script.proofs.machine.Machine.refuse.Goals as goal

pub returns : goal.returns
returns c = λ s i.
    let m : MachineState = serving c.self.inside.moment c.self.inside.precision c.self.inside.epoch c.self.inside.fresh (option_map string_bytes c.self.inside.certificate) c.self.inside.store in
    was_not_read s m (subst (λ (k : MachineState). IsMachineIn s k) (sym c.self.view_is) i)
