use Rattle.std.proofs.Common.{sym, option_map, string_bytes, subst}
use Rattle.ts_script.specs.MachineState.{MachineState, IsMachineIn}
use Rattle.ts_script.proofs.MachineLemmas.{serving}
use Rattle.ts_script.proofs.ReloadedStores.{was_reloaded, reloaded_no_memory}
use Rattle.ts_script.proofs.machine.Machine.reload.Goals as goal

pub returns-in-Ok : goal.returns-in-Ok
returns-in-Ok c = λ s i.
    let m : MachineState = serving c.self.inside.moment c.self.inside.precision c.self.inside.epoch c.self.inside.fresh (option_map string_bytes c.self.inside.certificate) c.self.inside.store in
    let before = subst (λ (k : MachineState). IsMachineIn s k) (sym c.self.view_is) i in
    was_reloaded s m c.in-Ok.store before c.in-Ok.ensures.reloaded

pub returns-in-Err-OutOfMemory : goal.returns-in-Err-OutOfMemory
returns-in-Err-OutOfMemory c = λ s i. reloaded_no_memory s c.args.self.now i
