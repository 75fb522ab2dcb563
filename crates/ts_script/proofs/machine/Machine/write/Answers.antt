use Rattle.std.proofs.Common.{sym, subst, option_map, string_bytes}
use Rattle.ts_core.specs.facts.Facts.{Text}
use Rattle.ts_script.specs.Commands.{Write}
use Rattle.ts_script.specs.MachineState.{MachineState, keeping, IsMachineIn, TransitionTo}
use Rattle.ts_script.proofs.MachineLemmas.{serving, wrote}
use Rattle.ts_script.proofs.machine.Machine.write.Goals as goal

pub returns : goal.returns
returns c = λ s i.
    let m : MachineState = serving c.self.inside.moment c.self.inside.precision c.self.inside.epoch c.self.inside.fresh (option_map string_bytes c.self.inside.certificate) c.self.inside.store in
    let before = subst (λ (k : MachineState). IsMachineIn s k) (sym c.self.view_is) i in
    subst (λ (a : Text). TransitionTo (Write c.args.text.now) s a (keeping c.write_text-written.new.self m)) (sym c.written_reply.ensures)
    (wrote c.args.text.now c.write_text-written.result s m c.write_text-written.new.self before c.write_text-written.ensures.written c.write_text-written.ensures.inventory)
