use Rattle.std.proofs.Common.{sym, subst, option_map, string_bytes}
use Rattle.ts_core.specs.text.FaultTexts.{memory_text}
use Rattle.ts_script.specs.Commands.{SetSettings}
use Rattle.ts_script.specs.ScriptReplies.{line, text_of, unknown_text}
use Rattle.ts_script.specs.MachineState.{MachineState, IsMachineIn, TransitionTo}
use Rattle.ts_script.proofs.MachineLemmas.{serving, was_opened, settings_refused, opened_no_memory, opened_late}
use Rattle.ts_script.proofs.machine.Machine.set_settings.Goals as goal

pub returns-then-not-self : goal.returns-then-not-self
returns-then-not-self c = λ s i.
    let m : MachineState = serving c.self.inside.moment c.self.inside.precision c.self.inside.epoch c.self.inside.fresh (option_map string_bytes c.self.inside.certificate) c.self.inside.store in
    let before = subst (λ (k : MachineState). IsMachineIn s k) (sym c.self.view_is) i in
    subst (λ (k : MachineState). TransitionTo (SetSettings c.args.text.now) s (line unknown_text) k) c.self.view_is (opened_late c.args.text.now s m before c.if-not-self.true)

pub returns-in-Ok : goal.returns-in-Ok
returns-in-Ok c = λ s i.
    let m : MachineState = serving c.self.inside.moment c.self.inside.precision c.self.inside.epoch c.self.inside.fresh (option_map string_bytes c.self.inside.certificate) c.self.inside.store in
    let before = subst (λ (k : MachineState). IsMachineIn s k) (sym c.self.view_is) i in
    let e = c.in-Ok.ensures.opening in
    was_opened c.args.text.now e.0 s m c.in-Ok.store before c.if-not-self.false e.1 e.2 e.3

pub returns-in-Err-Fault : goal.returns-in-Err-Fault
returns-in-Err-Fault c = λ s i.
    let m : MachineState = serving c.self.inside.moment c.self.inside.precision c.self.inside.epoch c.self.inside.fresh (option_map string_bytes c.self.inside.certificate) c.self.inside.store in
    let before = subst (λ (k : MachineState). IsMachineIn s k) (sym c.self.view_is) i in
    subst (λ (k : MachineState). TransitionTo (SetSettings c.args.text.now) s (text_of c.bad_settings.result) k) c.self.view_is
    (settings_refused c.args.text.now c.bad_settings.result c.in-Err-Fault.fault s m before c.if-not-self.false (rw c.in-Err-Fault.field-0-is at c.in-Err-Fault.ensures.opening) c.bad_settings.ensures)

pub returns-in-Err-OutOfMemory : goal.returns-in-Err-OutOfMemory
returns-in-Err-OutOfMemory c = λ s i.
    let m : MachineState = serving c.self.inside.moment c.self.inside.precision c.self.inside.epoch c.self.inside.fresh (option_map string_bytes c.self.inside.certificate) c.self.inside.store in
    let before = subst (λ (k : MachineState). IsMachineIn s k) (sym c.self.view_is) i in
    subst (λ (k : MachineState). TransitionTo (SetSettings c.args.text.now) s (line memory_text) k) c.self.view_is (opened_no_memory c.args.text.now s m before c.if-not-self.false)
