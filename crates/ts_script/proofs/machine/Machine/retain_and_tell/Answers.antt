use Rattle.std.proofs.Common.{◌≡◌, ◌∙◌, true, false, sym, subst, is_err, option_map, string_bytes}
use Rattle.ts_store.specs.retain.WholeRuns.{Retains}
use Rattle.ts_script.specs.ScriptReplies.{text_of}
use Rattle.ts_script.specs.MachineState.{MachineState, IsMachineIn}
use Rattle.ts_script.proofs.MachineLemmas.{serving, when_ok, was_closed, retained, retain_refused}
use Rattle.ts_script.proofs.machine.Machine.retain_and_tell.Goals as goal

pub returns-then-is_err : goal.returns-then-is_err
returns-then-is_err c = λ s i.
    let m : MachineState = serving c.self.inside.moment c.self.inside.precision c.self.inside.epoch c.self.inside.fresh (option_map string_bytes c.self.inside.certificate) c.self.inside.store in
    let before = subst (λ (k : MachineState). IsMachineIn s k) (sym c.self.view_is) i in
    let refused : is_err c.retain.result ≡ true = sym c.is_err.ensures.value ∙ c.if-is_err.true in
    retain_refused c.retain.result s m c.retain.new.self before c.retain.ensures.running c.retain.ensures.refused refused

pub returns : goal.returns
returns c = λ s i.
    let m : MachineState = serving c.self.inside.moment c.self.inside.precision c.self.inside.epoch c.self.inside.fresh (option_map string_bytes c.self.inside.certificate) c.self.inside.store in
    let before = subst (λ (k : MachineState). IsMachineIn s k) (sym c.self.view_is) i in
    let none : is_err c.retain.result ≡ false = sym c.is_err.ensures.value ∙ c.if-is_err.false in
    let run : Retains m.moment m.kept c.retain.new.self = when_ok c.retain.result _ c.retain.ensures.ok none in
    retained (text_of c.marks.result) s m c.retain.new.self before (was_closed c.retain.result s m before c.retain.ensures.running none) run c.marks.ensures
