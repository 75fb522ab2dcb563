use Rattle.std.proofs.Common.{◌≡◌, ◌∙◌, true, false, sym, subst, is_err, option_map, string_bytes}
use Rattle.ts_core.specs.store.History.{Begin}
use Rattle.ts_core.specs.store.StoreData.{GoesOn}
use Rattle.ts_core.specs.moves.StoreMoves.{run_begun}
use Rattle.ts_script.specs.ScriptReplies.{text_of}
use Rattle.ts_script.specs.MachineState.{MachineState, IsMachineIn}
use Rattle.ts_script.proofs.MachineLemmas.{serving, when_ok, was_closed, begun, begin_refused}
use Rattle.ts_script.proofs.machine.Machine.begin_and_tell.Goals as goal

pub returns-then-is_err : goal.returns-then-is_err
returns-then-is_err c = λ s i.
    let m : MachineState = serving c.self.inside.moment c.self.inside.precision c.self.inside.epoch c.self.inside.fresh (option_map string_bytes c.self.inside.certificate) c.self.inside.store in
    let before = subst (λ (k : MachineState). IsMachineIn s k) (sym c.self.view_is) i in
    let refused : is_err c.begin.result ≡ true = sym c.is_err.ensures.value ∙ c.if-is_err.true in
    begin_refused c.begin.result s m c.begin.new.self before c.begin.ensures.begun.running c.begin.ensures.begun.refused refused

pub returns : goal.returns
returns c = λ s i.
    let m : MachineState = serving c.self.inside.moment c.self.inside.precision c.self.inside.epoch c.self.inside.fresh (option_map string_bytes c.self.inside.certificate) c.self.inside.store in
    let before = subst (λ (k : MachineState). IsMachineIn s k) (sym c.self.view_is) i in
    let none : is_err c.begin.result ≡ false = sym c.is_err.ensures.value ∙ c.if-is_err.false in
    let is = when_ok c.begin.result (c.begin.new.self ≡ run_begun m.moment m.kept) c.begin.ensures.begun.ok none in
    let goes = when_ok c.begin.result (GoesOn m.kept (Begin m.moment) c.begin.new.self) c.begin.ensures.stands none in
    begun (text_of c.marks.result) s m c.begin.new.self before (was_closed c.begin.result s m before c.begin.ensures.begun.running none) is goes c.marks.ensures
