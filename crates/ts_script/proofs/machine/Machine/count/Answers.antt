use Rattle.std.proofs.Common.{rules, ◌<ℤ◌, ◌≤ℤ◌, sym, subst, option_map, string_bytes}
use Rattle.std.specs.Fmt.{digits}
use Rattle.ts_script.specs.Commands.{Count}
use Rattle.ts_script.specs.ScriptReplies.{text_of}
use Rattle.ts_script.specs.MachineState.{MachineState, IsMachineIn, TransitionTo}
use Rattle.ts_script.proofs.MachineLemmas.{serving, was_counted, none_counted}
use Rattle.ts_script.proofs.machine.Machine.count.Goals as goal

pub returns-then-lt : goal.returns-then-lt
returns-then-lt c = λ s i.
    let m : MachineState = serving c.self.inside.moment c.self.inside.precision c.self.inside.epoch c.self.inside.fresh (option_map string_bytes c.self.inside.certificate) c.self.inside.store in
    let before = subst (λ (k : MachineState). IsMachineIn s k) (sym c.self.view_is) i in
    let some : c.args.from <ℤ c.args.to = search rules in
    let did = was_counted c.args.measurement.now c.args.field.now (text_of c.count.result) c.args.from c.args.to s m before some c.count.ensures in
    subst (λ (k : MachineState). TransitionTo (Count c.args.measurement.now c.args.field.now c.args.from c.args.to) s (text_of c.count.result) k) c.self.view_is did

pub returns-else-lt : goal.returns-else-lt
unfolding digits
returns-else-lt c = λ s i.
    let none : c.args.to ≤ℤ c.args.from = search rules in
    none_counted c.args.measurement.now c.args.field.now c.args.from c.args.to s c.args.self.now i none
