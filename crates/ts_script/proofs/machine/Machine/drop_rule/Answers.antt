use Rattle.std.proofs.Common.{◌≡◌, ◌∙◌, true, false, sym, subst, is_err, option_map, string_bytes}
use Rattle.ts_script.specs.MachineState.{MachineState, IsMachineIn}
use Rattle.ts_script.proofs.MachineLemmas.{serving}
use Rattle.ts_script.proofs.RuleCommands.{rule_forgotten, drop_refused}
use Rattle.ts_script.proofs.machine.Machine.drop_rule.Goals as goal

pub returns-then-is_err : goal.returns-then-is_err
returns-then-is_err c = λ s i.
    let m : MachineState = serving c.self.inside.moment c.self.inside.precision c.self.inside.epoch c.self.inside.fresh (option_map string_bytes c.self.inside.certificate) c.self.inside.store in
    let before = subst (λ (k : MachineState). IsMachineIn s k) (sym c.self.view_is) i in
    let refused : is_err c.drop_rule.result ≡ true = sym c.is_err.ensures.value ∙ c.if-is_err.true in
    drop_refused c.drop_rule.result c.args.name.now s m c.drop_rule.new.self before c.drop_rule.ensures refused

pub returns : goal.returns
returns c = λ s i.
    let m : MachineState = serving c.self.inside.moment c.self.inside.precision c.self.inside.epoch c.self.inside.fresh (option_map string_bytes c.self.inside.certificate) c.self.inside.store in
    let before = subst (λ (k : MachineState). IsMachineIn s k) (sym c.self.view_is) i in
    let none : is_err c.drop_rule.result ≡ false = sym c.is_err.ensures.value ∙ c.if-is_err.false in
    rule_forgotten c.drop_rule.result c.args.name.now s m c.drop_rule.new.self before c.drop_rule.ensures none
