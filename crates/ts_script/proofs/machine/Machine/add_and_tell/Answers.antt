use Rattle.std.proofs.Common.{rules, ◌≡◌, ◌∙◌, ℤ, w64, SFits, to_z, of_z, to_z-of_z, sym, subst, option_map, string_bytes}
use Rattle.ts_script.specs.MarksTexts.{rule_text}
use Rattle.ts_script.specs.ScriptReplies.{line}
use Rattle.ts_script.specs.MachineState.{MachineState, IsMachineIn}
use Rattle.ts_script.proofs.MachineLemmas.{serving}
use Rattle.ts_script.proofs.RuleCommands.{rule_told, rule_no_memory, rule_refused}
use Rattle.ts_script.proofs.machine.Machine.add_and_tell.Goals as goal

pub returns-in-Ok : goal.returns-in-Ok
returns-in-Ok c = λ s i.
    let m : MachineState = serving c.self.inside.moment c.self.inside.precision c.self.inside.epoch c.self.inside.fresh (option_map string_bytes c.self.inside.certificate) c.self.inside.store in
    let before = subst (λ (k : MachineState). IsMachineIn s k) (sym c.self.view_is) i in
    let low : ℤ = c.in-Ok.added.low in
    let fits : SFits w64 low = search rules in
    let whole : to_z w64 (of_z w64 low) ≡ low = to_z-of_z fits in
    let told = c.rule_line.ensures ∙ (λ j. line (rule_text (c.as_str.ensures.value j) (whole j))) in
    rule_told c.args.text.now s m c.add_rule_text.new.self before c.in-Ok.added (string_bytes c.rule_line.result) c.in-Ok.ensures told

pub returns-in-Err-Fault : goal.returns-in-Err-Fault
returns-in-Err-Fault c = λ s i.
    let m : MachineState = serving c.self.inside.moment c.self.inside.precision c.self.inside.epoch c.self.inside.fresh (option_map string_bytes c.self.inside.certificate) c.self.inside.store in
    let before = subst (λ (k : MachineState). IsMachineIn s k) (sym c.self.view_is) i in
    let told = rw c.in-Err-Fault.field-0-is at c.in-Err-Fault.ensures in
    rule_refused c.args.text.now s m c.add_rule_text.new.self before c.in-Err-Fault.fault c.bad_settings.result told.0 told.1 c.bad_settings.ensures

pub returns : goal.returns
returns c = λ s i.
    let m : MachineState = serving c.self.inside.moment c.self.inside.precision c.self.inside.epoch c.self.inside.fresh (option_map string_bytes c.self.inside.certificate) c.self.inside.store in
    let before = subst (λ (k : MachineState). IsMachineIn s k) (sym c.self.view_is) i in
    rule_no_memory c.args.text.now s m c.add_rule_text.new.self before c.in-Err-OutOfMemory.ensures.1
