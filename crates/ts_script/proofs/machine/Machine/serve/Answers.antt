use Rattle.std.proofs.Common.{◌≡◌, ◌∙◌, ap, sym, subst, option_map, string_bytes}
use Rattle.ts_script.specs.Commands.{Command, command_of}
use Rattle.ts_script.specs.CommandParts.{command_view}
use Rattle.ts_script.specs.ScriptReplies.{text_of}
use Rattle.ts_script.specs.MachineState.{MachineState, TransitionTo}
use Rattle.ts_script.proofs.MachineLemmas.{serving, did_it, was_skipped, was_no_text}
use Rattle.ts_script.proofs.machine.Machine.serve.Goals as goal

pub returns-then-is_skipped : goal.returns-then-is_skipped
returns-then-is_skipped c = λ s i.
    was_skipped c.args.line.now s c.args.self.now c.requires c.in-Ok.ensures.cases.1 (sym c.is_skipped.ensures ∙ c.if-is_skipped.true) i

pub returns-else-is_skipped : goal.returns-else-is_skipped
returns-else-is_skipped c = λ s i.
    let t = c.in-Ok.ensures.cases in
    let e : command_view c.parse.result ≡ command_of c.args.line.now = c.parse.ensures ∙ ap command_of t.0 in
    let m : MachineState = serving c.self.inside.moment c.self.inside.precision c.self.inside.epoch c.self.inside.fresh (option_map string_bytes c.self.inside.certificate) c.self.inside.store in
    let did = subst (λ (k : Command). TransitionTo k s (text_of c.apply-reply.result) c.apply-reply.new.self) e (c.apply-reply.ensures s i) in
    did_it c.args.line.now (text_of c.apply-reply.result) s m c.requires t.1 (sym c.is_skipped.ensures ∙ c.if-is_skipped.false)
    (subst (λ (k : MachineState). TransitionTo (command_of c.args.line.now) s (text_of c.apply-reply.result) k) (sym c.self.view_is) did)

pub returns-in-Err : goal.returns-in-Err
returns-in-Err c = λ s i. was_no_text c.args.line.now (text_of c.refuse.result) s c.refuse.new.self c.in-Err.ensures.cases.0 (c.refuse.ensures s i)
