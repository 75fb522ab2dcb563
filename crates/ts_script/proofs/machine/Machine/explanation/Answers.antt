use Rattle.std.proofs.Common.{subst, IfOk, option_map, string_bytes}
use Rattle.ts_script.specs.Machine.{State}
use Rattle.ts_script.specs.MachineState.{MachineState, IsMachineIn, HasExplanation}
use Rattle.ts_script.proofs.MachineLemmas.{serving, explanation_ended}
use Rattle.ts_script.proofs.machine.Machine.explanation.Goals as goal

pub returns : goal.returns
returns c =
    let m : MachineState = serving c.self.inside.moment c.self.inside.precision c.self.inside.epoch c.self.inside.fresh (option_map string_bytes c.self.inside.certificate) c.self.inside.store in
    subst (λ (k : MachineState). IfOk c.ended.result (λ body. (s : State) → IsMachineIn s k → HasExplanation s c.args.text.now (string_bytes body))) c.self.view_is
    (explanation_ended c.ended.result string_bytes c.args.text.now (string_bytes c.in_ok-reply.reply.body) c.in_ok-reply.reply.good m c.ended.ensures c.in_ok-reply.ensures)
