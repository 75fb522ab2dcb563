use Rattle.std.proofs.Common.{subst, IfOk, option_map, string_bytes}
use Rattle.ts_reply.specs.OutcomeViews.{given_text}
use Rattle.ts_script.specs.Machine.{State}
use Rattle.ts_script.specs.MachineState.{MachineState, IsMachineIn, HasReply}
use Rattle.ts_script.proofs.MachineLemmas.{serving, reply_ended}
use Rattle.ts_script.proofs.machine.Machine.reply.Goals as goal

pub returns : goal.returns
returns c =
    let m : MachineState = serving c.self.inside.moment c.self.inside.precision c.self.inside.epoch c.self.inside.fresh (option_map string_bytes c.self.inside.certificate) c.self.inside.store in
    subst (λ (k : MachineState). IfOk c.ended.result (λ body. (s : State) → IsMachineIn s k → HasReply s c.args.text.now (given_text c.args.certificate) (string_bytes body))) c.self.view_is
    (reply_ended c.ended.result string_bytes c.args.text.now (string_bytes c.in_ok-reply.reply.body) (given_text c.args.certificate) c.in_ok-reply.reply.good m c.ended.ensures c.in_ok-reply.ensures)
