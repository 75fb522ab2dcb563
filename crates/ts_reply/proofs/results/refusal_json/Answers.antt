use Rattle.std.proofs.Common.{◌≡◌, refl}
use Rattle.std.proofs.lemmas.Result.{IfOk-weaker}
use Rattle.serde_json.specs.View.{view}
use Rattle.ts_reply.specs.Replies.{refusal_data}
use Rattle.ts_reply.proofs.results.refusal_json.Goals as goal

pub returns : goal.returns
returns c =
    let is : view c.in_ok-value.value ≡ refusal_data c.args.fault.now = c.in_ok-value.ensures in
    IfOk-weaker c.to_string.result _ _ (λ s h. h refl) (rw is at c.to_string.ensures.text)
