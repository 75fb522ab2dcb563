use Rattle.std.proofs.Common.{rules, ◌≡◌, nat_lt, ◌∷◌, map, sym, subst, string_bytes}
use Rattle.std.proofs.lemmas.Result.{on_ok_weaker}
use Rattle.ts_reply.specs.AppendedData.{AppendsItems}
use Rattle.ts_reply.specs.Replies.{AreResults}
use Rattle.ts_reply.specs.OutcomeViews.{outcome_view}
use Rattle.ts_reply.proofs.Appended.{if_pushed, none_appended, one_more_appended}
use Rattle.ts_reply.proofs.reply.+push_results.Goals as goal

pub returns-in-None : goal.returns-in-None
returns-in-None g t c =
    let e = c.args.epoch in
    let n = c.args.number in
    let old = string_bytes c.args.text.now in
    on_ok_weaker c.push_str.result (none_appended outcome_view e n (nat_lt 0 n) c.args.outcomes.now old (string_bytes c.push_str.new.self) c.in-None.ensures.cases) (if_pushed c.push_str.result _ _ _ c.push_str.ensures.bytes)

pub returns-in_ok-push_result-in-Some : goal.returns-in_ok-push_result-in-Some
returns-in_ok-push_result-in-Some g t c =
    let e = c.args.epoch in
    let n = c.args.number in
    let old = string_bytes c.args.text.now in
    let new = string_bytes c.push_results.new.text in
    let some : c.args.outcomes.now ≡ c.in-Some.outcome.now ∷ c.in-Some.others.now = search rules in
    on_ok_weaker c.push_results.result
    (λ rest. subst (λ os. AppendsItems (AreResults e n (map outcome_view os)) (nat_lt 0 n) old new) (sym some)
    (one_more_appended e n (outcome_view c.in-Some.outcome.now) (map outcome_view c.in-Some.others.now) old (string_bytes c.push_comma.new.text) (string_bytes c.push_result.new.text) new c.in_ok-push_comma-in-Some.ensures c.in_ok-push_result-in-Some.ensures rest))
    c.push_results.ensures
