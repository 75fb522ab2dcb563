use Rattle.std.proofs.Common.{rules, ◌≡◌, ◌+◌, ◌<◌, ◌≤◌, List, [], ◌∷◌, ◌++◌, length, map, take, get_or, subst, sym}
use Rattle.std.proofs.lemmas.List.{take_all}
use Rattle.ts_ql.specs.Selects.{Select}
use Rattle.ts_reply.specs.Answering.{IsOutcome, AreOutcomes}
use Rattle.ts_reply.specs.OutcomeViews.{outcome_view, given_text}
use Rattle.ts_reply.proofs.Each.{outcomes_more}
use Rattle.ts_reply.proofs.answering.outcomes_of.Goals as goal

pub loop-query-preserved : goal.loop-query-preserved
loop-query-preserved g c =
    let n = c.loop-query.query-index in
    let s : Select = c.query-item.result in
    let within : n < length c.args.queries.now = search rules in
    let here : get_or c.args.queries.now n s ≡ s = search rules in
    let pushed : c.push.new.self.items ≡ c.loop-query.outcomes.items ++ c.in_ok-outcome_of.field-0 ∷ [] = search rules in
    λ opening h stands. subst (λ xs. AreOutcomes (IsOutcome opening h (given_text c.args.certificate)) (take (n + 1) c.args.queries.now) (map outcome_view xs)) (sym pushed)
    (outcomes_more outcome_view (IsOutcome opening h (given_text c.args.certificate)) n c.args.queries.now c.loop-query.outcomes.items s c.in_ok-outcome_of.field-0 within here (c.loop-query.invariant opening h stands) (c.in_ok-outcome_of.ensures opening h stands))

pub returns : goal.returns
returns g c =
    let n = c.loop-query.query-index in
    let past : length c.args.queries.now ≤ n = search rules in
    λ opening h stands. subst (λ (ss : List Select). AreOutcomes (IsOutcome opening h (given_text c.args.certificate)) ss (map outcome_view c.loop-query.outcomes.items)) (take_all n c.args.queries.now past) (c.loop-query.invariant opening h stands)
