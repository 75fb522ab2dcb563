use Rattle.std.proofs.Common.{map, subst, sym, ◌∙◌, string_bytes, false}
use Rattle.ts_core.specs.facts.Facts.{Text}
use Rattle.ts_reply.specs.Answering.{IsReplyTo, good, several}
use Rattle.ts_reply.specs.Replies.{TellsOutcomes}
use Rattle.ts_reply.specs.OutcomeViews.{outcome_view, given_text}
use Rattle.ts_reply.proofs.answering.reply_to.Goals as goal

pub returns-then-is_of_several : goal.returns-then-is_of_several
returns-then-is_of_several g c = λ opening h stands.
    subst (λ (body : Text). IsReplyTo opening h c.args.queries.now (given_text c.args.certificate) c.args.epoch false body) (sym c.in_ok-body.ensures)
    (several (sym c.is_of_several.ensures ∙ c.if-is_of_several.true))

pub returns : goal.returns
returns g c = λ opening h stands.
    let outcomes = c.in_ok-outcomes.outcomes.items in
    good (string_bytes c.in_ok-body-2.body) (map outcome_view outcomes) (sym c.is_of_several.ensures ∙ c.if-is_of_several.false) (c.in_ok-outcomes.ensures opening h stands)
    (subst (λ xs. TellsOutcomes c.args.epoch (map outcome_view xs) (string_bytes c.in_ok-body-2.body)) c.as_slice.ensures.value c.in_ok-body-2.ensures)
