use Rattle.std.proofs.Common.{rules, ◌≡◌, ◌∙◌, ap, sym, Some}
use Rattle.std.specs.Cow.{cow_str_bytes}
use Rattle.ts_http.specs.Parameters.{value_text}
use Rattle.ts_http.proofs.ActLemmas.{query_no_memory, epoch_refused, explain_refused, query_missing, answered_so, explained_so}
use Rattle.ts_http.proofs.querying.query_form.Goals as goal

pub returns-in-Err : goal.returns-in-Err
returns-in-Err g c = epoch_refused c.args.now c.args.form.now.query.now c.args.form.now.body.now c.args.store.now c.requires c.in-Err.refusal c.in-Err.ensures

pub returns-in-Err-explain_flag : goal.returns-in-Err-explain_flag
returns-in-Err-explain_flag g c = explain_refused c.args.now c.args.form.now.query.now c.args.form.now.body.now c.args.store.now c.requires c.in-Ok.epoch c.in-Ok.ensures c.in-Err-explain_flag.refusal c.in-Err-explain_flag.ensures

pub returns-in-Ok-None : goal.returns-in-Ok-None
returns-in-Ok-None g c = query_missing c.args.now c.args.form.now.query.now c.args.form.now.body.now c.args.store.now c.requires c.in-Ok.epoch c.in-Ok.ensures c.in-Ok-explain_flag.plan c.in-Ok-explain_flag.ensures (sym c.in-Ok-None.ensures ∙ ap value_text c.in-Ok-None.field-0-is)

pub returns-in-Err-value_in : goal.returns-in-Err-value_in
returns-in-Err-value_in g c = query_no_memory c.args.now c.args.form.now.query.now c.args.form.now.body.now c.args.store.now c.requires

pub returns-then-plan : goal.returns-then-plan
returns-then-plan g c =
    let text : c.as_str.result.now ≡ cow_str_bytes c.in-Ok-Some.text = search rules in
    explained_so c.args.now c.args.form.now.query.now c.args.form.now.body.now c.args.store.now c.requires c.in-Ok.epoch c.in-Ok.ensures c.as_str.result.now c.explain.result c.answered.result (c.in-Ok-explain_flag.ensures ∙ ap Some c.if-plan.true)
    (sym c.in-Ok-Some.ensures ∙ ap value_text c.in-Ok-Some.field-0-is ∙ ap Some (sym text)) c.explain.ensures c.answered.ensures

pub returns : goal.returns
returns g c =
    let text : c.as_str-2.result.now ≡ cow_str_bytes c.in-Ok-Some.text = search rules in
    answered_so c.args.now c.args.form.now.query.now c.args.form.now.body.now c.args.store.now c.requires c.in-Ok.epoch c.in-Ok.ensures c.as_str-2.result.now c.answer_form.result c.answered-2.result (c.in-Ok-explain_flag.ensures ∙ ap Some c.if-plan.false)
    (sym c.in-Ok-Some.ensures ∙ ap value_text c.in-Ok-Some.field-0-is ∙ ap Some (sym text)) c.answer_form.ensures c.answered-2.ensures
