use Rattle.std.proofs.Common.{◌≡◌, ◌∙◌, ap, sym, subst, IfOk, Option}
use Rattle.std.specs.Cow.{cow_str_bytes}
use Rattle.ts_core.specs.facts.Facts.{Text}
use Rattle.ts_http.specs.Parameters.{parameters, value_text}
use Rattle.ts_http.proofs.ActLemmas.{named_in_front, named_behind}
use Rattle.ts_http.proofs.querying.value_in.Goals as goal

pub returns-in-Some : goal.returns-in-Some
returns-in-Some g c =
    sym (named_in_front c.args.name.now (cow_str_bytes c.in-Some.value) (parameters c.args.form.now.query.now) (parameters c.args.form.now.body.now) (sym c.in_ok-value.ensures ∙ ap value_text c.in-Some.is))

pub returns-in-None : goal.returns-in-None
returns-in-None g c =
    subst (λ (t : Option Text). IfOk c.first_named-in-None.result (λ value. value_text value ≡ t))
    (sym (named_behind c.args.name.now (parameters c.args.form.now.query.now) (parameters c.args.form.now.body.now) (sym c.in_ok-value.ensures ∙ ap value_text c.in-None.is)))
    c.first_named-in-None.ensures
