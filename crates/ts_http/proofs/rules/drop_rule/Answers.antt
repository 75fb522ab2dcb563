use Rattle.std.proofs.Common.{rules, ◌≡◌, ◌∙◌, ap, sym, Some}
use Rattle.std.specs.Cow.{cow_str_bytes}
use Rattle.ts_http.specs.Parameters.{value_text}
use Rattle.ts_http.proofs.RuleLemmas.{drop_no_memory, name_missing}
use Rattle.ts_http.proofs.rules.drop_rule.Goals as goal

pub returns-in-Ok-Some : goal.returns-in-Ok-Some
returns-in-Ok-Some g c =
    let text : c.as_str.result.now ≡ cow_str_bytes c.in-Ok-Some.name = search rules in
    c.drop_named.ensures c.args.query.now (sym c.in-Ok-Some.ensures ∙ ap value_text c.in-Ok-Some.field-0-is ∙ ap Some (sym text))

pub returns-in-Ok-None : goal.returns-in-Ok-None
returns-in-Ok-None g c = name_missing c.args.query.now c.args.store.now (sym c.in-Ok-None.ensures ∙ ap value_text c.in-Ok-None.field-0-is)

pub returns-in-Err : goal.returns-in-Err
returns-in-Err g c = drop_no_memory c.args.query.now c.args.store.now
