use Rattle.std.proofs.Common.{◌≡◌, ◌∙◌, sym, ap, map, ◌&&◌}
use Rattle.std.specs.List.{list_all}
use Rattle.std.proofs.lemmas.List.Folds.{list_all-append}
use Rattle.ts_core.specs.queries.Queries.{Condition}
use Rattle.ts_core.specs.plans.Faults.{keeps}
use Rattle.ts_check.proofs.coverage.keeps_tags.Goals as goal

pub returns-then-keeps_each : goal.returns-then-keeps_each
returns-then-keeps_each g c =
    let r = c.args.rule.now in
    let q = c.args.query.now.query in
    let tags = map (λ (k : Condition). k.tag) q.conditions in
    let each : c.keeps_each.result ≡ list_all (keeps r) q.group_tags = c.keeps_each.ensures ∙ ap (list_all (keeps r)) c.group_tags.ensures.value in
    let rest : c.keeps_conditions.result ≡ list_all (keeps r) tags = c.keeps_conditions.ensures ∙ ap (λ ks. list_all (keeps r) (map (λ (k : Condition). k.tag) ks)) c.conditions.ensures in
    rest ∙ ap (λ b. b && list_all (keeps r) tags) (sym c.if-keeps_each.true ∙ each) ∙ sym (list_all-append (keeps r) q.group_tags tags)

pub returns-else-keeps_each : goal.returns-else-keeps_each
returns-else-keeps_each g c =
    let r = c.args.rule.now in
    let q = c.args.query.now.query in
    let tags = map (λ (k : Condition). k.tag) q.conditions in
    let each : c.keeps_each.result ≡ list_all (keeps r) q.group_tags = c.keeps_each.ensures ∙ ap (list_all (keeps r)) c.group_tags.ensures.value in
    c.if-keeps_each.false ∙ ap (λ b. b && list_all (keeps r) tags) (sym c.if-keeps_each.false ∙ each) ∙ sym (list_all-append (keeps r) q.group_tags tags)
