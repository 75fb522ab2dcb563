use Rattle.std.proofs.Common.{rules, ◌≡◌, refl, ap, ◌∙◌}
use Rattle.ts_core.specs.store.StoreData.{state_of}
use Rattle.ts_core.specs.store.Views.{view_state_of}
use Rattle.ts_check.specs.Checks.{Plan}
use Rattle.ts_exec.specs.Executions.{IsSelectedAnswer}
use Rattle.ts_exec.specs.Fillings.{filled_answer}
use Rattle.ts_ql.specs.Selects.{Select}
use Rattle.ts_reply.proofs.Answered.{rows_shown}
use Rattle.ts_reply.proofs.answering.rows_of.Goals as goal

pub returns-in-Ok : goal.returns-in-Ok
returns-in-Ok g c =
    let plan : Plan = c.args.checked.now in
    let answer : IsSelectedAnswer (view_state_of (state_of c.args.store.now)) plan c.in-Ok.table = c.in-Ok.ensures.1 in
    let filled : c.fill-in-Ok.result ≡ filled_answer c.fill.result c.in-Ok.table = search rules in
    rows_shown c.args.store.now plan.select c.fill.result plan c.in-Ok.table c.fill-in-Ok.result
    c.requires.shows refl (c.fill.ensures ∙ ap (λ (s : Select). s.fill) c.query.ensures) answer filled
