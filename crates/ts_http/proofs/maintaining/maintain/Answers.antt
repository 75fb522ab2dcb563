use Rattle.std.proofs.Common.{rules, ◌≡◌, true, ap, subst}
use Rattle.ts_core.specs.facts.Facts.{Text}
use Rattle.ts_core.specs.store.StoreData.{StoreData}
use Rattle.ts_http.specs.Acts.{answer_reply}
use Rattle.ts_http.specs.Maintaining.{progress_text}
use Rattle.ts_http.specs.MaintainSteps.{HasStepped}
use Rattle.ts_http.specs.declared.outcome.RequestOutcome.TheVariants.{Brief}
use Rattle.ts_http.specs.declared.status.Status.TheVariants.{Success}
use Rattle.ts_http.proofs.MaintainLemmas.{steps_refused, maintained}
use Rattle.ts_http.proofs.maintaining.maintain.Goals as goal

pub returns-in-Err : goal.returns-in-Err
returns-in-Err g c = steps_refused c.args.now c.args.query.now c.args.store.now c.in-Err.refusal c.in-Err.ensures

pub returns : goal.returns
returns g c =
    let k : StoreData = c.run_steps-progress.new.store in
    let text : c.progress_body.result.bytes ≡ progress_text c.run_steps-progress.result.done k.raw_mark c.run_steps-progress.result.taken = search rules in
    maintained c.args.now c.args.query.now c.args.store.now c.in-Ok.limit k c.run_steps-progress.result.taken c.run_steps-progress.result.done (Brief Success c.progress_body.result) c.in-Ok.ensures c.open_run.ensures.begins
    (subst (λ (old : StoreData). HasStepped c.in-Ok.limit old k c.run_steps-progress.result.taken c.run_steps-progress.result.done) c.open_run.ensures.opened c.run_steps-progress.ensures)
    (ap (λ (t : Text). answer_reply true t) text)
