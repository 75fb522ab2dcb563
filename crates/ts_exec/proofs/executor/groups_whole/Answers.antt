use Rattle.std.proofs.Common.{◌≡◌, map, subst, pos, ◌≤ℤ◌, rules}
use Rattle.std.specs.List.{AllByRecursion}
use Rattle.std.proofs.lemmas.Result.{IfOk-weaker}
use Rattle.ts_core.specs.settings.Settings.{Rule, Settings}
use Rattle.ts_core.specs.store.StoreStates.{rule_of}
use Rattle.ts_core.specs.store.Views.{ViewState}
use Rattle.ts_exec.proofs.JoinedAnswers.{groups-whole}
use Rattle.ts_exec.proofs.executor.groups_whole.Goals as goal

pub returns-clause-given : goal.returns-clause-given
returns-clause-given g c =
    let seen : ViewState = g.V.View.seen c.args.view.now in
    let shown : map rule_of seen.rules ≡ seen.settings.rules = search rules in
    let wide : AllByRecursion (λ (r : Rule). pos 1 ≤ℤ r.interval) seen.settings.rules =
    subst (λ (z : Settings). AllByRecursion (λ (r : Rule). pos 1 ≤ℤ r.interval) z.rules) c.settings.ensures.value c.rules-rules.ensures.valid.intervals in
    IfOk-weaker c.groups_given.result _ _ (λ v e. groups-whole seen c.args.query.now.query shown wide c.args.pieces.now v.items c.requires e) c.groups_given.ensures.given
