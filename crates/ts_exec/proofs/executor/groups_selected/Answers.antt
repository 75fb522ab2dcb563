use Rattle.std.proofs.Common.{rules, ◌≡◌, ◌∙◌, ◌≤ℤ◌, pos, true, map, subst, ap, sym}
use Rattle.std.specs.List.{list_all, AllByRecursion}
use Rattle.std.proofs.lemmas.List.Folds.{list_all-map}
use Rattle.std.proofs.lemmas.Result.{IfOk-weaker}
use Rattle.ts_core.specs.settings.Settings.{Rule, Settings}
use Rattle.ts_core.specs.store.StoreStates.{rule_of}
use Rattle.ts_core.specs.store.Views.{ViewState}
use Rattle.ts_ql.specs.Selects.{Projection, Select}
use Rattle.ts_exec.specs.declared.aggregate_parts.AggregateParts.{AggregateParts}
use Rattle.ts_exec.specs.Fillings.{functions_of}
use Rattle.ts_exec.specs.Selections.{suffice}
use Rattle.ts_exec.proofs.JoinedAnswers.{groups-values}
use Rattle.ts_exec.proofs.executor.groups_selected.Goals as goal

pub returns-clause-values : goal.returns-clause-values
returns-clause-values g c =
    let seen : ViewState = g.V.View.seen c.args.view.now in
    let s : Select = c.args.query.now in
    let parts : AggregateParts = c.parts_for-parts.result in
    let each : list_all (λ (x : Projection). suffice parts x.function) s.columns ≡ true = ap (list_all (λ (x : Projection). suffice parts x.function)) (sym c.columns.ensures) ∙ c.parts_for-parts.ensures in
    let enough : list_all (suffice parts) (functions_of s.columns) ≡ true = list_all-map (suffice parts) (λ (x : Projection). x.function) s.columns ∙ each in
    let shown : map rule_of seen.rules ≡ seen.settings.rules = search rules in
    let wide : AllByRecursion (λ (r : Rule). pos 1 ≤ℤ r.interval) seen.settings.rules =
    subst (λ (z : Settings). AllByRecursion (λ (r : Rule). pos 1 ≤ℤ r.interval) z.rules) c.settings.ensures.value c.rules-rules.ensures.valid.intervals in
    IfOk-weaker c.groups_given.result _ _ (λ v e. groups-values seen s.query shown wide parts (functions_of s.columns) enough c.args.pieces.now v.items c.requires e) c.groups_given.ensures.given
