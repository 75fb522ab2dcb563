use Rattle.std.proofs.Common.{rules, ◌≡◌, ◌∙◌, to_z, of_z, ap}
use Rattle.std.specs.Int.{w128}
use Rattle.ts_core.proofs.lists.Results.{on_any_err}
use Rattle.ts_store.specs.store.ColumnStates.{StoreContent}
use Rattle.ts_store.specs.retain.OpenRuns.{data_of_parts}
use Rattle.ts_store.proofs.store.RuleListLemmas.{its_faultless, its_added}
use Rattle.ts_store.proofs.rules.RulesMoved.{added_wide, rule_is_added}
use Rattle.ts_store.proofs.store.Store.append_rule.Goals as goal

pub rollup_of-requires-clause-interval : goal.rollup_of-requires-clause-interval
rollup_of-requires-clause-interval g c =
    let i = c.self.inside in
    let well = its_added i.settings i.marks i.accepted i.facts i.run c.self.invariant c.args.self.now c.self.view_is c.args.rule c.requires.rule in
    added_wide i.settings c.args.rule (its_faultless i.settings i.marks i.accepted i.facts i.run c.self.invariant c.args.self.now c.self.view_is) well

pub returns-in_err-add_rollup-clause-err : goal.returns-in_err-add_rollup-clause-err
returns-in_err-add_rollup-clause-err g c =
    let before = c.self.inside in
    on_any_err c.from_residual-in_err-add_rollup.result (ap (λ (h : StoreContent). data_of_parts before.settings before.marks before.accepted h before.run) c.in_err-add_rollup.ensures.err ∙ c.self.view_is)

pub invariant_of-self-2 : goal.invariant_of-self-2
invariant_of-self-2 g c =
    let i = c.self.inside in
    let same : to_z w128 (of_z w128 c.args.low) ≡ c.args.low = search rules in
    (rule_is_added i.settings i.marks i.accepted i.facts i.run c.args.self.now c.args.rule c.args.low _ c.in_ok-rollup.rollup c.in_ok-settings.settings c.in_ok-marks.marks c.add_rollup.new.self c.self.invariant c.self.view_is
    c.requires.rule c.requires.mark c.requires.low same c.in_ok-rollup.ensures c.in_ok-settings.ensures c.in_ok-marks.ensures c.in_ok-add_rollup.ensures.ok).0

pub returns-clause-ok : goal.returns-clause-ok
returns-clause-ok g c =
    let i = c.self.inside in
    let same : to_z w128 (of_z w128 c.args.low) ≡ c.args.low = search rules in
    (rule_is_added i.settings i.marks i.accepted i.facts i.run c.args.self.now c.args.rule c.args.low _ c.in_ok-rollup.rollup c.in_ok-settings.settings c.in_ok-marks.marks c.add_rollup.new.self c.self.invariant c.self.view_is
    c.requires.rule c.requires.mark c.requires.low same c.in_ok-rollup.ensures c.in_ok-settings.ensures c.in_ok-marks.ensures c.in_ok-add_rollup.ensures.ok).1

pub settings_with-requires : goal.settings_with-requires
settings_with-requires g c =
    let before = c.self.inside in
    its_added before.settings before.marks before.accepted before.facts before.run c.self.invariant c.args.self.now c.self.view_is c.args.rule c.requires.rule
