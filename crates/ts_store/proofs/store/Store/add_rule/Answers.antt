use Rattle.std.proofs.Common.{rules, ◌≡◌, ◌∙◌, None, Err, to_z, of_z, ap, sym, subst}
use Rattle.std.specs.Int.{w64, w128}
use Rattle.std.proofs.lemmas.Result.{err_from_is_err_and}
use Rattle.ts_core.specs.settings.SettingsFaults.{added_fault}
use Rattle.ts_core.specs.store.StoreData.{StoreData, store_settings}
use Rattle.ts_store.specs.rules.RulesChanged.{RuleComes, AddsRule}
use Rattle.ts_store.proofs.rules.RulesMoved.{refused_as, out_of_memory, rule_came}
use Rattle.ts_store.proofs.store.Store.add_rule.Goals as goal

pub returns : goal.returns
returns g c =
    let well : added_fault (store_settings c.args.self.now) c.args.rule ≡ None = ap (λ s. added_fault s c.args.rule) (sym c.settings.ensures.value) ∙ sym c.check_rule.ensures ∙ c.in_default.is in
    let same : to_z w128 (of_z w128 c.from.result) ≡ to_z w64 (of_z w64 c.start_of-low.result) = search rules in
    rule_came c.args.self.now c.append_rule.new.self c.args.rule (to_z w64 (of_z w64 c.start_of-low.result)) well
    (subst (RuleComes c.args.self.now c.append_rule.new.self c.args.rule) same c.in_ok-append_rule.ensures.ok)

pub returns-in-Some : goal.returns-in-Some
returns-in-Some g c = refused_as c.args.self.now c.args.rule c.in-Some.fault (ap (λ s. added_fault s c.args.rule) (sym c.settings.ensures.value) ∙ sym c.check_rule.ensures ∙ c.in-Some.is)

pub returns-in_err-append_rule : goal.returns-in_err-append_rule
returns-in_err-append_rule g c =
    let well : added_fault (store_settings c.args.self.now) c.args.rule ≡ None = ap (λ s. added_fault s c.args.rule) (sym c.settings.ensures.value) ∙ sym c.check_rule.ensures ∙ c.in_default.is in
    let p = err_from_is_err_and c.from_residual.result c.from_residual.ensures.1 in
    subst (λ (k : StoreData). AddsRule c.args.self.now k c.args.rule c.from_residual.result) (sym c.in_err-append_rule.ensures.err)
    (subst (AddsRule c.args.self.now c.args.self.now c.args.rule) (sym (p.1 ∙ ap (λ e. Err e) p.2)) (out_of_memory c.args.self.now c.args.rule well))
