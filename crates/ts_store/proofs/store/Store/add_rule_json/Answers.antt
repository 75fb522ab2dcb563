use Rattle.std.proofs.Common.{rules, ℤ, to_z, of_z, w64, ◌≡◌, ◌≤◌, refl, sym, ◌∙◌, subst, length, Result, Ok, Err, Some, IfOk}
use Rattle.std.specs.Option.{IsSome}
use Rattle.std.specs.Result.{IsOk, result_ok}
use Rattle.std.proofs.lemmas.Option.{none-some}
use Rattle.serde_json.specs.View.{view}
use Rattle.ts_core.specs.facts.Facts.{Text}
use Rattle.ts_core.specs.settings.Settings.{Settings}
use Rattle.ts_core.specs.settings.SettingsFound.{fault_added}
use Rattle.ts_core.specs.settings.SettingsTexts.{rule_parsed}
use Rattle.ts_store.specs.rules.RuleTexts.{ValueComes}
use Rattle.ts_core.specs.store.StoreData.{store_settings}
use Rattle.ts_store.proofs.rules.RuleTextLemmas.{value_refused, value_at_fault, value_came, rule_refused, name_fits}
use Rattle.ts_store.proofs.store.Store.add_rule_json.Goals as goal

pub returns-in-Some-clause-added : goal.returns-in-Some-clause-added
returns-in-Some-clause-added g c =
    let fault : Some c.in-Some.fault ≡ fault_added (store_settings c.args.self.now) (rule_parsed (view c.args.value.now)) =
    subst (λ (s : Settings). Some c.in-Some.fault ≡ fault_added s (rule_parsed (view c.args.value.now))) c.settings.ensures.value c.in-Some.ensures in
    (value_at_fault (store_settings c.args.self.now) (rule_parsed (view c.args.value.now)) c.in-Some.fault fault, refl)

pub returns-in-Err-clause-added : goal.returns-in-Err-clause-added
returns-in-Err-clause-added g c = (value_refused (store_settings c.args.self.now) (view c.args.value.now) c.in-Err.error c.in-Err.ensures.err, refl)

ok_some : {T E : Type 0} (r : Result T E) → IsOk r → IsSome (result_ok r)
ok_some (Ok x) h = refl
ok_some (Err e) h = h

ok_is : {T E : Type 0} (P : T → Type 0) (r : Result T E) (x : T) → Some x ≡ result_ok r → IfOk r P → P x
ok_is P (Ok y) x e h = let q : Some x ≡ Some y = e in let k : x ≡ y = cc in subst P (sym k) h
ok_is P (Err f) x e h = absurd (none-some x (sym e))

pub unwrap-requires : goal.unwrap-requires
unwrap-requires g c =
    let short = name_fits c.args.self.now c.add_rule.new.self c.in-Ok.rule c.in-Ok-add_rule.low c.in-Ok-add_rule.ensures in
    subst IsSome (sym c.ok-name.ensures.value) (ok_some c.from.result (c.from.ensures.variant.1 (subst (λ (t : Text). length t ≤ 32) (sym c.name.ensures) short)))

pub returns-in-Ok-add_rule-clause-added : goal.returns-in-Ok-add_rule-clause-added
returns-in-Ok-add_rule-clause-added g c =
    let name = ok_is _ c.from.result c.unwrap.result (sym c.unwrap.ensures ∙ c.ok-name.ensures.value) c.from.ensures.ok in
    let same : to_z w64 (of_z w64 c.in-Ok-add_rule.low) ≡ c.in-Ok-add_rule.low = search rules in
    subst (λ (low : ℤ). ValueComes c.args.self.now c.add_rule.new.self (view c.args.value.now) (record { name = c.unwrap.result; low = low })) (sym same)
    (value_came c.args.self.now c.add_rule.new.self (view c.args.value.now) c.in-Ok.rule (record { name = c.unwrap.result; low = c.in-Ok-add_rule.low }) c.in-Ok.ensures.ok (name ∙ c.name.ensures) c.in-Ok-add_rule.ensures)

pub returns-in-Err-add_rule-clause-added : goal.returns-in-Err-add_rule-clause-added
returns-in-Err-add_rule-clause-added g c = rule_refused c.args.self.now c.add_rule.new.self (view c.args.value.now) c.in-Ok.rule c.in-Err-add_rule.error c.in-Ok.ensures.ok c.in-Err-add_rule.ensures
