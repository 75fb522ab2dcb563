-- The effect of a request of /rules, case by case of the code.
use Rattle.std.proofs.Common.{◌≡◌, ◌⊎◌, ⊎_elim, true, false, IsTrue, ap, sym, ◌∙◌, subst, None, Ok, Err, inl, inr, refl}
use Rattle.std.specs.Str.{IsUtf8}
use Rattle.ts_core.specs.facts.Facts.{Text}
use Rattle.ts_core.specs.settings.Settings.{Settings}
use Rattle.ts_core.specs.settings.SettingsFaults.{is_named, settings_fault_text, unknown_rule_text}
use Rattle.ts_core.specs.declared.settings.settings_fault.SettingsFault.{SettingsFault}
use Rattle.ts_core.specs.store.StoreData.{StoreData, store_settings}
use Rattle.ts_http.specs.Acts.{Replied, bad_reply, answer_reply, added_text, dropped_body, PostsRule, DeletesRule, name_in}
use Rattle.ts_http.specs.HttpReplies.{error_json}
use Rattle.ts_http.specs.OutcomeReplies.{AddsAs, DropsAs, DropsNamed, reply_of}
use Rattle.ts_http.specs.declared.outcome.RequestOutcome.{RequestOutcome}
use Rattle.ts_http.specs.declared.outcome.RequestOutcome.TheVariants as outcomes
use Rattle.ts_http.specs.declared.refusal.Refusal.TheVariants as refusals
use Rattle.ts_store.specs.store.WholeStates.{IsWholeStateOf, state_without_rule}
use Rattle.ts_store.specs.rules.RuleTexts.{rule_for, settings_in, low_in, TextComes}
use Rattle.ts_store.specs.rules.RulesChanged.{RuleGoes}
use Rattle.ts_store.specs.declared.rules.rule_text.AddedRule.{AddedRule}
use Rattle.ts_store.proofs.store.WholeStatesKept.{rule_added, rule_dropped}

-- ---- POST

module _ (body : Text) (k : StoreData) where
  pub add_no_text : (IsUtf8 body → ⊥) → AddsAs body k (outcomes.Refused refusals.BodyNotText) k
  add_no_text none = (λ s i. (s, PostsRule.not_text none, i), inr refl)

  module _ (utf8 : IsUtf8 body) where
    pub add_no_memory : AddsAs body k (outcomes.Refused refusals.OutOfMemory) k
    add_no_memory = (λ s i. (s, PostsRule.wants_memory utf8, i), inr refl)

    pub add_refused : (fault : SettingsFault) (o : RequestOutcome) → rule_for (store_settings k) body ≡ Err fault → (reply_of false o ≡ bad_reply (error_json (settings_fault_text fault))) ⊎ (o ≡ outcomes.Refused refusals.OutOfMemory) → AddsAs body k o k
    add_refused fault o read told = ⊎_elim {C = AddsAs body k o k}
        (λ is. (λ s i. (s, subst (λ (r : Replied). PostsRule s body r s) (sym is) (PostsRule.refuses fault utf8 (subst (λ (z : Settings). rule_for z body ≡ Err fault) i.store.stands.settings read)), i), inr refl))
        (λ want. subst (λ (p : RequestOutcome). AddsAs body k p k) (sym want) add_no_memory)
        told

    pub was_added : (new : StoreData) (added : AddedRule) (o : RequestOutcome) → TextComes k new body added → reply_of false o ≡ answer_reply true (added_text added.name.bytes added.low) → AddsAs body k o new
    was_added new added o t told = (
      λ s i.
          let read : rule_for (settings_in s.store) body ≡ Ok t.rule = subst (λ (z : Settings). rule_for z body ≡ Ok t.rule) i.store.stands.settings t.read in
          let came = rule_added s k new t.rule added.low i t.comes in
          let reply : reply_of false o ≡ answer_reply true (added_text t.rule.name (low_in s.store t.rule)) = told ∙ (λ j. answer_reply true (added_text (t.name j) (came.0 j))) in
          (came.1.0, subst (λ (r : Replied). PostsRule s body r came.1.0) (sym reply) (PostsRule.adds t.rule came.1.0 utf8 read came.1.1), came.1.2),
      inl (ap (λ (r : Replied). r.0) told),
    )

-- ---- DELETE

module _ (query : Text) (k : StoreData) where
  pub drop_no_memory : DropsAs query k (outcomes.Refused refusals.OutOfMemory) k
  drop_no_memory = (λ s i. (s, DeletesRule.wants_memory, i), inr refl)

  pub name_missing : name_in query ≡ None → DropsAs query k (outcomes.Refused refusals.MissingName) k
  name_missing none = (λ s i. (s, DeletesRule.missing none, i), inr refl)

pub drop_refused : (name : Text) (k new : StoreData) (o : RequestOutcome) → is_named (store_settings k).rules name ≡ false → new ≡ k → reply_of false o ≡ bad_reply (error_json unknown_rule_text) → DropsNamed name k o new
drop_refused name k new o none same reply = λ query n. (
  λ s i.
      (s, subst (λ (r : Replied). DeletesRule s query r s) (sym reply) (DeletesRule.refuses name n (subst (λ (z : Settings). is_named z.rules name ≡ false) i.store.stands.settings none)), subst (IsWholeStateOf s) (sym same) i),
  inr same,
)

pub was_dropped : (name : Text) (k new : StoreData) (o : RequestOutcome) → IsTrue (is_named (store_settings k).rules name) → RuleGoes k new name → reply_of false o ≡ answer_reply true (dropped_body name) → DropsNamed name k o new
was_dropped name k new o named goes told = λ query n. (
  λ s i. (
    state_without_rule name s,
    subst (λ (r : Replied). DeletesRule s query r (state_without_rule name s)) (sym told) (DeletesRule.drops name n (subst (λ (z : Settings). IsTrue (is_named z.rules name)) i.store.stands.settings named)),
    rule_dropped s k new name i goes,
  ),
  inl (ap (λ (r : Replied). r.0) told),
)
