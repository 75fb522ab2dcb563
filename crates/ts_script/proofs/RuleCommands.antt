-- Commands that add and drop rules, in every state of the machine.
use Rattle.std.proofs.Common.{◌≡◌, ◌⊎◌, ◌↔◌, Bool, true, false, true≢false, refl, sym, ◌∙◌, subst, Result, Ok, Err, IsErr, is_err, inl, inr}
use Rattle.ts_core.specs.facts.Facts.{Text}
use Rattle.ts_core.specs.text.FaultTexts.{memory_text}
use Rattle.ts_core.specs.settings.Settings.{Settings}
use Rattle.ts_core.specs.settings.SettingsFaults.{is_named, settings_fault_text, unknown_rule_text}
use Rattle.ts_core.specs.declared.settings.settings_fault.SettingsFault.{SettingsFault}
use Rattle.ts_core.specs.store.StoreData.{StoreData, store_settings}
use Rattle.ts_store.specs.store.WholeStates.{state_without_rule}
use Rattle.ts_store.specs.rules.RulesChanged.{RuleGoes, DropsRule}
use Rattle.ts_store.specs.rules.RuleTexts.{rule_for, settings_in, low_in, TextComes}
use Rattle.ts_store.specs.declared.rules.rule_text.AddedRule.{AddedRule}
use Rattle.ts_store.proofs.store.WholeStatesKept.{rule_added, rule_dropped}
use Rattle.ts_script.specs.Commands.{AddRule, DropRule}
use Rattle.ts_script.specs.Machine.{State, whole_state, with_whole, Transition, adds, refuses_rule, adds_no_memory, drops, refuses_drop}
use Rattle.ts_script.specs.MarksTexts.{rule_text}
use Rattle.ts_script.specs.ScriptReplies.{line, text_of, dropped_text}
use Rattle.ts_script.specs.MachineState.{MachineState, keeping, IsMachineIn, TransitionTo}
use Rattle.ts_script.specs.declared.reply.Reply.{Reply}
use Rattle.ts_script.specs.declared.reply.Reply.TheVariants.{OutOfMemory}
use Rattle.ts_script.proofs.MachineLemmas.{storing_whole, whole_in, when_ok, when_err}

-- a store that is as it was
stays_in : (s : State) (m : MachineState) (k : StoreData) → IsMachineIn s m → k ≡ m.kept → IsMachineIn s (keeping k m)
stays_in s m k i same = subst (λ (z : StoreData). IsMachineIn s (keeping z m)) (sym same) i

module _ (text : Text) (s : State) (m : MachineState) (k : StoreData) (i : IsMachineIn s m) where
  pub rule_told : (added : AddedRule) (answer : Text) → TextComes m.kept k text added → answer ≡ line (rule_text added.name.bytes added.low) → TransitionTo (AddRule text) s answer (keeping k m)
  rule_told added answer t told =
      let came = rule_added (whole_state s) m.kept k t.rule added.low (whole_in s m i) t.comes in
      let new = came.1 in
      let read : rule_for (settings_in s.store) text ≡ Ok t.rule = subst (λ (z : Settings). rule_for z text ≡ Ok t.rule) i.store.stands.settings t.read in
      let printed : answer ≡ line (rule_text t.rule.name (low_in s.store t.rule)) = told ∙ (λ j. line (rule_text (t.name j) (came.0 j))) in
      (with_whole new.0 s, subst (λ (a : Text). Transition s (AddRule text) a (with_whole new.0 s)) (sym printed) (adds text t.rule new.0 read new.1), storing_whole s m new.0 k i new.2)

  pub rule_no_memory : k ≡ m.kept → TransitionTo (AddRule text) s (line memory_text) (keeping k m)
  rule_no_memory same = (s, adds_no_memory text, stays_in s m k i same)

  pub rule_refused : (fault : SettingsFault) (answer : Reply) → rule_for (store_settings m.kept) text ≡ Err fault → k ≡ m.kept → (text_of answer ≡ line (settings_fault_text fault)) ⊎ (answer ≡ OutOfMemory) → TransitionTo (AddRule text) s (text_of answer) (keeping k m)
  rule_refused fault answer read same told =
      elim told as (λ _. TransitionTo (AddRule text) s (text_of answer) (keeping k m)) [
        | inl is ↦ (s, subst (λ (a : Text). Transition s (AddRule text) a s) (sym is) (refuses_rule text fault (subst (λ (z : Settings). rule_for z text ≡ Err fault) i.store.stands.settings read)), stays_in s m k i same)
        | inr want ↦ subst (λ (a : Reply). TransitionTo (AddRule text) s (text_of a) (keeping k m)) (sym want) (rule_no_memory same)
      ]

-- ---- a rule is dropped

-- a call that isn't refused found the name
found_name : {T E : Type 0} (b : Bool) (r : Result T E) → IsErr r ↔ (b ≡ false) → is_err r ≡ false → b ≡ true
found_name true r unknown none = refl
found_name false r unknown none = absurd (true≢false (sym (unknown.1 refl) ∙ none))

pub rule_forgotten : {E : Type 0} (r : Result (Unit {0}) E) (name : Text) (s : State) (m : MachineState) (k : StoreData) → IsMachineIn s m → DropsRule m.kept k name r → is_err r ≡ false → TransitionTo (DropRule name) s dropped_text (keeping k m)
rule_forgotten r name s m k i drops_rule none =
    let named : is_named (store_settings m.kept).rules name ≡ true = found_name (is_named (store_settings m.kept).rules name) r drops_rule.unknown none in
    let goes : RuleGoes m.kept k name = when_ok r (RuleGoes m.kept k name) drops_rule.ok none in (
      with_whole (state_without_rule name (whole_state s)) s,
      drops name (subst (λ (z : Settings). is_named z.rules name ≡ true) i.store.stands.settings named),
      storing_whole s m (state_without_rule name (whole_state s)) k i (rule_dropped (whole_state s) m.kept k name (whole_in s m i) goes),
    )

pub drop_refused : {E : Type 0} (r : Result (Unit {0}) E) (name : Text) (s : State) (m : MachineState) (k : StoreData) → IsMachineIn s m → DropsRule m.kept k name r → is_err r ≡ true → TransitionTo (DropRule name) s (line unknown_rule_text) (keeping k m)
drop_refused r name s m k i drops_rule refused = (
  s,
  refuses_drop name (subst (λ (z : Settings). is_named z.rules name ≡ false) i.store.stands.settings (drops_rule.unknown.0 refused)),
  stays_in s m k i (when_err r (k ≡ m.kept) drops_rule.err refused),
)
