-- The calls of a store, by its states with their inventories.
use Rattle.std.proofs.Common.{◌≡◌, ℕ, suc, ℤ, ◌+◌, List, length, Result, Ok, Err, true, refl, sym, ◌∙◌, ap, subst, arith}
use Rattle.ts_core.specs.facts.Facts.{Text, Fact}
use Rattle.ts_core.specs.settings.Settings.{Rule, Settings, is_unnamed}
use Rattle.ts_core.specs.store.History.{Step}
use Rattle.ts_core.specs.store.Marks.{Marks}
use Rattle.ts_core.specs.store.StoreData.{StoreData, store_settings, store_marks, GoesOn}
use Rattle.ts_core.specs.lists.Beside.{kept_beside}
use Rattle.ts_core.specs.declared.facts.time_unit.TimeUnit.{TimeUnit}
use Rattle.ts_store.specs.store.Inventories.{Inventory, inventory_of, facts_of_text, GrowsAfter, steps_in, StepsTo}
use Rattle.ts_store.specs.store.WholeStates.{WholeState, IsWholeStateOf, rules_in, lows_in, left_in, is_last, with_step, StepsOnce, TakesSteps, AddsRuleTo, state_without_rule, LineWrites}
use Rattle.ts_store.specs.write.LineTexts.{LineState, IsStateOf, parts_in, WritesFrom}
use Rattle.ts_store.specs.retain.WholeRuns.{TakesStep}
use Rattle.ts_store.specs.read.PointsRead.{all_raw}
use Rattle.ts_store.specs.rules.RuleTexts.{low_in, with_rule_added}
use Rattle.ts_store.specs.rules.RulesChanged.{GainsRule, RuleComes, RuleGoes}
use Rattle.ts_store.specs.declared.retain.StepAnswer.{StepAnswer}
use Rattle.ts_store.specs.declared.retain.StepAnswer.TheVariants.{Moved, Done}
use Rattle.ts_store.specs.declared.write.write_text.LineOutcome.{LineOutcome}
use Rattle.ts_store.proofs.rules.RuleStates.{rule_came, rule_went, rule_gained}
use Rattle.ts_store.proofs.store.InventoriesKept.{none_taken, one_taken}

-- ---- the text of a line

grown : {E : Type 0} (facts : List Fact) (r : Result LineOutcome E) (s : WholeState) (k : StoreData) (new : Inventory) → IsWholeStateOf s k
    → GrowsAfter (store_settings k).rules (store_marks k).lows facts r (inventory_of k) new → GrowsAfter (rules_in s) (lows_in s) facts r s.inventory new
grown {E} facts r s k new i g =
    subst (λ (z : Settings × Marks × Inventory). GrowsAfter z.0.rules z.1.lows facts r z.2 new) (λ j. (i.store.stands.settings j, i.store.stands.marks j, i.inventory j)) g

pub line_written : {E : Type 0} (precision : TimeUnit) (now : ℤ) (text : Text) (r : Result LineOutcome E) (k k' : StoreData) → ((t : LineState) → IsStateOf t k → WritesFrom precision now t text r k')
    → GrowsAfter (store_settings k).rules (store_marks k).lows (facts_of_text (parts_in precision now text)) r (inventory_of k) (inventory_of k') → (s : WholeState) → IsWholeStateOf s k → LineWrites precision now s text r k'
line_written {E} precision now text (Ok outcome) k k' each grows s i =
    let w = each s.store i.store in
    (record { store = w.0; inventory = inventory_of k' }, record { written = w.1; grows = grown {E = E} (facts_of_text (parts_in precision now text)) (Ok outcome) s k (inventory_of k') i grows }, record { store = w.2; inventory = refl })
line_written {E} precision now text (Err e) k k' each grows s i =
    let w = each s.store i.store in
    (record { store = w.0; inventory = inventory_of k' }, record { wanted = w.1; grows = grown {E = E} (facts_of_text (parts_in precision now text)) (Err e) s k (inventory_of k') i grows }, record { store = w.2; inventory = refl })

-- ---- a step of the open run

went_on : (answer : StepAnswer) (k k' : StoreData) → TakesStep k k' answer → GoesOn k (Step (is_last answer)) k'
went_on Moved k k' t = (t.moved refl).0
went_on Done k k' t = (t.done refl).0

pub step_taken : (answer : StepAnswer) (s : WholeState) (k k' : StoreData) → k.running ≡ true → TakesStep k k' answer → IsWholeStateOf s k → (s' : WholeState) × StepsOnce s answer s' × IsWholeStateOf s' k'
step_taken answer s k k' runs t i =
    let to : StepsTo (lows_in s) s.inventory answer (inventory_of k') =
    subst (λ (z : Marks × Inventory). StepsTo z.0.lows z.1 answer (inventory_of k')) (λ j. (i.store.stands.marks j, i.inventory j)) (t.inventory runs) in (
      with_step answer (inventory_of k') s,
      (inventory_of k', to, refl),
      record { store = record { stands = went_on answer k k' t s.store.opening s.store.history i.store.stands; series = t.series ∙ i.store.series }; inventory = refl },
    )

-- one step fewer is left
one_fewer : (lows : List ℤ) (old new : Inventory) → StepsTo lows old Moved new → steps_in lows old ≡ steps_in lows new + 1
one_fewer lows old new t = let c = (one_taken lows old old new 0 Moved (none_taken lows old) refl t).count in omega (arith, c)

last_by : (lows : List ℤ) (old new : Inventory) (answer : StepAnswer) → answer ≡ Done → StepsTo lows old answer new → steps_in lows old ≡ 1
last_by lows old new answer e (StepsTo.moves column others waits) = absurd cc
last_by lows old new answer e (StepsTo.removes cells waits first) = absurd cc
last_by lows old new answer e (StepsTo.ends waits batches) = let none : length old.waiting ≡ 0 = ap length waits in omega (arith, none, batches)

-- ---- steps one after another

-- the progress of a run: this number of steps was taken from a state
pub record Steps (s : WholeState) (taken : ℕ) (k : StoreData) : Type 0 where
  pub mid : WholeState
  pub took : TakesSteps taken s mid
  pub here : IsWholeStateOf mid k
  pub left : taken + left_in mid ≡ left_in s

pub no_steps : (s : WholeState) (k : StoreData) → IsWholeStateOf s k → Steps s 0 k
no_steps s k i = record { mid = s; took = refl; here = i; left = omega arith }

pub one_step : (s : WholeState) (taken : ℕ) (k k' : StoreData) → k.running ≡ true → TakesStep k k' Moved → Steps s taken k → Steps s (suc taken) k'
one_step s taken k k' runs t so =
    let d = step_taken Moved so.mid k k' runs t so.here in
    let fewer : left_in so.mid ≡ left_in d.0 + 1 = one_fewer (lows_in so.mid) so.mid.inventory d.1.0 d.1.1 ∙ ap (λ (z : WholeState). left_in z + 1) (sym d.1.2) in
    let before = so.left in
    record { mid = d.0; took = (so.mid, so.took, d.1); here = d.2; left = omega (arith, fewer, before) }

pub last_step : (s : WholeState) (taken : ℕ) (k k' : StoreData) → k.running ≡ true → TakesStep k k' Done → (so : Steps s taken k) → (s' : WholeState) × StepsOnce so.mid Done s' × IsWholeStateOf s' k' × (left_in s ≡ taken + 1)
last_step s taken k k' runs t so =
    let d = step_taken Done so.mid k k' runs t so.here in
    let one : left_in so.mid ≡ 1 = last_by (lows_in so.mid) so.mid.inventory d.1.0 Done refl d.1.1 in
    let before = so.left in
    (d.0, d.1, d.2, omega (arith, one, before))

-- ---- rules

pub rule_added : (s : WholeState) (old new : StoreData) (r : Rule) (low : ℤ) → IsWholeStateOf s old → RuleComes old new r low → (low ≡ low_in s.store r) × ((s' : WholeState) × AddsRuleTo s r s' × IsWholeStateOf s' new)
rule_added s old new r low i c =
    let came = rule_came s.store old new r low i.store c in
    let gains : GainsRule (all_raw s.inventory.waiting s.store.opening s.store.history) r (low_in s.store r) s.inventory (inventory_of new) =
    subst (λ (z : Inventory). GainsRule (all_raw z.waiting s.store.opening s.store.history) r (low_in s.store r) z (inventory_of new)) i.inventory
    (subst (λ (l : ℤ). GainsRule (all_raw old.waiting s.store.opening s.store.history) r l (inventory_of old) (inventory_of new)) came.0 (rule_gained s.store old new r low i.store c)) in
    (came.0, (record { store = with_rule_added r s.store; inventory = inventory_of new }, record { store = refl; cells = gains }, record { store = came.1; inventory = refl }))

pub rule_dropped : (s : WholeState) (old new : StoreData) (name : Text) → IsWholeStateOf s old → RuleGoes old new name → IsWholeStateOf (state_without_rule name s) new
rule_dropped s old new name i c =
    let left : inventory_of new ≡ record { columns = (inventory_of old).columns; waiting = (inventory_of old).waiting; cells = kept_beside (is_unnamed name) (store_settings old).rules (inventory_of old).cells } =
    λ j. record { columns = c.columns j; waiting = c.waiting j; cells = c.cells j } in
    record {
      store = rule_went s.store old new name i.store c;
      inventory = left ∙ (λ j. record { columns = (i.inventory j).columns; waiting = (i.inventory j).waiting; cells = kept_beside (is_unnamed name) (i.store.stands.settings j).rules (i.inventory j).cells });
    }
