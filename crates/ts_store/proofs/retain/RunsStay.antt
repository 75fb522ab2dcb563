-- Steps of a run: settings, the number of accepted facts, and the cells from low indices on stay.
use Rattle.std.proofs.Common.{◌≡◌, ◌⊎◌, ⊎_elim, ℕ, suc, ℤ, List, map, refl, sym, ◌∙◌, ap, subst}
use Rattle.ts_core.specs.store.Marks.{Marks}
use Rattle.ts_core.specs.settings.Settings.{Rule}
use Rattle.ts_core.specs.store.StoreData.{RuleData, StoreData, store_settings, store_marks}
use Rattle.ts_core.specs.moves.StoreMoves.{raised_rule, run_begun}
use Rattle.ts_store.specs.store.Inventories.{Inventory, inventory_of, all_waiting, StepsTo}
use Rattle.std.specs.FinMap as finmap
use Rattle.std.proofs.lemmas.Simd.{map-map}
use Rattle.ts_core.specs.store.StoreStates.{column_of}
use Rattle.ts_store.proofs.store.CountsKept.{begun_settings}
use Rattle.ts_store.proofs.retain.RunsGoOn.{moves_same}
use Rattle.ts_store.specs.retain.WholeRuns.{MovesFirst, RemovesCells}
use Rattle.ts_store.specs.declared.retain.StepAnswer.{StepAnswer}
use Rattle.ts_store.specs.declared.retain.StepAnswer.TheVariants.{Moved, Done}
use Rattle.ts_store.proofs.store.InventoriesKept.{KeptSince, HasEnded, none_taken, one_taken, run_over}

-- the parts that are unchanged since a run began, after some steps
pub record Stays (old new : StoreData) (taken : ℕ) : Type 0 where
  pub settings : store_settings new ≡ store_settings old
  pub accepted : new.accepted ≡ old.accepted
  pub inventory : KeptSince (store_marks new).lows (all_waiting (inventory_of old)) (inventory_of new) taken

-- all columns wait after a begin, and no cell comes or goes
pub begun_waiting : (now : ℤ) (k : StoreData) → inventory_of (run_begun now k) ≡ all_waiting (inventory_of k)
begun_waiting now k = λ i. record { columns = map column_of k.columns; waiting = map column_of k.columns; cells = map-map (λ (a : RuleData). finmap.keys a.cells) (raised_rule now) k.rules i }

pub begun_stays : (now : ℤ) (old new : StoreData) → new ≡ run_begun now old → Stays old new 0
begun_stays now old new e =
    let begun : Inventory = inventory_of (run_begun now old) in
    subst (λ (k : StoreData). Stays old k 0) (sym e)
    (record { settings = begun_settings old now; accepted = refl; inventory = subst (λ (x : Inventory). KeptSince (store_marks (run_begun now old)).lows x begun 0) (begun_waiting now old) (none_taken (store_marks (run_begun now old)).lows begun) })

pub step_stays : (old mid new : StoreData) (taken : ℕ) (answer : StepAnswer) → Stays old mid taken → answer ≡ Moved → MovesFirst mid new ⊎ RemovesCells mid new → store_marks new ≡ store_marks mid
    → StepsTo (store_marks mid).lows (inventory_of mid) answer (inventory_of new) → Stays old new (suc taken)
step_stays old mid new taken answer stays moved moves marks step = record {
  settings = (moves_same mid new moves).0 ∙ stays.settings;
  accepted = ⊎_elim {C = new.accepted ≡ mid.accepted} (λ c. ap (λ (k : StoreData). k.accepted) c.moved) (λ c. ap (λ (k : StoreData). k.accepted) c.others) moves ∙ stays.accepted;
  inventory = subst (λ (m : Marks). KeptSince m.lows (all_waiting (inventory_of old)) (inventory_of new) (suc taken)) (sym marks)
      (one_taken (store_marks mid).lows (all_waiting (inventory_of old)) (inventory_of mid) (inventory_of new) taken answer stays.inventory moved step);
}

-- after the last step
pub run_ended_by : (rules : List Rule) (old mid new : StoreData) (taken : ℕ) (answer : StepAnswer) → Stays old mid taken → answer ≡ Done → store_marks new ≡ store_marks mid
    → StepsTo (store_marks mid).lows (inventory_of mid) answer (inventory_of new) → HasEnded rules (store_marks new).lows (all_waiting (inventory_of old)) (inventory_of new) taken
run_ended_by rules old mid new taken answer stays done marks step =
    subst (λ (m : Marks). HasEnded rules m.lows (all_waiting (inventory_of old)) (inventory_of new) taken) (sym marks)
    (run_over rules (store_marks mid).lows (all_waiting (inventory_of old)) (inventory_of mid) new taken answer stays.inventory done step)
