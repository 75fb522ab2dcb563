use Rattle.std.proofs.Common.{Option, ◌≡◌, ◌∙◌, [], map, length, replicate, ap, subst, sym}
use Rattle.ts_core.specs.settings.Settings.{Rule}
use Rattle.ts_core.specs.store.Marks.{index_of, marks_of}
use Rattle.ts_core.specs.facts.Times.{least_time}
use Rattle.ts_core.specs.store.StoreStates.{StandsFor}
use Rattle.ts_core.specs.store.StoreData.{StoreData, state_of}
use Rattle.ts_core.proofs.moves.StoreNew.{new_stands_for}
use Rattle.ts_store.specs.store.Inventories.{inventory_of}
use Rattle.ts_store.specs.retain.OpenRuns.{Run, data_of_parts}
use Rattle.ts_store.specs.store.SoundStores.{IsSoundStore}
use Rattle.ts_store.specs.rollup.Rollups.{new_rollup}
use Rattle.ts_store.proofs.store.InventoriesKept.{inventory_new}
use Rattle.ts_store.proofs.store.Stands.{held_new, data_new, kept_new}
use Rattle.ts_store.proofs.store.Store.new.Goals as goal

pub invariant_of-result : goal.invariant_of-result
invariant_of-result g c =
    let lows : c.in_ok-lows.lows.items ≡ map (λ (r : Rule). index_of r least_time) c.args.settings.rules = c.in_ok-lows.ensures ∙ ap (map (λ (r : Rule). index_of r least_time)) c.rules.ensures.value in
    let marks : c.new-2.result ≡ marks_of c.args.settings [] = c.new-2.ensures ∙ (λ i. record { raw = c.least.ensures i; lows = lows i }) in
    let held : c.in_ok-facts.facts ≡ held_new c.args.settings = c.in_ok-facts.ensures ∙ (λ i. record { series = []; columns = []; rollups = replicate (length (c.rules-2.ensures.value i)) new_rollup }) in
    subst (λ (run : Option Run). IsSoundStore c.args.settings c.new-2.result 0 c.in_ok-facts.facts run) (sym c.none.ensures)
    (kept_new c.args.settings c.new-2.result c.in_ok-facts.facts c.rules.ensures.faultless marks held)

pub returns-clause-value : goal.returns-clause-value
returns-clause-value g c =
    let lows : c.in_ok-lows.lows.items ≡ map (λ (r : Rule). index_of r least_time) c.args.settings.rules = c.in_ok-lows.ensures ∙ ap (map (λ (r : Rule). index_of r least_time)) c.rules.ensures.value in
    let marks : c.new-2.result ≡ marks_of c.args.settings [] = c.new-2.ensures ∙ (λ i. record { raw = c.least.ensures i; lows = lows i }) in
    let held : c.in_ok-facts.facts ≡ held_new c.args.settings = c.in_ok-facts.ensures ∙ (λ i. record { series = []; columns = []; rollups = replicate (length (c.rules-2.ensures.value i)) new_rollup }) in
    ap (data_of_parts c.args.settings c.new-2.result 0 c.in_ok-facts.facts) c.none.ensures ∙ data_new c.args.settings c.new-2.result c.in_ok-facts.facts marks held

pub returns-clause-stands : goal.returns-clause-stands
returns-clause-stands g c = subst (λ (k : StoreData). StandsFor c.args.settings [] (state_of k)) (sym (returns-clause-value g c)) (new_stands_for c.args.settings c.rules.ensures.faultless)

pub returns-clause-inventory : goal.returns-clause-inventory
returns-clause-inventory g c = ap inventory_of (returns-clause-value g c) ∙ inventory_new c.args.settings
