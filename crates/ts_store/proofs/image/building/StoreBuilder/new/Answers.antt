use Rattle.std.proofs.Common.{◌≡◌, ◌∙◌, [], length, replicate}
use Rattle.ts_store.specs.rollup.Rollups.{new_rollup}
use Rattle.ts_store.proofs.image.StoresBuilt.{order_new, built_new}
use Rattle.ts_store.proofs.store.Stands.{held_new}
use Rattle.ts_store.proofs.image.building.StoreBuilder.new.Goals as goal

pub invariant_of-result : goal.invariant_of-result
invariant_of-result g c =
    let held : c.in_ok-facts.facts ≡ held_new c.args.settings = c.in_ok-facts.ensures ∙ (λ i. record { series = []; columns = []; rollups = replicate (length (c.rules.ensures.value i)) new_rollup }) in
    order_new c.args.settings c.in_ok-facts.facts c.new-2.result.items held c.new-2.ensures.items

pub returns : goal.returns
returns g c =
    let held : c.in_ok-facts.facts ≡ held_new c.args.settings = c.in_ok-facts.ensures ∙ (λ i. record { series = []; columns = []; rollups = replicate (length (c.rules.ensures.value i)) new_rollup }) in
    built_new c.args.settings c.args.marks c.args.running c.args.accepted c.in_ok-facts.facts c.new-2.result.items held c.new-2.ensures.items
