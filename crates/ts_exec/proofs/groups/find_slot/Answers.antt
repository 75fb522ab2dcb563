use Rattle.std.proofs.Common.{rules, ◌≡◌, ◌<◌, ◌-◌, length, get_or, Less, List, Option}
use Rattle.std.proofs.lemmas.Fn.{always_returns_same}
use Rattle.ts_core.specs.facts.Facts.{Text}
use Rattle.ts_core.specs.aggregates.Aggregates.{Aggregate}
use Rattle.ts_core.specs.queries.Answers.{group_cmp}
use Rattle.ts_exec.specs.Slots.{Slots}
use Rattle.ts_exec.proofs.Slotted.{behind_all, found_slot}
use Rattle.ts_exec.proofs.groups.find_slot.Goals as goal

pub returns-in-Less-clause-slot : goal.returns-in-Less-clause-slot
returns-in-Less-clause-slot g c =
    let slots : Slots = c.args.slots.now in
    let last : List Text × Option (List Aggregate) = c.in-Some.last.now in
    let some : 0 < length slots = search rules in
    let is : get_or slots (length slots - 1) last ≡ last = search rules in
    let less : group_cmp last.0 c.args.values.now ≡ Less = search rules in
    behind_all slots c.requires c.args.values.now last some is less

pub returns-in-Greater-clause-slot : goal.returns-in-Greater-clause-slot
returns-in-Greater-clause-slot g c =
    found_slot c.args.slots.now c.requires c.args.values.now c.binary_search_by.result
    (c.binary_search_by.ensures.position (λ (e : List Text × Option (List Aggregate)). group_cmp e.0 c.args.values.now) (always_returns_same _ _ _ (λ a r q called. search rules)))
