use Rattle.std.proofs.Common.{◌∙◌, ap, subst, sym, List, insert}
use Rattle.ts_core.specs.facts.Facts.{Text}
use Rattle.ts_exec.specs.Slots.{Slots, AreSlots, made}
use Rattle.ts_exec.specs.Searches.{HoldsGroup}
use Rattle.ts_exec.proofs.Slotted.{expected-slots, expected-made, expected-holds}
use Rattle.ts_exec.proofs.groups.insert_group.Goals as goal

pub returns-clause-slots : goal.returns-clause-slots
returns-clause-slots g c =
    let t : Slots = c.args.slots.now.items in
    let k : List Text = c.args.values in
    subst AreSlots (sym (c.in_ok-insert.ensures.items ∙ ap (insert t c.args.at) c.new-slot.ensures)) (expected-slots t c.requires.slots k c.args.at c.requires.bound c.requires.slot)

pub returns-clause-made : goal.returns-clause-made
returns-clause-made g c =
    let t : Slots = c.args.slots.now.items in
    let k : List Text = c.args.values in
    ap made (c.in_ok-insert.ensures.items ∙ ap (insert t c.args.at) c.new-slot.ensures) ∙ expected-made t c.requires.slots k c.args.at c.requires.bound c.requires.slot

pub returns-clause-slot : goal.returns-clause-slot
returns-clause-slot g c =
    let t : Slots = c.args.slots.now.items in
    let k : List Text = c.args.values in
    subst (λ (x : Slots). HoldsGroup k x c.args.at) (sym (c.in_ok-insert.ensures.items ∙ ap (insert t c.args.at) c.new-slot.ensures)) (expected-holds t c.requires.slots k c.args.at c.requires.bound c.requires.slot)
