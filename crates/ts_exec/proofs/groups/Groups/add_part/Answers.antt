use Rattle.std.proofs.Common.{◌∙◌, ap, List}
use Rattle.std.proofs.lemmas.Result.{on_ok_weaker}
use Rattle.ts_core.specs.facts.Facts.{Text}
use Rattle.ts_exec.specs.RowParts.{with_part}
use Rattle.ts_exec.specs.Slots.{Slots}
use Rattle.ts_exec.specs.GroupTables.{Table, with_cell_part}
use Rattle.ts_exec.proofs.Slotted.{written-slots, written-made}
use Rattle.ts_exec.proofs.groups.Groups.add_part.Goals as goal

pub invariant_of-self-2 : goal.invariant_of-self-2
invariant_of-self-2 g c =
    written-slots c.slot_near.new.slots.items c.slot_near.ensures.slots c.args.values.now c.in_ok-at.at c.in_ok-at.ensures.slot c.index_mut.result.now c.add_part.new.self c.index_mut.ensures.value c.add_part.ensures.key

pub returns : goal.returns
returns g c =
    let k : List Text = c.args.values.now in
    let t : Slots = c.slot_near.new.slots.items in
    on_ok_weaker c.add_part.result (λ rows.
    written-made t c.slot_near.ensures.slots k c.in_ok-at.at c.in_ok-at.ensures.slot c.index_mut.result.now c.add_part.new.self c.index_mut.ensures.value c.add_part.ensures.key (with_part c.args.row_index c.args.part) c.args.width rows
    ∙ ap (λ (x : Table). with_cell_part c.args.width k c.args.row_index c.args.part x) (c.slot_near.ensures.made ∙ c.self.view_is)) c.add_part.ensures.rows
