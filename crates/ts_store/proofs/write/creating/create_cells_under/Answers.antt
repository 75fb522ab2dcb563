use Rattle.std.proofs.Common.{◌≡◌, ◌∙◌, ℕ, List, get_or}
use Rattle.std.proofs.lemmas.List.{get_or_default}
use Rattle.ts_store.proofs.write.CellsCreatedLemmas.{next_roomed}
use Rattle.ts_store.proofs.write.creating.create_cells_under.Goals as goal

pub loop-column-preserved : goal.loop-column-preserved
loop-column-preserved g c =
    let i = c.loop-column.invariant in
    let ns : List ℕ = c.args.touched.now in
    let k : ℕ = c.loop-column.column-index in
    let n : c.column-item.result ≡ get_or ns k 0 = c.column-item.is ∙ get_or_default ns k c.column-item.result 0 c.loop-column-test.true in
    let next = next_roomed c.args.rollup.now c.loop-column.rollup c.make_room.new.self c.args.index.now ns k c.column-item.result c.loop-column-test.true n c.in_ok-make_room.ensures.ok i.kept i.made in
    record { above = i.above; kept = next.0; made = next.1 }
