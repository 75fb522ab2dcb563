use Rattle.std.proofs.Common.{length, ap, sym, ◌∙◌}
use Rattle.ts_core.proofs.lists.Indices.{item_at}
use Rattle.ts_image.proofs.SavedOf.{saved_at}
use Rattle.ts_image.proofs.write.store_cells.count_cells.Goals as goal

pub returns-in-Ok : goal.returns-in-Ok
returns-in-Ok g c =
    let its = item_at c.args.store.now.rules c.args.number c.requires in
    c.in-Ok.ensures.1 ∙ c.frozen_count.ensures its.0 its.1 ∙ ap length (sym (saved_at c.args.store.now c.args.number its.0 its.1))
