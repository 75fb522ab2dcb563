use Rattle.ts_image.proofs.SavedWholes.{columns_there}
use Rattle.tsdb.proofs.summary.Summary.of_store.Goals as goal

pub count_waiting-requires : goal.count_waiting-requires
count_waiting-requires c =
    let k = c.args.store.now in
    rw c.as_slice.ensures.value (columns_there k c.in_ok-all.all.items c.in_ok-all.ensures)
