use Rattle.std.proofs.Common.{rules, ◌≡◌, ◌<◌, length, ap, ◌∙◌}
use Rattle.std.specs.Prelude.{slice_index_or}
use Rattle.ts_core.specs.store.RawFacts.{is_waiting}
use Rattle.ts_core.specs.io.ReadingAhead.{bit}
use Rattle.ts_core.specs.store.StoreStates.{ColumnPoints}
use Rattle.ts_core.specs.store.StoreData.{StoreData}
use Rattle.ts_store.specs.image.SavedContent.{SavedColumn}
use Rattle.ts_store.specs.read.ViewResults.{no_points}
use Rattle.ts_image.specs.Saving.{image_column_of}
use Rattle.ts_image.proofs.Putting.{puts_at}
use Rattle.ts_image.proofs.SavedOf.{at_number, waits_is, column_same}
use Rattle.ts_image.proofs.write.store_series.put_saved_column.Goals as goal

pub returns : goal.returns
returns g c =
    let k : StoreData = c.args.store.now in
    let x : SavedColumn = record { field = c.column.inside.field.now; number = c.column.inside.id } in
    let e : x ≡ c.args.column.now = search rules in
    let lt : x.number < length k.columns = search rules in
    let s : ColumnPoints = slice_index_or k.columns x.number no_points in
    let w : c.waits-waits.result ≡ is_waiting k.waiting s.column = waits_is c.waits-waits.result s.column k.waiting (c.waits-waits.ensures s (at_number k.columns x.number no_points lt)) in
    puts_at (column_same c.as_str.result.now x.field (bit c.waits-waits.result) (bit (is_waiting k.waiting s.column)) c.points_of-points.result s.points c.as_str.ensures (ap bit w) c.points_of-points.ensures.points ∙ ap (image_column_of k) e) c.put_column.ensures
