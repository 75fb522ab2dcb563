use Rattle.std.proofs.Common.{◌<◌, length}
use Rattle.std.proofs.lemmas.Result.{err_from_is_err_and}
use Rattle.tsdb.specs.Exports.{ExportColumn, column_lines}
use Rattle.tsdb.proofs.AppendLemmas.{puts_more, puts_stop}
use Rattle.ts_image.proofs.Saved.{all_at}
use Rattle.tsdb.proofs.export.put_columns.Goals as goal

pub returns-in_err-put_column : goal.returns-in_err-put_column
returns-in_err-put_column g c =
    let p = err_from_is_err_and c.from_residual.result c.from_residual.ensures.1 in
    rw p.1 (puts_stop (column_lines c.args.store.now) c.args.sink.now c.args.out.now c.args.columns.now c.loop-column.column-index c.column-item.result c.loop-column.sink c.put_column.new.sink c.loop-column.out c.put_column.new.out _ _ c.loop-column-test.true c.column-item.is c.loop-column.invariant c.in_err-put_column.ensures)

pub loop-column-preserved : goal.loop-column-preserved
loop-column-preserved g c =
    puts_more (column_lines c.args.store.now) c.args.sink.now c.args.out.now c.args.columns.now c.loop-column.column-index c.column-item.result c.loop-column.sink c.put_column.new.sink c.loop-column.out c.put_column.new.out c.loop-column-test.true c.column-item.is c.loop-column.invariant c.in_ok-put_column.ensures

pub put_column-requires : goal.put_column-requires
put_column-requires g c = all_at (λ (x : ExportColumn). x.number < length c.args.store.now.columns) c.args.columns.now c.loop-column.column-index c.column-item.result c.loop-column-test.true c.column-item.is c.requires
