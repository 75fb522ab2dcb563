use Rattle.std.proofs.Common.{[]}
use Rattle.std.specs.Prelude.{flat_map}
use Rattle.ts_core.proofs.io.OutputBufferLemmas.{no_put}
use Rattle.ts_image.proofs.SavedWholes.{flushed}
use Rattle.tsdb.specs.Exports.{column_lines}
use Rattle.tsdb.proofs.export.put_all.Goals as goal

pub returns : goal.returns
returns g c =
    flushed c.args.sink.now c.args.sink.now c.put_columns.new.sink c.flush.new.sink c.args.out.now c.args.out.now c.put_columns.new.out c.flush.new.self [] (flat_map (column_lines c.args.store.now) c.args.columns.now) c.flush.result
    c.requires.empty (no_put c.args.sink.now c.args.out.now) c.in_ok-put_columns.ensures c.flush.ensures.buffered c.flush.ensures.empty
