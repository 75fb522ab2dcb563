use Rattle.std.proofs.Common.{◌≡◌, ◌-◌, [], ◌∷◌, ◌++◌, map, ap, arith, refl}
use Rattle.ts_image.specs.SeriesParts.{column_of_parts, column_parts_of}
use Rattle.ts_image.specs.Images.{image_column}
use Rattle.std.proofs.lemmas.Result.{err_from_is_err_and}
use Rattle.std.proofs.lemmas.List.{map_push}
use Rattle.ts_core.proofs.lists.Remaining.{one_left}
use Rattle.ts_image.proofs.Loops.{starts, goes_on, breaks, no_memory_left, finishes}
use Rattle.ts_image.proofs.read.series.read_columns.Goals as goal

pub loop-init : goal.loop-init
loop-init g c = starts (image_column c.args.version) c.args.count c.args.reader.now c.args.source.now (c.args.count - 0) (map column_of_parts c.new-columns.result.items) (omega arith) (ap (map column_of_parts) c.new-columns.ensures.items) c.requires

pub returns-in_err-column : goal.returns-in_err-column
returns-in_err-column g c =
    let p = err_from_is_err_and c.from_residual.result c.from_residual.ensures.1 in
    rw (p.1, p.2) (breaks (image_column c.args.version) c.args.count c.args.reader.now c.args.source.now column_of_parts _ _ (one_left c.args.count c.loop.counter c.loop-test.true) (map column_of_parts c.loop.columns.items) c.loop.reader c.read_column.new.reader c.loop.source c.read_column.new.source c.loop.invariant column_parts_of c.in_err-column.field-0.0 c.in_err-column.ensures)

pub returns-in_err-reserve_eighth : goal.returns-in_err-reserve_eighth
returns-in_err-reserve_eighth g c =
    let p = err_from_is_err_and c.from_residual-in_err-reserve_eighth.result c.from_residual-in_err-reserve_eighth.ensures.1 in
    rw (p.1, p.2) (no_memory_left (image_column c.args.version) c.args.count c.args.reader.now c.args.source.now column_of_parts _ _ (one_left c.args.count c.loop.counter c.loop-test.true) (map column_of_parts c.loop.columns.items) c.loop.reader c.read_column.new.reader c.loop.source c.read_column.new.source c.loop.invariant column_parts_of c.in_ok-column.column c.in_ok-column.ensures)

pub loop-preserved : goal.loop-preserved
loop-preserved g c =
    let pushed : map column_of_parts c.push_reserved.new.self.items ≡ map column_of_parts c.loop.columns.items ++ column_of_parts c.in_ok-column.column ∷ [] = rw (c.push_reserved.ensures.items, c.in_ok-reserve_eighth.ensures.items) (map_push _ c.loop.columns.items c.in_ok-column.column) in
    goes_on (image_column c.args.version) c.args.count c.args.reader.now c.args.source.now column_of_parts _ _ (one_left c.args.count c.loop.counter c.loop-test.true) (map column_of_parts c.loop.columns.items) c.loop.reader c.read_column.new.reader c.loop.source c.read_column.new.source c.loop.invariant c.in_ok-column.column _ pushed c.in_ok-column.ensures

pub returns : goal.returns
returns g c = finishes (image_column c.args.version) c.args.count c.args.reader.now c.args.source.now (c.args.count - c.loop.counter) (omega arith) (map column_of_parts c.loop.columns.items) c.loop.reader c.loop.source column_parts_of c.loop.columns c.loop.invariant refl
