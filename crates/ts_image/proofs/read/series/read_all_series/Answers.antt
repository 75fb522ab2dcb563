use Rattle.std.proofs.Common.{◌≡◌, ◌-◌, [], ◌∷◌, ◌++◌, map, ap, arith, refl}
use Rattle.ts_image.specs.SeriesParts.{series_of_parts, all_series_of}
use Rattle.ts_image.specs.Images.{image_series}
use Rattle.std.proofs.lemmas.Result.{err_from_is_err_and}
use Rattle.std.proofs.lemmas.List.{map_push}
use Rattle.ts_core.proofs.lists.Remaining.{one_left}
use Rattle.ts_image.proofs.Loops.{starts, goes_on, breaks, no_memory_left, finishes}
use Rattle.ts_image.proofs.read.series.read_all_series.Goals as goal

pub loop-init : goal.loop-init
loop-init g c = starts (image_series c.args.version) c.args.count c.args.reader.now c.args.source.now (c.args.count - 0) (map series_of_parts c.new-series.result.items) (omega arith) (ap (map series_of_parts) c.new-series.ensures.items) c.requires

pub returns-in_err-one : goal.returns-in_err-one
returns-in_err-one g c =
    let p = err_from_is_err_and c.from_residual.result c.from_residual.ensures.1 in
    rw (p.1, p.2) (breaks (image_series c.args.version) c.args.count c.args.reader.now c.args.source.now series_of_parts _ _ (one_left c.args.count c.loop.counter c.loop-test.true) (map series_of_parts c.loop.series.items) c.loop.reader c.read_series.new.reader c.loop.source c.read_series.new.source c.loop.invariant all_series_of c.in_err-one.field-0.0 c.in_err-one.ensures)

pub returns-in_err-reserve_eighth : goal.returns-in_err-reserve_eighth
returns-in_err-reserve_eighth g c =
    let p = err_from_is_err_and c.from_residual-in_err-reserve_eighth.result c.from_residual-in_err-reserve_eighth.ensures.1 in
    rw (p.1, p.2) (no_memory_left (image_series c.args.version) c.args.count c.args.reader.now c.args.source.now series_of_parts _ _ (one_left c.args.count c.loop.counter c.loop-test.true) (map series_of_parts c.loop.series.items) c.loop.reader c.read_series.new.reader c.loop.source c.read_series.new.source c.loop.invariant all_series_of c.in_ok-one.one c.in_ok-one.ensures)

pub loop-preserved : goal.loop-preserved
loop-preserved g c =
    let pushed : map series_of_parts c.push_reserved.new.self.items ≡ map series_of_parts c.loop.series.items ++ series_of_parts c.in_ok-one.one ∷ [] = rw (c.push_reserved.ensures.items, c.in_ok-reserve_eighth.ensures.items) (map_push _ c.loop.series.items c.in_ok-one.one) in
    goes_on (image_series c.args.version) c.args.count c.args.reader.now c.args.source.now series_of_parts _ _ (one_left c.args.count c.loop.counter c.loop-test.true) (map series_of_parts c.loop.series.items) c.loop.reader c.read_series.new.reader c.loop.source c.read_series.new.source c.loop.invariant c.in_ok-one.one _ pushed c.in_ok-one.ensures

pub returns : goal.returns
returns g c = finishes (image_series c.args.version) c.args.count c.args.reader.now c.args.source.now (c.args.count - c.loop.counter) (omega arith) (map series_of_parts c.loop.series.items) c.loop.reader c.loop.source all_series_of c.loop.series c.loop.invariant refl
