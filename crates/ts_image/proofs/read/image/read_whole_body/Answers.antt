use Rattle.std.proofs.lemmas.Result.{err_from_is_err_and}
use Rattle.ts_image.specs.Images.{image}
use Rattle.ts_image.specs.ImageReading.{image_of}
use Rattle.ts_image.proofs.WholeReading.{end_stops}
use Rattle.ts_image.proofs.read.image.read_whole_body.Goals as goal

pub returns-in_err-end : goal.returns-in_err-end
returns-in_err-end g c =
    let p = err_from_is_err_and c.from_residual-in_err-end.result c.from_residual-in_err-end.ensures.1 in
    rw (p.1, p.2)
    (end_stops (image c.args.version) image_of c.args.reader.now c.read_body.new.reader c.end.new.self c.args.source.now c.read_body.new.source c.end.new.source c.in_ok-parts.parts c.in_ok-parts.ensures c.in_err-end.field-0.0 c.in_err-end.ensures.value c.in_err-end.ensures.calls)
