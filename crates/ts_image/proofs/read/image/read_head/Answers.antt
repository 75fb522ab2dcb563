use Rattle.std.specs.Prelude.{◌≢◌}
use Rattle.std.proofs.Common.{rules}
use Rattle.ts_image.specs.declared.version.Version.TheVariants.{V1, V2}
use Rattle.std.proofs.lemmas.Result.{err_from_is_err_and}
use Rattle.ts_image.specs.Images.{image_mark}
use Rattle.ts_image.proofs.Heads.{no_head, head_of, other_head, cut_head, same_bytes, not_same}
use Rattle.ts_image.proofs.read.image.read_head.Goals as goal

pub returns-then-ne : goal.returns-then-ne
returns-then-ne g c = no_head c.args.reader.now c.read_exact.new.self c.args.source.now c.read_exact.new.source c.read_exact.new.buffer c.read_exact.ensures.len c.in-Ok.ensures.filled c.in-Ok.ensures.calls (not_same c.read_exact.new.buffer image_mark c.if-ne.ensures)

pub returns-in-1 : goal.returns-in-1
returns-in-1 g c =
    let m = same_bytes c.read_exact.new.buffer image_mark c.if-ne.ensures in
    head_of c.args.reader.now c.read_exact.new.self c.args.source.now c.read_exact.new.source c.read_exact.new.buffer c.read_exact.ensures.len c.in-Ok.ensures.filled c.in-Ok.ensures.calls m c.u8.new.self c.u8.new.source V1 c.in_ok-u8.field-0 c.in_ok-u8.ensures c.in-1.is

pub returns-in-2 : goal.returns-in-2
returns-in-2 g c =
    let m = same_bytes c.read_exact.new.buffer image_mark c.if-ne.ensures in
    head_of c.args.reader.now c.read_exact.new.self c.args.source.now c.read_exact.new.source c.read_exact.new.buffer c.read_exact.ensures.len c.in-Ok.ensures.filled c.in-Ok.ensures.calls m c.u8.new.self c.u8.new.source V2 c.in_ok-u8.field-0 c.in_ok-u8.ensures c.in-2.is

pub returns-in_default : goal.returns-in_default
returns-in_default g c =
    let m = same_bytes c.read_exact.new.buffer image_mark c.if-ne.ensures in
    let not_1 : c.in_ok-u8.field-0 ≢ 1 = search rules in
    let not_2 : c.in_ok-u8.field-0 ≢ 2 = search rules in
    other_head c.args.reader.now c.read_exact.new.self c.args.source.now c.read_exact.new.source c.read_exact.new.buffer c.read_exact.ensures.len c.in-Ok.ensures.filled c.in-Ok.ensures.calls m c.u8.new.self c.u8.new.source c.in_ok-u8.field-0 c.in_ok-u8.ensures not_1 not_2

pub returns-in_err-u8 : goal.returns-in_err-u8
returns-in_err-u8 g c =
    let p = err_from_is_err_and c.from_residual.result c.from_residual.ensures.1 in
    let m = same_bytes c.read_exact.new.buffer image_mark c.if-ne.ensures in
    rw (p.1, p.2)
    (cut_head c.args.reader.now c.read_exact.new.self c.args.source.now c.read_exact.new.source c.read_exact.new.buffer c.read_exact.ensures.len c.in-Ok.ensures.filled c.in-Ok.ensures.calls m c.u8.new.self c.u8.new.source c.in_err-u8.field-0.0 c.in_err-u8.ensures)
