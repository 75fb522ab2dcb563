use Rattle.std.proofs.Common.{◌≤◌, ◌+◌, arith}
use Rattle.ts_line.specs.declared.scan.Stops.TheVariants.{Comma, Space}
use Rattle.ts_line.specs.Scan.{end_of}
use Rattle.ts_line.specs.PartTexts.{piece_at}
use Rattle.ts_line.proofs.LineLemmas.{measurement_kept}
use Rattle.ts_line.proofs.ends.measurement_end.Goals as goal

pub returns-clause-value : goal.returns-clause-value
returns-clause-value c =
    let line = c.args.line.now in
    let short : end_of Space line c.args.start ≤ c.args.start + 4096 = omega (arith, c.end_at.ensures.value, c.if-end_at-limit.false) in
    (piece_at Comma line c.args.start c.end_at-end.result.at, measurement_kept line c.args.start c.end_at-end.result.at c.end_at-end.ensures.value short c.if-end-start.false)
