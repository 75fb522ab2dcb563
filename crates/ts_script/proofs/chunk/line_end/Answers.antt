use Rattle.ts_script.proofs.LineScan.{ends_there, ends_nowhere}
use Rattle.ts_script.proofs.chunk.line_end.Goals as goal

pub returns-in-Some : goal.returns-in-Some
returns-in-Some c = let at = c.in-Some.ensures in ends_there c.args.bytes.now c.in-Some.at at.0.high at.1 at.0.before

pub returns-in-None : goal.returns-in-None
returns-in-None c = ends_nowhere c.args.bytes.now c.in-None.ensures
