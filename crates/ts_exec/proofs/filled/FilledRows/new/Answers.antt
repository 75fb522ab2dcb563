use Rattle.ts_exec.specs.Fillings.{functions_of}
use Rattle.ts_exec.proofs.FillSteps.{rows-filled}
use Rattle.ts_exec.proofs.filled.FilledRows.new.Goals as goal

pub returns : goal.returns
returns g c = rows-filled c.args.fill (functions_of c.args.columns.now) c.args.rows
