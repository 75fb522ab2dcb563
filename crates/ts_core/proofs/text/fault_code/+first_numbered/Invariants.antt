use Rattle.std.proofs.Common.{length}
use Rattle.ts_core.proofs.text.fault_code.+first_numbered.Given as goal

abbrev pub decreases-first_numbered : goal.decreases-first_numbered
decreases-first_numbered l = length l.codes.now
