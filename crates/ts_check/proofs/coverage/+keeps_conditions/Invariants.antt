use Rattle.std.proofs.Common.{length}
use Rattle.ts_check.proofs.coverage.+keeps_conditions.Given as goal

abbrev pub decreases-keeps_conditions : goal.decreases-keeps_conditions
decreases-keeps_conditions g l = length l.conditions.now
