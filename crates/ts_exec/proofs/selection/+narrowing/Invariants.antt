use Rattle.std.proofs.Common.{length}
use Rattle.ts_exec.proofs.selection.+narrowing.Given as goal

abbrev pub decreases-narrowing : goal.decreases-narrowing
decreases-narrowing g l = length l.conditions.now
