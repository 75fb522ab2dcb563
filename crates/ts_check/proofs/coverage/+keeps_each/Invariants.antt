use Rattle.std.proofs.Common.{length}
use Rattle.ts_check.proofs.coverage.+keeps_each.Given as goal

abbrev pub decreases-keeps_each : goal.decreases-keeps_each
decreases-keeps_each g l = length l.tags.now
