use Rattle.std.proofs.Common.{length}
use Rattle.ts_exec.proofs.tag_conditions.+are_allowed.Given as goal

abbrev pub decreases-are_allowed : goal.decreases-are_allowed
decreases-are_allowed g l = length l.tags.now
