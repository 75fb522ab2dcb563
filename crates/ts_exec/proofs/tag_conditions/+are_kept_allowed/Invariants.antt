use Rattle.std.proofs.Common.{length}
use Rattle.ts_exec.proofs.tag_conditions.+are_kept_allowed.Given as goal

abbrev pub decreases-are_kept_allowed : goal.decreases-are_kept_allowed
decreases-are_kept_allowed g l = length l.kept.now
