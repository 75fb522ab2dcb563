use Rattle.std.proofs.Common.{length}
use Rattle.ts_reply.proofs.reply.+push_results.Given as goal

abbrev pub decreases-push_results : goal.decreases-push_results
decreases-push_results g l = length l.outcomes.now
