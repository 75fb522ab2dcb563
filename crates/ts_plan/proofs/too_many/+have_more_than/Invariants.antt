use Rattle.std.proofs.Common.{length}
use Rattle.ts_plan.proofs.too_many.+have_more_than.Given as goal

abbrev pub decreases-have_more_than : goal.decreases-have_more_than
decreases-have_more_than g l = length l.rules.now
