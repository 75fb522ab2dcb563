use Rattle.std.proofs.Common.{length}
use Rattle.ts_core.proofs.text.fault_text.+push_all.Given as goal

abbrev pub decreases-push_all : goal.decreases-push_all
decreases-push_all g l = length l.parts.now
