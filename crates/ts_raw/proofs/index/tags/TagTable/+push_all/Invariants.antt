use Rattle.std.proofs.Common.{length}
use Rattle.ts_raw.proofs.index.tags.TagTable.+push_all.Given as goal

abbrev pub decreases-push_all : goal.decreases-push_all
decreases-push_all g l = length l.tags.now
