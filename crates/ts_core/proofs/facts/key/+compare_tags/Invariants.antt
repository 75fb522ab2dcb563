use Rattle.std.proofs.Common.{length}
use Rattle.ts_core.proofs.facts.key.+compare_tags.Given as goal

abbrev pub decreases-compare_tags : goal.decreases-compare_tags
decreases-compare_tags g l = length l.tags.now
