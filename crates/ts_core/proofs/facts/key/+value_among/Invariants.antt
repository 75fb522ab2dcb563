use Rattle.std.proofs.Common.{length}
use Rattle.ts_core.proofs.facts.key.+value_among.Given as goal

abbrev pub decreases-value_among : goal.decreases-value_among
decreases-value_among g l = length l.tags.now
