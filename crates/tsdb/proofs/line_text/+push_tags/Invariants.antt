use Rattle.std.proofs.Common.{length}
use Rattle.tsdb.proofs.line_text.+push_tags.Given as goal

abbrev pub decreases-push_tags : goal.decreases-push_tags
decreases-push_tags l = length l.tags.now
