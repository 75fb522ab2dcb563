use Rattle.std.proofs.Common.{length}
use Rattle.tsdb.proofs.export.+put_texts.Given as goal

abbrev pub decreases-put_texts : goal.decreases-put_texts
decreases-put_texts g l = length l.texts.now
