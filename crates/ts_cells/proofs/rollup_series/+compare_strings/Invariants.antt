use Rattle.std.proofs.Common.{length}
use Rattle.ts_cells.proofs.rollup_series.+compare_strings.Given as goal

abbrev pub decreases-compare_strings : goal.decreases-compare_strings
decreases-compare_strings g l = length l.texts.now
