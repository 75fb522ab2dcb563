use Rattle.std.proofs.Common.{length}
use Rattle.ts_exec.proofs.cell_piece.+kept_value.Given as goal

abbrev pub decreases-kept_value : goal.decreases-kept_value
decreases-kept_value g l = length l.kept.now
