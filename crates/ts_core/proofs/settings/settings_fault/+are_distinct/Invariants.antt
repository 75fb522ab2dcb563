use Rattle.std.proofs.Common.{length}
use Rattle.ts_core.proofs.settings.settings_fault.+are_distinct.Given as goal

abbrev pub decreases-are_distinct : goal.decreases-are_distinct
decreases-are_distinct g l = length l.texts.now
