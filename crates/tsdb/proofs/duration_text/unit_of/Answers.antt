use Rattle.std.proofs.Common.{arith}
use Rattle.tsdb.proofs.SettingsShownLemmas.{days, hours, minutes, seconds, milliseconds, microseconds, nanoseconds}
use Rattle.tsdb.proofs.duration_text.unit_of.Goals as goal

pub loop-unit-init : goal.loop-unit-init
loop-unit-init c = ((omega arith, days), ((omega arith, hours), ((omega arith, minutes), ((omega arith, seconds), ((omega arith, milliseconds), ((omega arith, microseconds), tt))))))

pub returns-clause-unit : goal.returns-clause-unit
returns-clause-unit c = nanoseconds
