use Rattle.std.proofs.Common.{◌<◌}
use Rattle.std.specs.List.{AllByRecursion}
use Rattle.tsdb.specs.SettingsShown.{IsUnit}
use Rattle.tsdb.proofs.duration_text.unit_of.Given as goal

abbrev pub invariant-loop-unit : goal.invariant-loop-unit
invariant-loop-unit l = AllByRecursion (λ u. (0 < u.0) × IsUnit u.0 u.1.now) l.unit-items
