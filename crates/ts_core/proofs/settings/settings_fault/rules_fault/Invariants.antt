use Rattle.std.proofs.Common.{◌≡◌, [], take, drop}
use Rattle.std.specs.List.{AllByRecursion}
use Rattle.ts_core.specs.settings.Settings.{IsPossibleRule}
use Rattle.ts_core.specs.settings.SettingsFaults.{rules_fault}
use Rattle.ts_core.proofs.settings.settings_fault.rules_fault.Given as goal

abbrev pub invariant-loop-number : goal.invariant-loop-number
invariant-loop-number g l = (rules_fault l.raw (take l.number l.rules) (drop l.number l.rules) ≡ rules_fault l.raw [] l.rules) × AllByRecursion IsPossibleRule (take l.number l.rules)
