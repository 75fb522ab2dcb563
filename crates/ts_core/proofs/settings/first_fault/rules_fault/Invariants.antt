use Rattle.std.proofs.Common.{◌≡◌, [], take, drop}
use Rattle.ts_core.specs.settings.SettingsFaults.{rules_fault}
use Rattle.ts_core.specs.settings.SettingsFound.{rules_found}
use Rattle.ts_core.proofs.settings.first_fault.rules_fault.Given as goal

abbrev pub invariant-loop-number : goal.invariant-loop-number
invariant-loop-number l = rules_fault l.raw (rules_found (take l.number l.rules)) (rules_found (drop l.number l.rules)) ≡ rules_fault l.raw [] (rules_found l.rules)
