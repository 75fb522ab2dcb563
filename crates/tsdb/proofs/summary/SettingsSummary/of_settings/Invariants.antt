use Rattle.std.proofs.Common.{take}
use Rattle.std.specs.List.{AllZip}
use Rattle.tsdb.specs.SettingsShown.{ShowsRule}
use Rattle.tsdb.proofs.summary.SettingsSummary.of_settings.Given as goal

abbrev pub invariant-loop-rule : goal.invariant-loop-rule
invariant-loop-rule l = AllZip ShowsRule (take l.rule-index l.rule-items) l.rules.items
