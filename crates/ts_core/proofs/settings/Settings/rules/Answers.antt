use Rattle.std.proofs.Common.{◌≡◌, None, subst}
use Rattle.ts_core.specs.settings.Settings.{Settings}
use Rattle.ts_core.specs.settings.SettingsFaults.{settings_fault}
use Rattle.ts_core.proofs.settings.SettingsLaws.{settings_are}
use Rattle.ts_core.proofs.settings.Settings.rules.Goals as goal

pub returns-clause-valid : goal.returns-clause-valid
returns-clause-valid g c = settings_are c.args.self.now (subst (λ (s : Settings). settings_fault s ≡ None) c.self.view_is c.self.invariant.faultless)
