use Rattle.ts_core.proofs.facts.DurationLaws.{durations_add_up}
use Rattle.ts_core.proofs.settings.SettingsBack.{settings_read_back}
use Rattle.ts_core.proofs.store.laws.settings_texts.Goals as goal

pub returns : goal.returns
returns c = record {
  durations = durations_add_up;
  read_back = settings_read_back;
}
