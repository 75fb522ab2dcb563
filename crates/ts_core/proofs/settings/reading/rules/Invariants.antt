use Rattle.std.proofs.Common.{◌≡◌, drop}
use Rattle.serde_json.specs.View.{items_view}
use Rattle.ts_core.specs.settings.SettingsTexts.{each, rule_parsed}
use Rattle.ts_core.proofs.settings.EachItem.{behind}
use Rattle.ts_core.proofs.settings.reading.rules.Given as goal

abbrev pub invariant-loop-value : goal.invariant-loop-value
invariant-loop-value g l = behind l.rules.items (each rule_parsed (items_view (drop l.value-index l.values))) ≡ each rule_parsed (items_view l.values)
