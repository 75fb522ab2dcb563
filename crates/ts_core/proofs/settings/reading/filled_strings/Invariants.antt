use Rattle.std.proofs.Common.{◌≡◌, map, string_bytes, drop}
use Rattle.serde_json.specs.View.{items_view}
use Rattle.ts_core.specs.settings.SettingsTexts.{each, filled_text}
use Rattle.ts_core.proofs.settings.EachItem.{behind}
use Rattle.ts_core.proofs.settings.reading.filled_strings.Given as goal

abbrev pub invariant-loop-value : goal.invariant-loop-value
invariant-loop-value g l = behind (map string_bytes l.texts.items) (each filled_text (items_view (drop l.value-index l.values))) ≡ each filled_text (items_view l.values)
