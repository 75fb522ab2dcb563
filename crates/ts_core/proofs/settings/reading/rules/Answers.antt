use Rattle.std.proofs.Common.{◌∙◌, ◌+◌, ap, sym, drop}
use Rattle.serde_json.specs.View.{items_view}
use Rattle.ts_core.specs.settings.SettingsTexts.{each, rule_parsed}
use Rattle.ts_core.proofs.settings.EachItem.{behind, read_more}
use Rattle.ts_core.proofs.settings.reading.rules.Goals as goal

pub loop-value-preserved : goal.loop-value-preserved
loop-value-preserved g c =
    let values = c.args.values.now in
    let at = c.loop-value.value-index in
    ap (λ xs. behind xs (each rule_parsed (items_view (drop (at + 1) values)))) c.in_ok-push.ensures.items
    ∙ sym (read_more rule_parsed c.loop-value.rules.items values at c.value-item.result c.in_ok-rule.field-0 c.loop-value-test.true (sym c.value-item.is) c.in_ok-rule.ensures.ok)
    ∙ c.loop-value.invariant
