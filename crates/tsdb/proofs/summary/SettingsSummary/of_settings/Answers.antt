use Rattle.std.proofs.Common.{◌+◌, sym, subst, take, List}
use Rattle.std.specs.List.{AllZip}
use Rattle.tsdb.specs.SettingsShown.{ShowsRule}
use Rattle.tsdb.specs.declared.summary.RuleSettings.{RuleSettings}
use Rattle.tsdb.proofs.SettingsShownLemmas.{shown_next}
use Rattle.tsdb.proofs.summary.SettingsSummary.of_settings.Goals as goal

pub loop-rule-preserved : goal.loop-rule-preserved
loop-rule-preserved c =
    subst (λ (shown : List RuleSettings). AllZip ShowsRule (take (c.loop-rule.rule-index + 1) c.rules-rule-items.result.now) shown) (sym c.in_ok-push.ensures.items)
    (shown_next c.rules-rule-items.result.now c.loop-rule.rules.items c.loop-rule.rule-index c.rule-item.result c.in_ok-of_rule.field-0 c.loop-rule-test.true c.rule-item.is c.loop-rule.invariant c.in_ok-of_rule.ensures)
