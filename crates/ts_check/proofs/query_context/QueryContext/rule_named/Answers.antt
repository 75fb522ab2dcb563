use Rattle.std.proofs.Common.{◌∙◌, refl, sym}
use Rattle.ts_check.proofs.NamedRules.{not_named, named_at}
use Rattle.ts_check.proofs.query_context.QueryContext.rule_named.Goals as goal

pub returns-in_err-rule_named : goal.returns-in_err-rule_named
returns-in_err-rule_named g c = rw (← c.self.view_is) (c.from_residual.ensures ∙ sym (not_named c.args.name.now c.self.inside.settings.now.rules c.self.inside.marks.now.lows (c.in_err-rule_named.ensures.none refl)))

pub returns : goal.returns
returns g c = c.rule_at.ensures ∙ rw (← c.self.view_is) (sym (named_at _ _ _ _ c.in_ok-rule_named.ensures.some))
