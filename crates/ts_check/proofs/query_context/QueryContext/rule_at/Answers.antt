use Rattle.std.proofs.Common.{rules, ◌≡◌, ◌∙◌, length, refl, sym, ap, arith, Some, to_z, of_z}
use Rattle.std.specs.Int.{w128}
use Rattle.std.proofs.lemmas.Bool.{ltb-true}
use Rattle.std.proofs.lemmas.Option.{slice_get_past, slice_get_read}
use Rattle.ts_core.specs.plans.Pieces.{marked_rules}
use Rattle.ts_check.proofs.NamedRules.{marked_rules-short, marked_at}
use Rattle.ts_check.proofs.query_context.QueryContext.rule_at.Goals as goal

pub returns-in_err-rule : goal.returns-in_err-rule
returns-in_err-rule g c =
    let i = c.self.inside in
    let short = marked_rules-short i.settings.now.rules i.marks.now.lows in
    rw (← c.self.view_is) (c.from_residual.ensures ∙ sym (slice_get_past (marked_rules i.settings.now.rules i.marks.now.lows) c.args.number (omega (arith, ap length c.rules.ensures.value, c.in_err-rule.ensures.lookup.3))))

pub returns-in_err-low : goal.returns-in_err-low
returns-in_err-low g c =
    let i = c.self.inside in
    let short = marked_rules-short i.settings.now.rules i.marks.now.lows in
    rw (← c.self.view_is) (c.from_residual-in_err-low.ensures ∙ sym (slice_get_past (marked_rules i.settings.now.rules i.marks.now.lows) c.args.number (omega (arith, ap length c.lows.ensures, c.in_err-low.ensures.lookup.3))))

pub returns : goal.returns
returns g c =
    let rule = slice_get_read c.rules.result.now _ c.args.number _ refl (ltb-true _ _ (sym c.in_ok-rule.ensures.lookup.0)) c.in_ok-rule.ensures.lookup.1 in
    let low = slice_get_read c.lows.result.now _ c.args.number _ refl (ltb-true _ _ (sym c.in_ok-low.ensures.lookup.0)) c.in_ok-low.ensures.lookup.1 in
    let fits : c.in_ok-low.field-0.now ≡ to_z w128 (of_z w128 c.in_ok-low.field-0.now) = search rules in
    rw (← c.self.view_is) (sym (marked_at _ _ c.args.number _ _ (rw c.rules.ensures.value at rule) ((rw c.lows.ensures at low) ∙ ap Some fits)))
