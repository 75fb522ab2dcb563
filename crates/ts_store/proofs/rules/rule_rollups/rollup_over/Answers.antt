use Rattle.std.proofs.Common.{◌≡◌, ◌∙◌, ℕ, ◌+◌, List, [], get_or, sym, subst, arith}
use Rattle.std.proofs.lemmas.Option.{slice_get-get_or, same_Some}
use Rattle.ts_core.specs.facts.Facts.{Column}
use Rattle.ts_core.specs.lists.Numbered.{IsAt}
use Rattle.ts_store.specs.rollup.Rollups.{HasNext}
use Rattle.ts_store.specs.rules.RuleRollups.{HasFirstRollupSeries}
use Rattle.ts_store.proofs.rules.RuleRollupLemmas.{one_rollup_series}
use Rattle.ts_store.proofs.rules.rule_rollups.rollup_over.Goals as goal

pub loop-number-preserved : goal.loop-number-preserved
loop-number-preserved g c =
    let cs : List Column = c.args.index.now.columns in
    let n : ℕ = c.loop-number.number in
    let none : Column = record { series = record { measurement = []; tags = [] }; field = [] } in
    let x : Column = get_or cs n none in
    let at : IsAt cs n x = slice_get-get_or cs n none (let end = c.column_count-number-end.ensures.value in omega (arith, end)) in
    let here : IsAt cs c.in_ok-column.column x = subst (λ k. IsAt cs k x) (sym c.in_ok-column.ensures) at in
    let key : c.key_of-key.result.now ≡ x.series = same_Some c.key_of-key.result.now x.series (sym c.key_of-key.ensures ∙ c.series_of.ensures.names x here) in
    let field : c.as_str.result.now ≡ x.field = c.as_str.ensures ∙ c.field_of.ensures x here in
    let named : record { series = c.key_of-key.result.now; field = c.as_str.result.now } ≡ x = λ i. record { series = key i; field = field i } in
    let next : HasNext c.args.rule.now x c.prepare.new.self = subst (λ (y : Column). HasNext c.args.rule.now y c.prepare.new.self) named c.in_ok-prepare.ensures.next in
    subst (HasFirstRollupSeries c.args.rule.now cs (n + 1)) (sym c.commit.ensures) (one_rollup_series c.args.rule.now cs n x c.loop-number.rollup c.prepare.new.self at c.prepare.ensures.kept next c.loop-number.invariant)
