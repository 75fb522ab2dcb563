use Rattle.std.proofs.Common.{◌≡◌, ◌++◌, ◌∷◌, [], ◌∙◌, ℤ, List, ap, ap₂, sym, map, take, rules}
use Rattle.std.proofs.lemmas.List.{take_more, map-append}
use Rattle.ts_core.specs.store.Marks.{index_of}
use Rattle.ts_core.specs.settings.Settings.{Rule}
use Rattle.ts_core.specs.facts.Times.{least_time}
use Rattle.ts_store.proofs.store.first_lows.Goals as goal

pub loop-rule-preserved : goal.loop-rule-preserved
loop-rule-preserved g c =
    let low : Rule → ℤ = λ r. index_of r least_time in
    let rs : List Rule = c.args.rules.now in
    let here : c.index_of.result ≡ low c.rule-item.result = search rules in
    let pushed : c.push.new.self.items ≡ c.loop-rule.lows.items ++ c.index_of.result ∷ [] = search rules in
    let more = take_more rs c.loop-rule.rule-index c.rule-item.result c.loop-rule-test.true in
    pushed
    ∙ ap₂ (λ (xs : List ℤ) (x : ℤ). xs ++ x ∷ []) c.loop-rule.invariant (here ∙ ap low c.rule-item.is)
    ∙ sym (ap (map low) more ∙ map-append low (take c.loop-rule.rule-index rs) _)
