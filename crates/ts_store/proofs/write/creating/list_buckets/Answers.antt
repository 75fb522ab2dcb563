use Rattle.std.proofs.Common.{◌≡◌, ◌++◌, ◌∷◌, [], ◌∙◌, ℤ, List, ap, ap₂, sym, map, take, rules}
use Rattle.std.proofs.lemmas.List.{take_more, map-append}
use Rattle.ts_core.specs.store.Marks.{index_of}
use Rattle.ts_core.specs.settings.Settings.{Rule}
use Rattle.ts_store.proofs.write.creating.list_buckets.Goals as goal

pub loop-rule-preserved : goal.loop-rule-preserved
loop-rule-preserved g c =
    let bucket : Rule → ℤ = λ r. index_of r c.args.time in
    let rs : List Rule = c.args.rules.now in
    let here : c.index_of.result ≡ bucket c.rule-item.result = search rules in
    let pushed : c.push.new.self.items ≡ c.loop-rule.buckets.items ++ c.index_of.result ∷ [] = search rules in
    let more = take_more rs c.loop-rule.rule-index c.rule-item.result c.loop-rule-test.true in
    pushed
    ∙ ap₂ (λ (xs : List ℤ) (x : ℤ). xs ++ x ∷ []) c.loop-rule.invariant (here ∙ ap bucket c.rule-item.is)
    ∙ sym (ap (map bucket) more ∙ map-append bucket (take c.loop-rule.rule-index rs) _)
