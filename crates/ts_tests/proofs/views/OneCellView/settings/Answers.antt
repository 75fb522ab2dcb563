use Rattle.std.proofs.Common.{◌≡◌, ◌∙◌, List, [], ◌∷◌, ap, refl, map}
use Rattle.ts_store.specs.read.ViewResults.{SeenCell}
use Rattle.ts_tests.proofs.views.OneCellView.settings.Goals as goal
use Rattle.ts_core.specs.store.StoreStates.{RuleCells, rule_of}

same_rules : (c : SeenCell) (rs : List RuleCells) → map rule_of (map (λ (r : RuleCells). record { rule = r.rule; low = r.low; cells = c.cell ∷ []; parts = λ k. c.parts }) rs) ≡ map rule_of rs
same_rules c [] = refl
same_rules c (r ∷ rs) = ap (λ xs. r.rule ∷ xs) (same_rules c rs)

pub returns-clause-rules : goal.returns-clause-rules
returns-clause-rules g c = same_rules _ _ ∙ c.settings.ensures.rules
