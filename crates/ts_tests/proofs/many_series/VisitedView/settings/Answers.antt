use Rattle.std.proofs.Common.{◌≡◌, List, [], ◌∷◌, pos, ap, refl, map}
use Rattle.ts_core.specs.aggregates.Aggregates.{empty_aggregate}
use Rattle.ts_core.specs.settings.Settings.{Rule}
use Rattle.ts_core.specs.store.TwoParts.{both_parts}
use Rattle.ts_core.specs.store.StoreStates.{RuleCells, rule_of}
use Rattle.ts_tests.proofs.many_series.VisitedView.settings.Goals as goal

abbrev alone : Rule → RuleCells
alone r = record { rule = r; low = pos 0; cells = []; parts = λ k. both_parts empty_aggregate }

same_rules : (rs : List Rule) → map rule_of (map alone rs) ≡ rs
same_rules [] = refl
same_rules (r ∷ rs) = ap (λ (xs : List Rule). r ∷ xs) (same_rules rs)

pub returns-clause-rules : goal.returns-clause-rules
returns-clause-rules g c = same_rules c.args.self.now.settings.now.rules
