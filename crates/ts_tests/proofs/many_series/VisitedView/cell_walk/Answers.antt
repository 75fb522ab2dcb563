use Rattle.std.proofs.Common.{◌≡◌, ℕ, zero, suc, ℤ, pos, List, [], ◌∷◌, sym, refl, ◌∙◌, get_or, map}
use Rattle.ts_core.specs.aggregates.Aggregates.{empty_aggregate}
use Rattle.ts_core.specs.settings.Settings.{Rule}
use Rattle.ts_core.specs.store.TwoParts.{both_parts}
use Rattle.ts_core.specs.store.StoreStates.{RuleCells}
use Rattle.ts_store.specs.read.ViewResults.{no_rule, cells_within}
use Rattle.ts_tests.proofs.many_series.VisitedView.cell_walk.Goals as goal

abbrev alone : Rule → RuleCells
alone r = record { rule = r; low = pos 0; cells = []; parts = λ k. both_parts empty_aggregate }

no_cells : (rs : List Rule) (n : ℕ) (a b : ℤ) → cells_within (get_or (map alone rs) n no_rule) a b ≡ []
no_cells [] n a b = refl
no_cells (r ∷ rs) zero a b = refl
no_cells (r ∷ rs) (suc n) a b = no_cells rs n a b

pub returns : goal.returns
returns g c = c.from_slice.ensures ∙ sym (no_cells c.args.self.now.settings.now.rules _ _ _)
