use Rattle.std.proofs.Common.{◌<◌, ℕ, List, length, Result, Ok, Err, IfOk}
use Rattle.std.proofs.lemmas.Option.{slice_get_within}
use Rattle.ts_core.specs.lists.Numbered.{IsAt}
use Rattle.ts_unit_tests.proofs.cell_limits.rollup_series_of.Goals as goal

-- an index of an item is within the list
within : {X E : Type 0} (xs : List X) (x : X) (r : Result ℕ E) → IfOk r (λ n. IsAt xs n x) → IfOk r (λ n. n < length xs)
within xs x (Ok n) at = slice_get_within xs n x at
within xs x (Err e) at = at

pub returns : goal.returns
returns g = within _ _ _ g.series.ensures.number
