-- An answer together with its query. (InfluxData 1.8, InfluxQL: the GROUP BY clause.)
use Rattle.std.specs.Prelude.{◌≡◌, ℕ, List, length}
use Rattle.ts_core.specs.facts.Facts.{Text}
use Rattle.ts_core.specs.aggregates.Aggregates.{Aggregate}
use Rattle.ts_core.specs.queries.Answers.{Group}
use Rattle.ts_ql.specs.Selects.{Select}

pub record Answered : Type 0 where
  pub select : Select
  pub groups : List Group

-- a group has n rows
abbrev pub HasRows : ℕ → List Text × List Aggregate → Type 0
HasRows n group = length group.1 ≡ n
