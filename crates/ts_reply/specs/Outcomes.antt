-- Outcomes of statements. (Own rules.)
use Rattle.std.specs.Prelude.{List}
use Rattle.ts_core.specs.facts.Facts.{Text, Fact}
use Rattle.ts_core.specs.queries.Answers.{answer_of}
use Rattle.ts_core.specs.queries.Fills.{FilledGroup, filled}
use Rattle.ts_exec.specs.Fillings.{FilledAnswer, functions_of}
use Rattle.ts_ql.specs.Selects.{Select}

pub data Outcome : Type 0 where
  -- the query with the groups of the answer, their rows filled
  Rows : Select → List FilledGroup → Outcome
  -- the certificate of the plan
  Certificate : Text → Outcome
  -- an error message
  Fault : Text → Outcome

abbrev pub rows_outcome : FilledAnswer → Outcome
rows_outcome a = Rows a.select a.groups

-- the rows of a query over facts
abbrev pub rows_over : List Fact → Select → Outcome
rows_over facts s = Rows s (filled s.fill (functions_of s.columns) (answer_of facts s.query))
