use Rattle.ts_ql.proofs.StatementLemmas.{IsToldFrom}
use Rattle.ts_ql.proofs.lists.columns.repeats.Given as goal

abbrev pub invariant-loop-column : goal.invariant-loop-column
invariant-loop-column g l = IsToldFrom l.names.keys l.columns l.column-index
