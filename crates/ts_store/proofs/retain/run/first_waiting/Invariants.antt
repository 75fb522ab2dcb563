use Rattle.ts_store.specs.retain.OpenRuns.{ArePassed}
use Rattle.ts_store.proofs.retain.run.first_waiting.Given as goal

abbrev pub invariant-loop-column : goal.invariant-loop-column
invariant-loop-column l = ArePassed l.passed l.next l.column
