use Rattle.std.proofs.Common.{◌≡◌, ℕ, List, ◌++◌, length}
use Rattle.std.specs.Io.KnownBytes.{Appends}
use Rattle.ts_core.proofs.io.sink.Sink.write_all.Given as goal

-- the bytes already written, and the rest after them
abbrev pub invariant-loop-rest : goal.invariant-loop-rest
invariant-loop-rest g l =
    (sent : List ℕ) × (l.bytes ≡ sent ++ l.rest) × Appends l.initial.self.contents l.self.contents sent × (l.self.failures ≡ l.initial.self.failures)

abbrev pub decreases-loop-rest : goal.decreases-loop-rest
decreases-loop-rest g l = length l.rest
