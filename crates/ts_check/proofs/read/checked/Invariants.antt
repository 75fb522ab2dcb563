use Rattle.std.proofs.Common.{List, length, IsUtf8}
use Rattle.ts_core.specs.plans.Pieces.{Piece}
use Rattle.ts_check.proofs.CertificateLaws.{IsBehind}
use Rattle.ts_check.proofs.read.checked.Given as goal

abbrev pub invariant-lines : goal.invariant-lines
invariant-lines l = IsUtf8 l.rest × (front : List Piece) × IsBehind l.text front l.rest

abbrev pub decreases-lines : goal.decreases-lines
decreases-lines l = length l.rest
