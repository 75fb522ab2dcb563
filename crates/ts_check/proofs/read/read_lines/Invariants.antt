use Rattle.std.proofs.Common.{length, IsUtf8}
use Rattle.ts_check.proofs.CertificateLaws.{IsBehind}
use Rattle.ts_check.proofs.read.read_lines.Given as goal

abbrev pub invariant-lines : goal.invariant-lines
invariant-lines g l = IsUtf8 l.rest × IsBehind l.text l.pieces.items l.rest

abbrev pub decreases-lines : goal.decreases-lines
decreases-lines g l = length l.rest
