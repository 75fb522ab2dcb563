use Rattle.std.proofs.Common.{◌≡◌, ◌++◌, codes, take, string_bytes}
use Rattle.std.specs.List.{flat_map}
use Rattle.ts_check.specs.CertificateTexts.{piece_line}
use Rattle.ts_check.proofs.write.write_certificate.Given as goal

abbrev pub invariant-loop-piece : goal.invariant-loop-piece
invariant-loop-piece g l = string_bytes l.text ≡ codes "plan 1\n" ++ flat_map piece_line (take l.piece-index l.pieces)
