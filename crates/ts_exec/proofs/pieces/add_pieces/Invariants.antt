use Rattle.std.proofs.Common.{◌≡◌, drop}
use Rattle.ts_exec.specs.GroupTables.{with_pieces}
use Rattle.ts_exec.proofs.pieces.add_pieces.Given as goal

abbrev pub invariant-loop-piece : goal.invariant-loop-piece
invariant-loop-piece g l =
    let q = l.fn.scan in
    let seen = g.V.View.seen l.view in
    (with_pieces l.parts seen q (drop l.piece-index l.pieces) l.groups ≡ with_pieces l.parts seen q l.pieces l.fn.groups)
    × (l.scan ≡ l.fn.scan)
