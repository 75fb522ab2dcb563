use Rattle.std.proofs.Common.{◌≡◌, ◌&&◌}
use Rattle.ts_exec.specs.GroupTables.{with_pieces}
use Rattle.ts_exec.specs.JoinedPieces.{joined_pieces, have_small_parts}
use Rattle.ts_exec.proofs.pieces.add_joined_pieces.Given as goal

abbrev pub invariant-loop-piece : goal.invariant-loop-piece
invariant-loop-piece g l =
    let seen = g.V.View.seen l.view in
    (goal.iterator-loop-piece g).can_next l.piece-iterator × (goal.iterator-loop-piece g).is_finite l.piece-iterator
    × (with_pieces l.parts seen l.scan l.piece-iterator l.groups ≡ with_pieces l.parts seen l.scan (joined_pieces l.pieces) l.fn.groups)
    × ((l.small && have_small_parts seen l.piece-iterator) ≡ have_small_parts seen (joined_pieces l.pieces)) × (l.scan ≡ l.fn.scan)
