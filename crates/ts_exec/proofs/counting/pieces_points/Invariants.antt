use Rattle.std.proofs.Common.{◌≡◌, ◌≤◌, drop}
use Rattle.ts_exec.specs.Shares.{pieces_shares}
use Rattle.ts_exec.proofs.CountSteps.{counted}
use Rattle.ts_exec.proofs.counting.pieces_points.Given as goal

abbrev pub invariant-loop-piece : goal.invariant-loop-piece
invariant-loop-piece g l =
    let q = l.query.query in
    let seen = g.V.View.seen l.view in
    (counted l.count (pieces_shares seen q (drop l.piece-index l.pieces)) ≡ counted 0 (pieces_shares seen q l.pieces)) × (l.count ≤ 18446744073709551615)
