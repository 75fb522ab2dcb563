use Rattle.std.proofs.Common.{ℕ, ◌-◌, ◌≡◌, List, ◌++◌, length, take, drop, arith}
use Rattle.std.proofs.lemmas.List.{append_assoc, take_rest, take-append-drop}
use Rattle.std.proofs.lemmas.Grind.{common_steps}
use Rattle.std.proofs.KnownBytes.{Appends-trans}
use Rattle.ts_core.proofs.io.sink.Sink.write_all.Goals as goal

sent_more : (bytes sent rest : List ℕ) (n : ℕ) → bytes ≡ sent ++ rest → bytes ≡ (sent ++ take n rest) ++ take (length rest - n) (drop n rest)
sent_more bytes sent rest n e = simp (append_assoc, take_rest, take-append-drop) e

pub loop-rest-preserved : goal.loop-rest-preserved
loop-rest-preserved g c =
    let i = c.loop-rest.invariant in
    let rest = c.loop-rest.rest.now in
    let n = c.in-Ok.n in
    (i.0 ++ take n rest, sent_more _ _ rest n i.1, Appends-trans _ _ _ _ _ i.2 c.in-Ok.ensures.bytes, grind (arith, common_steps, c.in-Ok.ensures.failures, i.3, c.in-Ok.n-test.1))
