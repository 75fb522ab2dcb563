use Rattle.std.proofs.Common.{◌<◌, ◌≤◌, length, ◌∙◌, arith}
use Rattle.ts_line.specs.declared.scan.Stops.TheVariants.{Equals}
use Rattle.ts_line.proofs.PieceLemmas.{left_rest, right_rest}
use Rattle.ts_line.proofs.part.have_same_text.Goals as goal
use Rattle.ts_line.proofs.part.have_same_text.Goals.{then-loop-at-test+else-other-rights, else-loop-at-test}

pub returns-then-at-lefts : goal.returns-then-at-lefts
returns-then-at-lefts c =
    let inv = c.loop-at.invariant in
    let left = c.args.left.now in
    let right = c.args.right.now in
    let past : length left ≤ c.loop-at.at = omega (arith, c.if-at-lefts.true, c.as_bytes-lefts.ensures.len) in
    let within : c.loop-at.other ≤ length right = omega (arith, inv.right, c.as_bytes-rights.ensures.len) in
    rw c.as_bytes-rights.ensures.value (left_rest Equals left right c.loop-at.at c.loop-at.other past within ∙ inv.value)

pub returns-else-at-lefts : goal.returns-else-at-lefts
returns-else-at-lefts c =
    let inv = c.loop-at.invariant in
    let left = c.args.left.now in
    let right = c.args.right.now in
    elim c.loop-at-test.branch [
      | then-loop-at-test+else-other-rights w ↦
          let more : c.loop-at.at < length left = omega (arith, w.loop-at-test.true, c.as_bytes-lefts.ensures.len) in
          let past : length right ≤ c.loop-at.other = omega (arith, w.if-other-rights.false, c.as_bytes-rights.ensures.len) in
          rw c.as_bytes-lefts.ensures.value (right_rest Equals left right c.loop-at.at c.loop-at.other more past ∙ inv.value)
      | else-loop-at-test w ↦ absurd (c.if-at-lefts.false (omega (arith, w.loop-at-test.false, inv.left)))
    ]
