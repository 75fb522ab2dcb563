use Rattle.std.proofs.Common.{arith}
use Rattle.std.proofs.lemmas.Int.{ints}
use Rattle.ts_core.proofs.aggregates.aggregate.Extremes.are_beyond.Goals as goal

pub returns-then-is_earlier : goal.returns-then-is_earlier
returns-then-is_earlier c =
    let p = c.if-self-part.false in
    let q = c.if-part-self.false in
    (λ h. record { min = omega (arith, ints); max = omega (arith, ints); first = c.is_earlier.ensures.0 c.if-is_earlier.true; last = c.is_later.ensures.0 h }, λ b. c.is_later.ensures.1 b.last)
