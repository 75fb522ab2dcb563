use Rattle.std.proofs.Common.{sym, ◌∙◌, arith}
use Rattle.ts_line.proofs.SortingLemmas.{few_rise}
use Rattle.ts_line.proofs.line.rise.Goals as goal

pub returns : goal.returns
returns g c = sym (few_rise c.loop-left.left.now (omega (arith, c.in_default.len_below))) ∙ c.loop-left.invariant
