use Rattle.std.proofs.Common.{ap, sym}
use Rattle.ts_raw.specs.Rewriting.{cut_in_block}
use Rattle.ts_raw.proofs.ReplacedBlocks.{cut_at_later}
use Rattle.ts_raw.proofs.rewriting.cut_of.Goals as goal

pub returns-then-at-eq0 : goal.returns-then-at-eq0
returns-then-at-eq0 c = ap (λ k. cut_in_block k c.args.cut) (sym c.if-at-eq0.true)

pub returns-else-at-eq0 : goal.returns-else-at-eq0
returns-else-at-eq0 c = (cut_at_later c.args.at c.args.cut c.if-at-eq0.false).0
