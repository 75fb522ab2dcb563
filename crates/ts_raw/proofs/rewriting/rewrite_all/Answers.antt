use Rattle.std.proofs.Common.{◌∙◌}
use Rattle.ts_raw.proofs.ApartLemmas.{from_one}
use Rattle.ts_raw.proofs.RewriteLemmas.{coded_one}
use Rattle.ts_raw.proofs.rewriting.rewrite_all.Goals as goal

pub returns-then-handle-le-HALVED_POINTS-clause-points : goal.returns-then-handle-le-HALVED_POINTS-clause-points
returns-then-handle-le-HALVED_POINTS-clause-points g c = coded_one c.copy_with.new.bytes.items c.in_ok-first.first ∙ c.in_ok-first.ensures.block.points_are

pub returns-then-handle-le-HALVED_POINTS-clause-behind : goal.returns-then-handle-le-HALVED_POINTS-clause-behind
returns-then-handle-le-HALVED_POINTS-clause-behind g c = from_one _ c.in_ok-first.first c.in_ok-first.ensures.block.starts
