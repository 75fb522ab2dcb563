use Rattle.std.proofs.Common.{rules, ℤ, int_cmp}
use Rattle.std.proofs.lemmas.Fn.{always_returns_same}
use Rattle.ts_raw.proofs.PointMaps.{found_index}
use Rattle.ts_raw.proofs.plain_column.index_in.Goals as goal

pub returns-clause-index : goal.returns-clause-index
returns-clause-index c =
    found_index c.args.points.now c.requires c.args.time c.binary_search_by.result
    (c.binary_search_by.ensures.position (λ (p : ℤ × ℤ). int_cmp p.0 c.args.time) (always_returns_same _ _ _ (λ a r q called. search rules)))
