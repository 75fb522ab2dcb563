use Rattle.std.proofs.Common.{rules, arith, ◌≡◌, ◌<◌, ◌+◌, ℕ, suc, List, Option, None, length, get_or, drop, ◌∙◌, ap}
use Rattle.ts_cells.specs.Grids.{held}
use Rattle.ts_cells.specs.Walks.{row_left}
use Rattle.ts_cells.proofs.RankLemmas.{rank_skipped}
use Rattle.ts_cells.proofs.WalkLemmas.{skip_one, skip_to}
use Rattle.ts_cells.proofs.walk.first_in.Goals as goal

pub loop-at-preserved-then-tries-eq0 : goal.loop-at-preserved-then-tries-eq0
loop-at-preserved-then-tries-eq0 g c =
    let order : List ℕ = c.args.order.now in
    let at : ℕ = c.loop-at.at in
    let cs : List (Option g.row.P.Denot) = c.args.row.now.1 in
    let within : at < length order = search rules in
    let none : held cs (get_or order at 0) ≡ None = search rules in
    record {
      same = λ ls.
          skip_to ls c.args.row.now.0 cs order (at + 1) c.next_rank-at.result c.next_rank-at.ensures.low (search rules) (rank_skipped order c.args.ranks.now cs (at + 1) c.next_rank-at.result c.requires (search rules) c.next_rank-at.ensures.skipped)
          ∙ ap (λ n. row_left ls c.args.row.now.0 cs (drop n order)) (let e : at + 1 ≡ suc at = omega arith in e) ∙ skip_one ls c.args.row.now.0 cs order at within none ∙ c.loop-at.invariant.same ls;
    }
