use Rattle.std.proofs.Common.{rules, ◌≡◌, ℤ, ◌+ℤ◌, ◌*ℤ◌, SFits, w64, to_z, of_z, subst, sym}
use Rattle.std.specs.Int.{w128, saturate_signed}
use Rattle.ts_core.specs.aggregates.Edges.{IsEdgeAt}
use Rattle.ts_core.proofs.aggregates.BucketsOrder.{one_more}
use Rattle.ts_core.proofs.aggregates.EdgesLemmas.{start_edge, end_edge}
use Rattle.ts_core.proofs.aggregates.bucket.Buckets.edges.Goals as goal

pub returns-clause-start : goal.returns-clause-start
returns-clause-start c =
    let o : ℤ = c.args.self.offset in
    let p : ℤ = c.args.index *ℤ c.args.self.interval in
    let e : to_z w128 (of_z w128 c.saturating_add-start.result) ≡ saturate_signed w128 (saturate_signed w128 p +ℤ o) = search rules in
    let f : SFits w64 o = search rules in
    subst (IsEdgeAt (p +ℤ o)) (sym e) (start_edge p o f)

pub returns-clause-end : goal.returns-clause-end
returns-clause-end c =
    let o : ℤ = c.args.self.offset in
    let i : ℤ = c.args.self.interval in
    let p : ℤ = c.args.index *ℤ i in
    let e : to_z w128 (of_z w128 c.saturating_add.result) ≡ saturate_signed w128 (saturate_signed w128 (saturate_signed w128 p +ℤ o) +ℤ i) = search rules in
    let f : SFits w64 o = search rules in
    let g : SFits w64 i = search rules in
    subst (λ z. IsEdgeAt (z +ℤ o) (to_z w128 (of_z w128 c.saturating_add.result))) (sym (one_more c.args.index i)) (subst (IsEdgeAt ((p +ℤ i) +ℤ o)) (sym e) (end_edge p o i f g))
