use Rattle.std.proofs.Common.{rules, ℤ, pos, ◌+ℤ◌, List, filter, ◌∙◌, sym, subst, SFits, w64, to_z-of_z}
use Rattle.std.specs.Int.{w128}
use Rattle.ts_core.specs.aggregates.Buckets.{bucket_start}
use Rattle.ts_core.specs.aggregates.Edges.{IsEdgeAt}
use Rattle.ts_core.specs.facts.Facts.{is_within}
use Rattle.ts_raw.proofs.EdgesLemmas.{filter-inside}
use Rattle.ts_raw.proofs.CutLemmas.{edges_within}
use Rattle.ts_raw.proofs.bounds.bounds_of.Goals as goal

pub returns : goal.returns
returns c = λ points timed.
    let k : ℤ = c.args.index.now in
    let i : ℤ = c.args.interval in
    let o : ℤ = c.args.offset in
    let i_fits : SFits w64 i = search rules in
    let o_fits : SFits w64 o = search rules in
    let k_fits : SFits w128 k = search rules in
    let first_fits : SFits w128 c.edges-first.result.0 = search rules in
    let next_fits : SFits w128 c.edges-first.result.1 = search rules in
    let first = rw (to_z-of_z i_fits, to_z-of_z o_fits, to_z-of_z k_fits) at c.edges-first.ensures.start in
    let next = rw (to_z-of_z i_fits, to_z-of_z o_fits, to_z-of_z k_fits) at c.edges-first.ensures.end in
    let a : IsEdgeAt (bucket_start k i o) c.near.result = c.near.ensures (bucket_start k i o) (subst (IsEdgeAt (bucket_start k i o)) (sym (to_z-of_z first_fits)) first) in
    let b : IsEdgeAt (bucket_start (k +ℤ pos 1) i o) c.near-2.result = c.near-2.ensures (bucket_start (k +ℤ pos 1) i o) (subst (IsEdgeAt (bucket_start (k +ℤ pos 1) i o)) (sym (to_z-of_z next_fits)) next) in
    let a_fits : SFits w64 c.near.result = search rules in
    let b_fits : SFits w64 c.near-2.result = search rules in
    let within : ℤ → ℤ → List (ℤ × ℤ) = λ x y. filter (λ (p : ℤ × ℤ). is_within x y p.0) points in
    (λ j. within (to_z-of_z a_fits j) (to_z-of_z b_fits j)) ∙ edges_within points (bucket_start k i o) (bucket_start (k +ℤ pos 1) i o) c.near.result c.near-2.result a b timed ∙ filter-inside i o k points c.requires
