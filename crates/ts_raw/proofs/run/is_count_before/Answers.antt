use Rattle.std.proofs.Common.{rules, ◌≡◌, ℤ, ◌≤ℤ◌, ◌<ℤ◌, ◌<◌, suc, length, get_or, SFits, w64, to_z-of_z, sym, subst, ◌∙◌, arith}
use Rattle.ts_core.proofs.lists.Comparisons.{lt_from, le_from}
use Rattle.ts_raw.specs.PlainColumns.{IsStartOf}
use Rattle.ts_raw.proofs.RunLemmas.{start_at}
use Rattle.ts_raw.proofs.run.is_count_before.Goals as goal

pub returns-then-nanos-end-clause-start : goal.returns-then-nanos-end-clause-start
returns-then-nanos-end-clause-start c h =
    let end_fits : SFits w64 c.args.end = search rules in
    let last_fits : SFits w64 c.nanos.result = search rules in
    let next_fits : SFits w64 c.nanos-then-nanos-end.result = search rules in
    let last = rw (to_z-of_z last_fits, to_z-of_z end_fits) at c.if-nanos-end.true in
    let next = rw (to_z-of_z end_fits, to_z-of_z next_fits) at h in
    let found = c.in-Some-Some.ensures'.lookup in
    let less : c.args.count < length c.args.points.now = grind (arith, found.0) in
    let count : suc c.in-Some-Some.last ≡ c.args.count = let e = c.in-Some-Some.ensures in omega (arith, e.0, e.1) in
    let inside : suc c.in-Some-Some.last < length c.args.points.now = omega (arith, less, count) in
    let before = subst (λ (t : ℤ). t <ℤ c.args.end) c.nanos.ensures.value (lt_from c.nanos.result c.args.end last) in
    let after = subst (λ (t : ℤ). c.args.end ≤ℤ t) (c.nanos-then-nanos-end.ensures.value ∙ (λ i. (found.1 i).0) ∙ (λ i. (get_or c.args.points.now (sym count i) c.in-Some-Some.next.now).0)) (le_from c.args.end c.nanos-then-nanos-end.result next) in
    subst (IsStartOf c.args.end c.args.points.now) count (start_at c.args.end c.args.points.now c.in-Some-Some.last c.index-points-last.result c.in-Some-Some.next.now c.requires inside before after)
