use Rattle.std.proofs.Common.{rules, ◌≤ℤ◌, ◌<ℤ◌, SFits, w64, to_z-of_z, sym, subst}
use Rattle.ts_core.proofs.lists.Comparisons.{lt_from, lt_not}
use Rattle.ts_raw.specs.PointRuns.{IsInside}
use Rattle.ts_raw.proofs.RunLemmas.{is_inside, less_not, prefix_from, prefix_is_all}
use Rattle.ts_raw.proofs.run.count_within.Goals as goal

pub returns-then-nanos-high : goal.returns-then-nanos-high
returns-then-nanos-high c =
    let low_fits : SFits w64 c.args.low = search rules in
    let high_fits : SFits w64 c.args.high = search rules in
    let first_fits : SFits w64 c.nanos-first.result = search rules in
    let last_fits : SFits w64 c.nanos.result = search rules in
    let from = rw (to_z-of_z first_fits, to_z-of_z low_fits) at c.if-first-low.false in
    let before = rw (to_z-of_z last_fits, to_z-of_z high_fits) at c.if-nanos-high.true in
    sym (prefix_is_all c.args.low c.args.high c.args.points.now c.in-Some-Some.first.now c.in-Some-Some.last.now c.in-Some-Some.ensures.value c.in-Some-Some.ensures'.value c.requires.rising
    (subst (λ t. c.args.low ≤ℤ t) c.nanos-first.ensures.value (lt_not c.nanos-first.result c.args.low from))
    (subst (λ t. t <ℤ c.args.high) c.nanos.ensures.value (lt_from c.nanos.result c.args.high before)))

pub count_inside-requires-clause-ends : goal.count_inside-requires-clause-ends
count_inside-requires-clause-ends c =
    let high_fits : SFits w64 c.args.high = search rules in
    let first_fits : SFits w64 c.nanos-first.result = search rules in
    let last_fits : SFits w64 c.nanos.result = search rules in
    let after = rw (to_z-of_z high_fits, to_z-of_z first_fits) at c.if-high-first.false in
    let behind = rw (to_z-of_z last_fits, to_z-of_z high_fits) at c.if-nanos-high.false in
    let inside : IsInside c.in-Some-Some.first.now.0 c.args.high c.args.points.now =
    is_inside c.args.low c.args.high c.args.points.now c.in-Some-Some.first.now c.in-Some-Some.last.now c.in-Some-Some.ensures.value c.in-Some-Some.ensures'.value
    (subst (λ t. t <ℤ c.args.high) c.nanos-first.ensures.value (less_not c.args.high c.nanos-first.result after))
    (subst (λ t. c.args.high ≤ℤ t) c.nanos.ensures.value (lt_not c.nanos.result c.args.high behind)) in
    rw (to_z-of_z first_fits, to_z-of_z high_fits) (subst (λ t. IsInside t c.args.high c.args.points.now) (sym c.nanos-first.ensures.value) inside)

pub returns : goal.returns
returns c =
    let low_fits : SFits w64 c.args.low = search rules in
    let high_fits : SFits w64 c.args.high = search rules in
    let first_fits : SFits w64 c.nanos-first.result = search rules in
    let from = rw (to_z-of_z first_fits, to_z-of_z low_fits) at c.if-first-low.false in
    let start = rw (to_z-of_z high_fits) at c.count_inside.ensures.start in
    sym (prefix_from c.args.low c.args.high c.args.points.now c.in-Some-Some.first.now c.in-Some-Some.last.now c.in-Some-Some.ensures.value c.in-Some-Some.ensures'.value c.count_inside.result c.requires.rising
    (subst (λ t. c.args.low ≤ℤ t) c.nanos-first.ensures.value (lt_not c.nanos-first.result c.args.low from)) start c.count_inside.ensures.bound)
