use Rattle.std.proofs.Common.{◌≡◌, ◌∙◌, ◌-ℤ◌, FitsSigned, w64, pos, rules, arith, refl}
use Rattle.std.specs.Int.{w128}
use Rattle.std.proofs.lemmas.Int.{ints, to_z-of_z}
use Rattle.ts_ql.proofs.StatementLemmas.{far_cast, far_fits, near_bound, wider}
use Rattle.ts_ql.proofs.statement.has_too_many.Goals as goal

pub returns : goal.returns
returns c =
    let from = c.args.span.now.from in
    let to = c.args.span.now.to in
    let ff : FitsSigned w64 from = search rules in
    let ft : FitsSigned w64 to = search rules in
    let fd : FitsSigned w128 (to -ℤ pos 1) = omega (arith, ints) in
    let ef : c.from.result ≡ from = c.from.ensures ∙ to_z-of_z w64 from ff in
    let et : c.from-2.result ≡ to = c.from-2.ensures ∙ to_z-of_z w64 to ft in
    let first = rw (ef, to_z-of_z w128 from (wider from ff)) at c.index-first.ensures in
    let last = rw (et, to_z-of_z w128 to (wider to ft), to_z-of_z w128 (to -ℤ pos 1) fd) at c.index-last.ensures in
    rw (
      far_cast c.index-last.result c.index-first.result (near_bound c.index-last.result (to -ℤ pos 1) (omega (arith, ints)) last.near)
          (near_bound c.index-first.result from (omega (arith, ints)) first.near),
      first.index,
      last.index,
    ) refl

pub overflow_sub-result : goal.overflow_sub-result
overflow_sub-result c =
    let from = c.args.span.now.from in
    let to = c.args.span.now.to in
    let ff : FitsSigned w64 from = search rules in
    let ft : FitsSigned w64 to = search rules in
    let fd : FitsSigned w128 (to -ℤ pos 1) = omega (arith, ints) in
    let ef : c.from.result ≡ from = c.from.ensures ∙ to_z-of_z w64 from ff in
    let et : c.from-2.result ≡ to = c.from-2.ensures ∙ to_z-of_z w64 to ft in
    let first = rw (ef, to_z-of_z w128 from (wider from ff)) at c.index-first.ensures.near in
    let last = rw (et, to_z-of_z w128 to (wider to ft), to_z-of_z w128 (to -ℤ pos 1) fd) at c.index-last.ensures.near in
    far_fits c.index-last.result c.index-first.result (near_bound c.index-last.result (to -ℤ pos 1) (omega (arith, ints)) last)
    (near_bound c.index-first.result from (omega (arith, ints)) first)
