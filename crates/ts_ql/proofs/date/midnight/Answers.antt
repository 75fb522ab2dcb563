use Rattle.std.proofs.Common.{Some, ℤ, ap, ◌∙◌, refl, arith, FitsSigned}
use Rattle.std.specs.Int.{w128}
use Rattle.std.proofs.lemmas.Int.{to_z-of_z, ints}
use Rattle.ts_ql.proofs.DateLemmas.{midnight_read}
use Rattle.ts_ql.proofs.date.midnight.Goals as goal

pub returns-in-Ok-clause-value : goal.returns-in-Ok-clause-value
returns-in-Ok-clause-value c =
    let epoch = c.date.ensures in
    let parts = c.in-Ok.ensures.value in
    let is = c.in-Ok.ensures.succeeds.0 refl in
    let bound = c.as_nanos.ensures.bound in
    let fits : FitsSigned w128 c.as_nanos.result = omega (arith, ints) in
    ap (λ (z : ℤ). Some z) (to_z-of_z w128 c.as_nanos.result fits)
    ∙ midnight_read c.args.year c.args.month c.args.day c.in-Ok.day.year c.date.result.year c.in-Ok.day.month c.in-Ok.day.day c.date.result.month c.date.result.day c.as_nanos.result
    c.if-year-gt9999.false c.if-month-gt12.false c.if-day-gt31.false is parts.0 parts.1 parts.2 epoch.0 epoch.1 epoch.2 (c.as_nanos.ensures.value ∙ c.duration_since.ensures)
