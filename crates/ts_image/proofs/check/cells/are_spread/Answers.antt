use Rattle.std.proofs.Common.{rules, arith, ◌≡◌, ◌∙◌, ap, ℤ, pos, ◌*ℤ◌, w64, SFits, to_z-of_z}
use Rattle.std.proofs.lemmas.Int.{ints}
use Rattle.ts_image.proofs.check.cells.are_spread.Goals as goal

pub returns-then-times-sum : goal.returns-then-times-sum
returns-then-times-sum c =
    let n = c.if-count-eq0.false in
    let low = c.if-times-sum.true in
    let f : SFits w64 c.args.extremes.now.min = search rules in
    let g : SFits w64 c.args.extremes.now.max = search rules in
    let p : c.times.result ≡ pos c.args.count *ℤ c.args.extremes.now.min = c.times.ensures ∙ ap (λ (z : ℤ). pos c.args.count *ℤ z) (to_z-of_z f) in
    let q : c.times-then-times-sum.result ≡ pos c.args.count *ℤ c.args.extremes.now.max = c.times-then-times-sum.ensures ∙ ap (λ (z : ℤ). pos c.args.count *ℤ z) (to_z-of_z g) in
    (λ h. record { some = omega arith; at_least = grind (arith, ints); at_most = grind (arith, ints) }, λ s. let m = s.at_most in grind (arith, ints))
