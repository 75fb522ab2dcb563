use Rattle.std.proofs.Common.{rules, ◌≡◌, pos, ◌+ℤ◌, SFits, w64, to_z-of_z, subst, sym, ap, ◌∙◌}
use Rattle.std.specs.Int.{div_ceil}
use Rattle.ts_block.specs.Decoding.{AreSpaced, AreSpacedIf}
use Rattle.ts_raw.proofs.RunLemmas.{IsDivided, divided, far}
use Rattle.ts_raw.proofs.run.count_inside.Goals as goal

is_divided : (c : goal.After-div_ceil) → IsDivided c.args.points.now c.args.end c.div_ceil.result
is_divided c =
    let first_fits : SFits w64 c.args.first = search rules in
    let end_fits : SFits w64 c.args.end = search rules in
    let a = rw (to_z-of_z first_fits, to_z-of_z end_fits) at c.abs_diff.ensures in
    let step = c.in-Some.ensures in
    let spaced : AreSpaced step.0 c.args.points.now = subst (λ s. AreSpacedIf s c.args.points.now) step.1 c.requires.spaced in
    let distance : c.args.end ≡ c.args.first +ℤ pos c.abs_diff.result = far c.args.first c.args.end c.requires.ends.after_first ∙ ap (λ n. c.args.first +ℤ pos n) (sym a) in
    subst (IsDivided c.args.points.now c.args.end) (sym (c.div_ceil.ensures ∙ ap (div_ceil c.abs_diff.result) step.2)) (divided c.args.first c.args.end c.args.points.now step.0 c.abs_diff.result spaced c.requires.ends distance)

pub returns-in-Some-clause-start : goal.returns-in-Some-clause-start
returns-in-Some-clause-start c = (is_divided c).start

pub returns-in-Some-clause-bound : goal.returns-in-Some-clause-bound
returns-in-Some-clause-bound c = (is_divided c).bound
