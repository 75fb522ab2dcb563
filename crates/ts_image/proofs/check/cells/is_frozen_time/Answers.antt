use Rattle.std.proofs.Common.{rules, arith, ◌≡◌, ℕ, true, eqb, SFits, to_z, of_z, to_z-of_z, refl, sym, ap, ◌∙◌}
use Rattle.std.specs.Int.{w64, w128}
use Rattle.std.proofs.lemmas.Bool.{eqb-true}
use Rattle.std.proofs.lemmas.Bool.Decides.{nat_tests}
use Rattle.ts_core.specs.aggregates.Buckets.{bucket_of}
use Rattle.ts_image.proofs.check.cells.is_frozen_time.Goals as goal

same_number : (m n : ℕ) → m ≡ n → eqb m n ≡ true
same_number m n e = grind (arith, nat_tests)

pub returns : goal.returns
returns g c =
    let a = c.index.result in
    let b = c.from-2.result in
    let fa : SFits w128 a = search rules in
    let fb : SFits w128 b = search rules in
    let r = c.args.rule.now in
    let t = c.args.time.now in
    let f4 : SFits w64 c.args.index.now = search rules in
    let there : b ≡ c.args.index.now = c.from-2.ensures ∙ to_z-of_z f4 in
    let is : a ≡ bucket_of t r.interval r.offset = search rules in (
      λ h.
          let e : of_z w128 a ≡ of_z w128 b = eqb-true _ _ h in
          record {
            valid = c.if-not-is_time.ensures.0 refl;
            bucket = sym is ∙ sym (to_z-of_z fa) ∙ ap (to_z w128) e ∙ to_z-of_z fb ∙ there;
            frozen = search rules;
          },
      λ k. same_number (of_z w128 a) (of_z w128 b) (ap (of_z w128) (is ∙ k.bucket ∙ sym there)),
    )
