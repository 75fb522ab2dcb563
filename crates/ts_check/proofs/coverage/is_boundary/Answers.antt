use Rattle.std.proofs.Common.{rules, ◌≡◌, ◌∙◌, ap, ap₂, sym, subst, ◌*ℤ◌, ◌+ℤ◌, SFits, to_z, of_z, to_z-of_z}
use Rattle.std.specs.Int.{w64, w128}
use Rattle.std.specs.Ordering.{int_eq}
use Rattle.ts_core.specs.store.Marks.{index_of}
use Rattle.ts_check.proofs.Bits.{same_bits}
use Rattle.ts_check.proofs.BoundaryNumbers.{product_fits, start_fits}
use Rattle.ts_check.proofs.coverage.is_boundary.Goals as goal

pub overflow_mul-result : goal.overflow_mul-result
overflow_mul-result g c =
    let k : to_z w128 (of_z w128 c.index_of-index.result) ≡ index_of c.args.rule.now c.args.at = search rules in
    let i : to_z w128 (of_z w128 c.from-interval.result) ≡ c.args.rule.now.interval = search rules in
    let s : SFits w64 c.args.rule.now.interval = search rules in
    let o : SFits w64 c.args.rule.now.offset = search rules in
    let p : SFits w64 c.args.at = search rules in
    subst (SFits w128) (sym (ap₂ (λ x y. x *ℤ y) k i)) (product_fits c.args.rule.now c.args.at c.requires s o p)

pub overflow_add-result : goal.overflow_add-result
overflow_add-result g c =
    let k : to_z w128 (of_z w128 c.index_of-index.result) ≡ index_of c.args.rule.now c.args.at = search rules in
    let i : to_z w128 (of_z w128 c.from-interval.result) ≡ c.args.rule.now.interval = search rules in
    let z : to_z w128 (of_z w128 c.from-offset.result) ≡ c.args.rule.now.offset = search rules in
    let s : SFits w64 c.args.rule.now.interval = search rules in
    let o : SFits w64 c.args.rule.now.offset = search rules in
    let p : SFits w64 c.args.at = search rules in
    let m = ap (λ x. to_z w128 (of_z w128 x)) (ap₂ (λ x y. x *ℤ y) k i) ∙ to_z-of_z (product_fits c.args.rule.now c.args.at c.requires s o p) in
    subst (SFits w128) (sym (ap₂ (λ x y. x +ℤ y) m z)) (start_fits c.args.rule.now c.args.at c.requires s o p)

pub returns : goal.returns
returns g c =
    let k : to_z w128 (of_z w128 c.index_of-index.result) ≡ index_of c.args.rule.now c.args.at = search rules in
    let i : to_z w128 (of_z w128 c.from-interval.result) ≡ c.args.rule.now.interval = search rules in
    let z : to_z w128 (of_z w128 c.from-offset.result) ≡ c.args.rule.now.offset = search rules in
    let a : c.from-2.result ≡ c.args.at = search rules in
    let s : SFits w64 c.args.rule.now.interval = search rules in
    let o : SFits w64 c.args.rule.now.offset = search rules in
    let p : SFits w64 c.args.at = search rules in
    let q : SFits w128 c.from-2.result = search rules in
    let m = ap (λ x. to_z w128 (of_z w128 x)) (ap₂ (λ x y. x *ℤ y) k i) ∙ to_z-of_z (product_fits c.args.rule.now c.args.at c.requires s o p) in
    let e = ap₂ (λ x y. x +ℤ y) m z in
    same_bits w128 _ _ (subst (SFits w128) (sym e) (start_fits c.args.rule.now c.args.at c.requires s o p)) q ∙ ap₂ int_eq e a
