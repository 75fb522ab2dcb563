use Rattle.std.proofs.Common.{rules, ◌≡◌, ◌∙◌, ap₂, to_z, of_z, w64, SFits, to_z-of_z, int_cmp}
use Rattle.std.specs.Int.{int_min, int_max}
use Rattle.ts_core.specs.aggregates.Orders.{lesser, down_cmp}
use Rattle.ts_core.specs.aggregates.OrderLaws.{min-lesser, max-lesser}
use Rattle.ts_core.proofs.aggregates.aggregate.Extremes.both.Goals as goal

pub returns : goal.returns
returns c =
    let f : SFits w64 c.min.result = search rules in
    let g : SFits w64 c.max.result = search rules in
    let a : SFits w64 c.args.self.min = search rules in
    let b : SFits w64 c.args.other.min = search rules in
    let d : SFits w64 c.args.self.max = search rules in
    let e : SFits w64 c.args.other.max = search rules in
    let p : to_z w64 (of_z w64 c.min.result) ≡ lesser int_cmp c.args.self.min c.args.other.min = to_z-of_z f ∙ c.min.ensures.value ∙ ap₂ int_min (to_z-of_z a) (to_z-of_z b) ∙ min-lesser c.args.self.min c.args.other.min in
    let q : to_z w64 (of_z w64 c.max.result) ≡ lesser down_cmp c.args.self.max c.args.other.max = to_z-of_z g ∙ c.max.ensures.value ∙ ap₂ int_max (to_z-of_z d) (to_z-of_z e) ∙ max-lesser c.args.self.max c.args.other.max in
    λ i. record { min = p i; max = q i; first = c.earlier.ensures i; last = c.later.ensures i }
