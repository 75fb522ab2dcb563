use Rattle.std.proofs.Common.{◌≡◌, ◌++◌, [], ℤ, ◌<ℤ◌, negsuc, List, ap, ap₂, ◌∙◌, rules}
use Rattle.std.specs.FinMap as finmap
use Rattle.ts_core.specs.facts.Times.{least_time}
use Rattle.ts_image.proofs.PartedPoints.{no_entries, none_parted}
use Rattle.ts_image.proofs.read.points.PointsParts.new.Goals as goal

pub invariant_of-result : goal.invariant_of-result
invariant_of-result g c =
    let least : ℤ = negsuc 9223372036854775807 in
    let low : least <ℤ least_time = search rules in
    let none : finmap.entries c.new.result.points ≡ [] = ap finmap.entries c.new.ensures.points ∙ no_entries in
    rw (none, c.new-2.ensures.items) (none_parted least low)

pub returns : goal.returns
returns g c =
    let none : finmap.entries c.new.result.points ≡ [] = ap finmap.entries c.new.ensures.points ∙ no_entries in
    ap₂ (λ (ps qs : List (ℤ × ℤ)). ps ++ qs) none c.new-2.ensures.items
