use Rattle.std.proofs.Common.{◌≡◌, ℕ, ◌-◌, ◌≤◌, ℤ, List, ◌++◌, length, take, drop, ◌∙◌, sym, subst, arith}
use Rattle.std.proofs.lemmas.List.{take-append-le, length-take-le}
use Rattle.ts_raw.specs.CodedPoints.{points_walked}
use Rattle.ts_block.specs.Decoding.{AreSpacedIf}
use Rattle.ts_raw.proofs.RunLemmas.{spaced_front}
use Rattle.ts_raw.proofs.WalkLemmas.{walk_moved}
use Rattle.ts_raw.proofs.walk.BlockWalk.fill.Goals as goal

pub returns-clause-points : goal.returns-clause-points
returns-clause-points c =
    let count : ℕ = c.fill-count.result in
    let room : List (ℤ × ℤ) = c.fill-count.new.room in
    let left : ℕ = c.self.inside.left in
    let rest : ℕ → List (ℤ × ℤ) = λ n. points_walked (left - n) c.fill-count.new.self c.self.inside.bytes.now c.begin_block.new.handles.now in
    let most = c.fill-count.ensures.count in
    let size = c.fill-count.ensures.length in
    let fits = c.min-most.ensures in
    let short = length-take-le c.min-most.result c.args.room.now (omega arith) in
    let inside : count ≤ length room = omega arith in
    let front : length (take count room) ≡ count = length-take-le count room inside in
    sym c.self.view_is
    ∙ walk_moved left c.self.inside.decoder c.begin_block.new.decoder (take count room) c.fill-count.new.self c.self.inside.bytes.now c.self.inside.handles.now c.begin_block.new.handles.now c.begin_block.ensures.points c.fill-count.ensures.points (omega arith)
    ∙ (λ i. sym (take-append-le count room (drop c.min-most.result c.args.room.now) inside) i ++ rest (front i))

pub returns-clause-spaced : goal.returns-clause-spaced
returns-clause-spaced c =
    let step = c.step-step.result in
    let count : ℕ = c.fill-count.result in
    let room : List (ℤ × ℤ) = c.fill-count.new.room in
    let most = c.fill-count.ensures.count in
    let size = c.fill-count.ensures.length in
    let fits = c.min-most.ensures in
    let short = length-take-le c.min-most.result c.args.room.now (omega arith) in
    let inside : count ≤ length room = omega arith in
    subst (AreSpacedIf step) (sym (take-append-le count room (drop c.min-most.result c.args.room.now) inside))
    (spaced_front step (take count room) c.fill-count.new.self (subst (AreSpacedIf step) c.fill-count.ensures.points c.step-step.ensures))
