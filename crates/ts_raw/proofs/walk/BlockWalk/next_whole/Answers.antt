use Rattle.std.proofs.Common.{rules, arith, ◌≡◌, ◌-◌, ℤ, [], subst, SFits, w64, to_z-of_z}
use Rattle.ts_raw.specs.Summaries.{IsFront}
use Rattle.ts_raw.specs.CodedPoints.{AreWithin, points_walked}
use Rattle.std.proofs.lemmas.List.{nil_from_length}
use Rattle.ts_raw.proofs.SummaryLemmas.{walk_skips, block_in_front}
use Rattle.ts_raw.proofs.walk.BlockWalk.next_whole.Goals.{Else-len-gt0}
use Rattle.ts_raw.proofs.walk.BlockWalk.next_whole.Goals as goal

none : (c : Else-len-gt0) → c.self.inside.decoder ≡ []
none c = nil_from_length c.self.inside.decoder (let a = c.len.ensures in let b = c.if-len-gt0.false in omega arith)

pub invariant_of-self : goal.invariant_of-self
invariant_of-self c =
    walk_skips c.self.inside.left c.self.inside.decoder c.self.inside.bytes.now c.self.inside.handles.now c.in_ok-handle.handle.now c.in_ok-handle.others.now
    (none (goal.at.invariant_of-self c).Else-len-gt0) c.in_ok-handle.ensures.cases.0 c.if-handle-self.false c.self.invariant

pub returns : goal.returns
returns c =
    let low : SFits w64 c.args.low = search rules in
    let high : SFits w64 c.args.high = search rules in
    let lies = c.lies_within.ensures c.if-not-lies_within.false in
    subst (λ x. IsFront c.args.low c.args.high x (points_walked (c.self.inside.left - c.in_ok-handle.handle.now.count) c.self.inside.decoder c.self.inside.bytes.now c.in_ok-handle.others.now) c.in_ok-handle.handle.now.summary) c.self.view_is
    (block_in_front c.self.inside.left c.self.inside.decoder c.self.inside.bytes.now c.self.inside.handles.now c.in_ok-handle.handle.now c.in_ok-handle.others.now
    (none (goal.at.returns c).Else-len-gt0) c.in_ok-handle.ensures.cases.0 c.if-handle-self.false c.self.invariant c.args.low c.args.high
    (subst (λ (r : ℤ × ℤ). AreWithin r.0 r.1 c.in_ok-handle.handle.now.summary.extremes) (λ i. (to_z-of_z low i, to_z-of_z high i)) lies))
