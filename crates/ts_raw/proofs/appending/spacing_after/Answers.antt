use Rattle.std.proofs.Common.{rules, ◌≡◌, ◌≤◌, ◌-ℤ◌, ◌<ℤ◌, ◌⊎◌, inl, inr, length, unsigned_abs, SFits, w64, to_z-of_z, ◌∙◌, ap, subst, arith}
use Rattle.ts_block.proofs.SpacedLemmas.{apart_more}
use Rattle.ts_raw.proofs.appending.spacing_after.Goals.{else-handle-gt1-via-then-handle-gt1+else-handle-distance, else-handle-gt1-via-else-handle-gt1}
use Rattle.ts_raw.proofs.appending.spacing_after.Goals as goal

pub returns : goal.returns
returns c = λ points value size last apart.
    let a : SFits w64 c.nanos.result = search rules in
    let b : SFits w64 c.nanos-2.result = search rules in
    let is : c.abs_diff-distance.result ≡ unsigned_abs (c.args.time -ℤ c.args.handle.now.last) =
    c.abs_diff-distance.ensures ∙ (λ i. unsigned_abs (to_z-of_z a i -ℤ to_z-of_z b i)) ∙ (λ i. unsigned_abs (c.nanos.ensures.value i -ℤ c.nanos-2.ensures.value i)) in
    let same : (length points ≤ 1) ⊎ (c.args.handle.now.spacing ≡ c.abs_diff-distance.result) =
    elim c.else-handle-gt1.branch [ else-handle-gt1-via-then-handle-gt1+else-handle-distance w ↦ inr (omega arith) | else-handle-gt1-via-else-handle-gt1 w ↦ inl (omega arith) ] in
    apart_more c.abs_diff-distance.result c.args.handle.now.spacing points (c.args.time, value) (is ∙ ap (λ t. unsigned_abs (c.args.time -ℤ t)) last) (subst (λ t. t <ℤ c.args.time) last c.requires) same apart
