use Rattle.std.proofs.Common.{◌≡◌, ◌∷◌, ◌++◌, ◌+◌, [], Ok, List, length, sym, ap, ◌∙◌, slice_index}
use Rattle.std.proofs.lemmas.Result.{err_from_is_err_and}
use Rattle.std.proofs.lemmas.List.{length-append}
use Rattle.ts_line.specs.Parts.{LinePart}
use Rattle.ts_line.specs.ReadSteps.{FailsIfMemory}
use Rattle.ts_line.specs.StepsPut.{put_by}
use Rattle.ts_line.specs.TagParts.{next_tag, tags_at}
use Rattle.ts_line.proofs.TagLemmas.{tag_taken, tag_fails, tags_ended}
use Rattle.ts_line.proofs.StepsPutLemmas.{was_read, was_fault}
use Rattle.ts_line.proofs.tag.tags.Goals as goal

pub loop-alloc-preserved : goal.loop-alloc-preserved
loop-alloc-preserved g c =
    let before : List (LinePart × LinePart) = c.loop-alloc.tags.items in
    let comma : slice_index c.args.line.now c.loop-alloc.at ≡ 44 = sym c.byte_at.ensures ∙ c.loop-alloc-test.true in
    let push = λ (t : LinePart × LinePart). before ++ t ∷ [] in
    let read = next_tag before c.args.line.now (c.loop-alloc.at + 1) in
    let step : put_by push read ≡ Ok (c.push_next.new.tags.items, c.in_ok-at.at) = rw (← c.after.ensures.value) c.in_ok-at.ensures.value in
    let t = was_read push read c.push_next.new.tags.items c.in_ok-at.at step in
    let len : length c.push_next.new.tags.items ≡ length before + 1 = ap (λ (ts : List (LinePart × LinePart)). length ts) t.2 ∙ length-append before (t.0 ∷ []) in
    record {
      boundary = c.in_ok-at.ensures.offset.boundary;
      marked = c.in_ok-at.ensures.marked;
      few = c.in_ok-at.ensures.few;
      value = rw (len, t.2) (tag_taken (length before) before c.args.line.now c.loop-alloc.at t.0 c.in_ok-at.at (tags_at 65 [] c.args.line.now c.args.start) c.loop-alloc.invariant.few comma t.1 c.loop-alloc.invariant.value);
    }

pub returns-clause-value : goal.returns-clause-value
returns-clause-value g c =
    tags_ended (length c.loop-alloc.tags.items) c.loop-alloc.tags.items c.args.line.now c.loop-alloc.at (tags_at 65 [] c.args.line.now c.args.start) c.loop-alloc.invariant.few (λ e. c.loop-alloc-test.false (c.byte_at.ensures ∙ e)) c.loop-alloc.invariant.value

pub returns-in_err-at-clause-value : goal.returns-in_err-at-clause-value
returns-in_err-at-clause-value g c =
    let before : List (LinePart × LinePart) = c.loop-alloc.tags.items in
    let comma : slice_index c.args.line.now c.loop-alloc.at ≡ 44 = sym c.byte_at.ensures ∙ c.loop-alloc-test.true in
    let push = λ (t : LinePart × LinePart). before ++ t ∷ [] in
    let next = next_tag before c.args.line.now (c.loop-alloc.at + 1) in
    let step : FailsIfMemory c.in_err-at.field-0.0 (put_by push next) = rw (← c.after.ensures.value) c.in_err-at.ensures.value in
    let read = was_fault push next c.in_err-at.field-0.0 step in
    let p = err_from_is_err_and c.from_residual-in_err-at.result c.from_residual-in_err-at.ensures.1 in
    rw (p.1, p.2) (tag_fails (length before) before c.args.line.now c.loop-alloc.at c.in_err-at.field-0.0 (tags_at 65 [] c.args.line.now c.args.start) c.loop-alloc.invariant.few comma read c.loop-alloc.invariant.value)
