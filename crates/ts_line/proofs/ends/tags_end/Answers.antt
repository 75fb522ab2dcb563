use Rattle.std.proofs.Common.{◌≡◌, ◌+◌, ◌-◌, ◌++◌, ◌∷◌, List, [], Ok, Err, sym, ap, ◌∙◌, arith, slice_index}
use Rattle.std.proofs.lemmas.Result.{err_from_is_err_and}
use Rattle.ts_line.specs.Parts.{LinePart}
use Rattle.ts_line.specs.Ends.{pairs_at}
use Rattle.ts_line.specs.TagParts.{next_tag, tags_at}
use Rattle.ts_line.proofs.TagLemmas.{tag_taken, tag_failed, tags_ended}
use Rattle.ts_line.proofs.EndLemmas.{AreBefore, length_before, pairs_grown}
use Rattle.ts_line.proofs.ends.tags_end.Goals as goal

pub tag_end-requires-clause-count : goal.tag_end-requires-clause-count
tag_end-requires-clause-count c = length_before c.loop-at.count c.args.line.now c.args.start c.loop-at.at c.loop-at.invariant.before

pub returns-in_err-at-clause-value : goal.returns-in_err-at-clause-value
returns-in_err-at-clause-value c =
    let line = c.args.line.now in
    let count = c.loop-at.count in
    let before : List (LinePart × LinePart) = pairs_at count line c.args.start in
    let comma : slice_index line c.loop-at.at ≡ 44 = sym c.byte_at.ensures ∙ c.loop-at-test.true in
    let read : next_tag before line (c.loop-at.at + 1) ≡ Err c.in_err-at.field-0.0 = rw (← c.after.ensures.value) c.in_err-at.ensures.value in
    let p = err_from_is_err_and c.from_residual.result c.from_residual.ensures.1 in
    rw (p.1, p.2) (tag_failed count before line c.loop-at.at c.in_err-at.field-0.0 (tags_at 65 [] line c.args.start) c.loop-at.invariant.few comma read c.loop-at.invariant.value)

pub loop-at-preserved : goal.loop-at-preserved
loop-at-preserved c =
    let line = c.args.line.now in
    let count = c.loop-at.count in
    let before : List (LinePart × LinePart) = pairs_at count line c.args.start in
    let comma : slice_index line c.loop-at.at ≡ 44 = sym c.byte_at.ensures ∙ c.loop-at-test.true in
    let t = c.in_ok-at.ensures.value.0 in
    let read : next_tag before line (c.loop-at.at + 1) ≡ Ok (t, c.in_ok-at.at) = rw (← c.after.ensures.value) c.in_ok-at.ensures.value.1 in
    let grown : (pairs_at (count + 1) line c.args.start ≡ before ++ t ∷ []) × AreBefore (count + 1) line c.args.start c.in_ok-at.at = pairs_grown count line c.args.start c.loop-at.at (t, c.in_ok-at.at) c.loop-at.invariant.before comma read in
    record {
      boundary = c.in_ok-at.ensures.offset.boundary;
      few = omega (arith, c.in_ok-at.ensures.spare);
      before = grown.1;
      value = ap (λ (ts : List (LinePart × LinePart)). tags_at (65 - (count + 1)) ts line c.in_ok-at.at) grown.0 ∙ (tag_taken count before line c.loop-at.at t c.in_ok-at.at (tags_at 65 [] line c.args.start) c.loop-at.invariant.few comma read c.loop-at.invariant.value);
    }

pub returns-clause-value : goal.returns-clause-value
returns-clause-value c =
    let line = c.args.line.now in
    let before : List (LinePart × LinePart) = pairs_at c.loop-at.count line c.args.start in
    (before, tags_ended c.loop-at.count before line c.loop-at.at (tags_at 65 [] line c.args.start) c.loop-at.invariant.few (λ e. c.loop-at-test.false (c.byte_at.ensures ∙ e)) c.loop-at.invariant.value)
