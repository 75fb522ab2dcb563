use Rattle.std.proofs.Common.{◌≡◌, ◌+◌, [], sym, ap, Err, ◌∙◌, slice_index}
use Rattle.std.proofs.lemmas.Result.{err_from_is_err_and}
use Rattle.ts_line.specs.Fields.{with_field, fields_at}
use Rattle.ts_line.proofs.FieldLemmas.{field_taken, field_failed, fields_ended, too_many}
use Rattle.ts_line.proofs.ends.fields_end.Goals as goal

pub returns-in_err-end-clause-value : goal.returns-in_err-end-clause-value
returns-in_err-end-clause-value c =
    let so_far = c.loop.invariant.1 in
    let p = err_from_is_err_and c.from_residual.result c.from_residual.ensures.1 in
    rw (p.1, p.2) (field_failed c.loop.counter so_far.0 c.args.line.now c.loop.at c.in_err-end.field-0.0 (fields_at 256 [] c.args.line.now c.args.start) c.loop-test.true c.in_err-end.ensures.value so_far.1)

pub returns-then-byte_at-ne44-clause-value : goal.returns-then-byte_at-ne44-clause-value
returns-then-byte_at-ne44-clause-value c =
    let so_far = c.loop.invariant.1 in
    let f = c.in_ok-end.ensures.value in
    (with_field so_far.0 f.0, fields_ended c.loop.counter so_far.0 c.args.line.now c.loop.at f.0 c.in_ok-end.end (fields_at 256 [] c.args.line.now c.args.start) c.loop-test.true (λ e. c.if-byte_at-ne44.true (c.byte_at.ensures ∙ e)) f.1 so_far.1)

pub loop-preserved : goal.loop-preserved
loop-preserved c =
    let so_far = c.loop.invariant.1 in
    let f = c.in_ok-end.ensures.value in
    let comma : slice_index c.args.line.now c.in_ok-end.end ≡ 44 = sym c.byte_at.ensures ∙ c.if-byte_at-ne44.false in
    let next : c.after-at.result ≡ c.in_ok-end.end + 1 = c.after-at.ensures.value in
    (c.after-at.ensures.boundary, (with_field so_far.0 f.0, rw next (field_taken c.loop.counter so_far.0 c.args.line.now c.loop.at f.0 c.in_ok-end.end (fields_at 256 [] c.args.line.now c.args.start) c.loop-test.true comma f.1 so_far.1)))

pub returns-clause-value : goal.returns-clause-value
returns-clause-value c =
    let so_far = c.loop.invariant.1 in
    too_many c.loop.counter so_far.0 c.args.line.now c.loop.at (fields_at 256 [] c.args.line.now c.args.start) c.loop-test.false so_far.1 ∙ ap Err (sym c.at.ensures)
