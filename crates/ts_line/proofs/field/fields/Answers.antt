use Rattle.std.proofs.Common.{◌≡◌, ◌+◌, [], sym, ap, Err, ◌∙◌, slice_index}
use Rattle.std.proofs.lemmas.Result.{err_from_is_err_and}
use Rattle.ts_line.specs.Fields.{next_field, with_field, fields_at}
use Rattle.ts_line.proofs.FieldLemmas.{field_taken, field_fails, fields_ended, too_many}
use Rattle.ts_line.proofs.StepsPutLemmas.{was_read, was_fault}
use Rattle.ts_line.proofs.field.fields.Goals as goal

pub returns-in_err-end-clause-value : goal.returns-in_err-end-clause-value
returns-in_err-end-clause-value g c =
    let p = err_from_is_err_and c.from_residual-in_err-end.result c.from_residual-in_err-end.ensures.1 in
    let read = was_fault (with_field c.loop.fields.items) (next_field c.args.line.now c.loop.at) c.in_err-end.field-0.0 c.in_err-end.ensures.value in
    rw (p.1, p.2) (field_fails c.loop.counter c.loop.fields.items c.args.line.now c.loop.at c.in_err-end.field-0.0 (fields_at 256 [] c.args.line.now c.args.start) c.loop-test.true read c.loop.invariant.value)

pub returns-then-byte_at-ne44-clause-value : goal.returns-then-byte_at-ne44-clause-value
returns-then-byte_at-ne44-clause-value g c =
    let f = was_read (with_field c.loop.fields.items) (next_field c.args.line.now c.loop.at) c.insert_next.new.fields.items c.in_ok-end.end c.in_ok-end.ensures.value in
    rw f.2 (fields_ended c.loop.counter c.loop.fields.items c.args.line.now c.loop.at f.0 c.in_ok-end.end (fields_at 256 [] c.args.line.now c.args.start) c.loop-test.true (λ e. c.if-byte_at-ne44.true (c.byte_at.ensures ∙ e)) f.1 c.loop.invariant.value)

pub loop-preserved : goal.loop-preserved
loop-preserved g c =
    let comma : slice_index c.args.line.now c.in_ok-end.end ≡ 44 = sym c.byte_at.ensures ∙ c.if-byte_at-ne44.false in
    let next : c.after-at.result ≡ c.in_ok-end.end + 1 = c.after-at.ensures.value in
    let f = was_read (with_field c.loop.fields.items) (next_field c.args.line.now c.loop.at) c.insert_next.new.fields.items c.in_ok-end.end c.in_ok-end.ensures.value in
    record {
      boundary = c.after-at.ensures.boundary;
      marked = c.in_ok-end.ensures.marked;
      value = rw (f.2, next) (field_taken c.loop.counter c.loop.fields.items c.args.line.now c.loop.at f.0 c.in_ok-end.end (fields_at 256 [] c.args.line.now c.args.start) c.loop-test.true comma f.1 c.loop.invariant.value);
    }

pub returns-clause-value : goal.returns-clause-value
returns-clause-value g c =
    too_many c.loop.counter c.loop.fields.items c.args.line.now c.loop.at (fields_at 256 [] c.args.line.now c.args.start) c.loop-test.false c.loop.invariant.value
    ∙ ap Err (sym c.at.ensures)
