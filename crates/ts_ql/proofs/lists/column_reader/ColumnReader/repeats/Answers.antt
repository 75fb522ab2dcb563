use Rattle.std.proofs.Common.{sym, ap, ◌∙◌}
use Rattle.ts_ql.specs.Lists.{projection}
use Rattle.ts_ql.specs.Statements.{repeats}
use Rattle.ts_ql.proofs.ColumnLemmas.{repeats_time, repeats_named, repeats_later}
use Rattle.ts_ql.proofs.lists.column_reader.ColumnReader.repeats.Goals.{then-is_time-via-then-is_time, then-is_time-via-else-is_time+then-has_column}
use Rattle.ts_ql.proofs.lists.column_reader.ColumnReader.repeats.Goals as goal

pub returns-then-is_time : goal.returns-then-is_time
returns-then-is_time c = λ left w.
    let (rest, is, same) = c.loop-column.invariant.left left w in
    let (more, parts, after) = c.in-Some.ensures.value rest is in
    let column = projection c.in-Some.column in
    elim c.then-is_time.branch [
      | then-is_time-via-then-is_time w ↦ sym (same ∙ repeats_time rest more column parts (sym c.is_time.ensures ∙ w.if-is_time.true))
      | then-is_time-via-else-is_time+then-has_column w ↦
          sym (same ∙ repeats_named rest more column parts (sym c.is_time.ensures ∙ w.if-is_time.false) (sym (w.has_column.ensures more after) ∙ w.if-has_column.true))
    ]

pub loop-column-preserved : goal.loop-column-preserved
loop-column-preserved c = record {
  boundary = c.next.ensures.boundary;
  left = λ left w.
      let (rest, is, same) = c.loop-column.invariant.left left w in
      let (more, parts, after) = c.in-Some.ensures.value rest is in
      let column = projection c.in-Some.column in
      (more, after, same ∙ repeats_later rest more column parts (sym c.is_time.ensures ∙ c.if-is_time.false) (sym (c.has_column.ensures more after) ∙ c.if-has_column.false));
}

pub returns : goal.returns
returns c = λ left w.
    let (rest, is, same) = c.loop-column.invariant.left left w in
    sym (same ∙ ap repeats (c.in_default.ensures.value rest is))
