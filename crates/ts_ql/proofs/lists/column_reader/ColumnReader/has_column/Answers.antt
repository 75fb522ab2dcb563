use Rattle.std.proofs.Common.{sym, ap, ◌∙◌}
use Rattle.ts_ql.specs.Lists.{projection}
use Rattle.ts_ql.specs.Statements.{has_column}
use Rattle.ts_ql.proofs.ColumnLemmas.{named_here, named_later}
use Rattle.ts_ql.proofs.lists.column_reader.ColumnReader.has_column.Goals as goal

pub returns-then-is_named_as : goal.returns-then-is_named_as
returns-then-is_named_as c = λ left w.
    let name = (projection c.args.column.now).name in
    let (rest, is, same) = c.loop-other.invariant.left left w in
    let (more, parts, after) = c.in-Some.ensures.value rest is in
    sym (same ∙ named_here name rest more (projection c.in-Some.other) parts (sym c.is_named_as.ensures ∙ c.if-is_named_as.true))

pub loop-other-preserved : goal.loop-other-preserved
loop-other-preserved c = record {
  boundary = c.next.ensures.boundary;
  left = λ left w.
      let name = (projection c.args.column.now).name in
      let (rest, is, same) = c.loop-other.invariant.left left w in
      let (more, parts, after) = c.in-Some.ensures.value rest is in
      (more, after, same ∙ named_later name rest more (projection c.in-Some.other) parts (sym c.is_named_as.ensures ∙ c.if-is_named_as.false));
}

pub returns : goal.returns
returns c = λ left w.
    let name = (projection c.args.column.now).name in
    let (rest, is, same) = c.loop-other.invariant.left left w in
    sym (same ∙ ap (has_column name) (c.in_default.ensures.value rest is))
