-- State of a statement being parsed.
-- (InfluxData 1.8, InfluxQL: the basic SELECT statement and its clauses.)
use Rattle.ts_ql.specs.declared.filling.FillClause.{FillClause}
use Rattle.ts_ql.specs.declared.moment.Moment.{Moment}
use Rattle.ts_ql.specs.declared.moment.Range.{Range}
use Rattle.ts_ql.specs.declared.statement.StatementBuilder.{StatementBuilder}
use Rattle.ts_ql.specs.GroupSteps.{Grouped, empty_groups, no_fill}
use Rattle.ts_ql.specs.MomentSteps.{no_moment}
use Rattle.ts_ql.specs.Ranges.{unbounded}
use Rattle.ts_ql.specs.SelectSteps.{Selected, selected, empty_selection}
use Rattle.ts_ql.specs.Statements.{Meaning}
use Rattle.ts_ql.specs.WhereSteps.{Filtered, filtered, empty_filter}

-- a partially parsed statement: the state of each clause
pub record BuilderState : Type 0 where
  pub selection : Selected
  pub filter : Filtered
  pub moment : Moment
  pub range : Range
  pub groups : Grouped
  pub filling : FillClause

abbrev pub builder_state : {A : Type 0} → StatementBuilder A → BuilderState
builder_state d = record {
  selection = selected d.selection;
  filter = filtered d.filter;
  moment = d.moment;
  range = d.range;
  groups = d.groups;
  filling = d.filling;
}

abbrev pub empty_builder : BuilderState
empty_builder = record {
  selection = empty_selection;
  filter = empty_filter;
  moment = no_moment;
  range = unbounded;
  groups = empty_groups;
  filling = no_fill;
}

-- its meaning so far
abbrev pub meaning : BuilderState → Meaning
meaning d = record {
  columns = d.selection.columns;
  field = d.selection.field;
  measurement = d.selection.measurement;
  conditions = d.filter.conditions;
  range = d.range;
  buckets = d.groups.buckets;
  tags = d.groups.tags;
  fill = d.filling.fill;
}
