-- Lists of statements, and the columns, conditions and tags in them, as written.
-- (InfluxData 1.8, InfluxQL: the basic SELECT statement, AS; the WHERE clause, tags; the GROUP BY clause.)
use Rattle.std.specs.Prelude.{List, [], ◌∷◌, ◌++◌, Option, Some, None, option_map}
use Rattle.std.specs.Borrow.{Bor}
use Rattle.std.specs.Option.{unwrap_or}
use Rattle.ts_core.specs.declared.queries.value.Function.{Function}
use Rattle.ts_core.specs.facts.Facts.{Text}
use Rattle.ts_core.specs.queries.Queries.{Condition}
use Rattle.ts_ql.specs.declared.lists.columns.Column.{Column}
use Rattle.ts_ql.specs.declared.lists.conditions.TagTest.{TagTest}
use Rattle.ts_ql.specs.declared.lists.queries.Outline.{Outline}
use Rattle.ts_ql.specs.declared.lists.tags.Tag.{Tag}
use Rattle.ts_ql.specs.Literals.{text_spelled}
use Rattle.ts_ql.specs.Selects.{Projection, Select, function_name, inserted_text}

-- the text that a token spells
abbrev pub spelled_by : Bor Text → Text
spelled_by text = text_spelled text.now

-- a column is named by AS, or else by its function
abbrev pub column_name : Function → Option (Bor Text) → Text
column_name f None = function_name f
column_name f (Some alias) = spelled_by alias

abbrev pub projection : Column → Projection
projection c = record { function = c.function; name = column_name c.function c.alias }

abbrev pub condition : TagTest → Condition
condition t = record { tag = spelled_by t.tag; value = spelled_by t.value; negated = t.negated }

-- the columns, conditions and tags of a statement, or the queries of a text
pub record Lists : Type 0 where
  pub columns : List Projection
  pub conditions : List Condition
  pub tags : List Text
  pub queries : List Select

abbrev pub no_lists : Lists
no_lists = record { columns = []; conditions = []; tags = []; queries = [] }

abbrev pub column_appended : Column → Lists → Lists
column_appended c l = record l { columns = l.columns ++ projection c ∷ [] }

abbrev pub condition_appended : TagTest → Lists → Lists
condition_appended t l = record l { conditions = l.conditions ++ condition t ∷ [] }

abbrev pub tag_inserted : Tag → Lists → Lists
tag_inserted t l = record l { tags = inserted_text (spelled_by t.name) l.tags }

-- the query of a statement with these columns, conditions and tags
abbrev pub outlined : Lists → Lists → Lists → Outline → Select
outlined c w g o = record {
  columns = c.columns;
  fill = o.fill;
  query = record {
    measurement = spelled_by o.measurement;
    field = unwrap_or (option_map spelled_by o.field) [];
    conditions = w.conditions;
    from = o.span.from;
    to = o.span.to;
    interval = o.buckets.interval;
    offset = o.buckets.offset;
    group_tags = g.tags;
  };
}

abbrev pub query_appended : Lists → Lists → Lists → Outline → Lists → Lists
query_appended c w g o l = record l { queries = l.queries ++ outlined c w g o ∷ [] }
