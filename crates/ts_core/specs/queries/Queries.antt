-- Queries, and which facts match them.
-- (InfluxData 1.8, InfluxQL: SELECT of functions of one field, WHERE, GROUP BY tags and time(interval, offset).)
use Rattle.std.specs.Prelude.{ℤ, pos, ◌≤ℤ◌, Bool, not, ◌&&◌, List, if◌then◌else◌}
use Rattle.std.specs.List.{list_all}
use Rattle.ts_core.specs.facts.Facts.{Text, same_text, Series, Column, Fact, is_of, is_within}
use Rattle.ts_core.specs.facts.Tags.{tag_value, tag_values}

-- tag = 'value', or tag != 'value' if `negated`
pub record Condition : Type 0 where
  pub tag : Text
  pub value : Text
  pub negated : Bool

pub record Query : Type 0 where
  pub measurement : Text
  pub field : Text
  pub conditions : List Condition
  -- the time range: from `from`, inclusive, to `to`, exclusive
  pub from : ℤ
  pub to : ℤ
  -- its buckets
  pub interval : ℤ
  pub offset : ℤ
  -- the tags of GROUP BY, in byte order, each once
  pub group_tags : List Text

-- true of every query: buckets of at least a nanosecond, and a range that doesn't end before it begins
pub record IsQuery (q : Query) : Type 0 where
  pub interval : pos 1 ≤ℤ q.interval
  pub range : q.from ≤ℤ q.to

abbrev pub meets : Series → Condition → Bool
meets s c = if c.negated then not (same_text (tag_value s c.tag) c.value) else same_text (tag_value s c.tag) c.value

-- a column of the query's measurement and field that meets all conditions
abbrev pub is_selected : Query → Column → Bool
is_selected q c = is_of q.measurement q.field c && list_all (meets c.series) q.conditions

-- a fact of such a column, within the range
abbrev pub matches : Query → Fact → Bool
matches q f = is_selected q f.column && is_within q.from q.to f.time

-- the group of a fact: its values of the group tags
abbrev pub group_of : Query → Fact → List Text
group_of q f = tag_values q.group_tags f.column.series
