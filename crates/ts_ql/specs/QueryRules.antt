-- The rules that the parts of every query satisfy.
-- (InfluxData 1.8, InfluxQL: the GROUP BY clause. Own rules: names of columns, limits on buckets.)
use Rattle.std.specs.Prelude.{◌≡◌, false}
use Rattle.std.specs.List.Sorted.{IsStrictlySortedBy}
use Rattle.ts_core.specs.facts.Facts.{text_cmp}
use Rattle.ts_ql.specs.BucketLimits.{IsLimited}
use Rattle.ts_ql.specs.Selects.{Select}
use Rattle.ts_ql.specs.Statements.{repeats}

pub record IsSelect (s : Select) : Type 0 where
  -- no two columns have the same name, and none is named `time`
  pub columns : repeats s.columns ≡ false
  -- the group tags are in byte order, each once
  pub tags : IsStrictlySortedBy text_cmp s.query.group_tags
  pub limits : IsLimited s.query
