-- Limits of every query: the number of its buckets, and the start of the first. (Own rules.)
use Rattle.std.specs.Prelude.{◌≤◌, ◌≤ℤ◌, ◌<ℤ◌, length}
use Rattle.ts_core.specs.aggregates.Buckets.{bucket_start}
use Rattle.ts_core.specs.facts.Times.{least_time}
use Rattle.ts_core.specs.queries.Queries.{Query, IsQuery}
use Rattle.ts_core.specs.queries.Answers.{bucket_in, buckets_in}

-- if the range isn't empty, its first bucket starts at a valid time, and at most 10,000 buckets intersect it
pub record IsLimited (q : Query) : Type 0 where
  pub query : IsQuery q
  pub start : q.from <ℤ q.to → least_time ≤ℤ bucket_start (bucket_in q q.from) q.interval q.offset
  pub few : length (buckets_in q) ≤ 10000
