-- Valid times, in nanoseconds of the Unix epoch.
-- (InfluxData 1.8, line protocol reference, timestamp: the minimum and the maximum valid timestamp.)
use Rattle.std.specs.Prelude.{ℤ, pos, negsuc, ◌≤ℤ◌}

-- -9223372036854775806, in the year 1677
abbrev pub least_time : ℤ
least_time = negsuc 9223372036854775805

-- 9223372036854775806, in the year 2262
abbrev pub greatest_time : ℤ
greatest_time = pos 9223372036854775806

pub record IsTime (t : ℤ) : Type 0 where
  pub not_before : least_time ≤ℤ t
  pub not_after : t ≤ℤ greatest_time
