-- Buckets of time: intervals of equal length, aligned to an offset.
-- (InfluxData 1.8, GROUP BY time: preset time boundaries, and the offset interval.)
use Rattle.std.specs.Prelude.{ℤ, pos, ◌+ℤ◌, ◌-ℤ◌, ◌*ℤ◌, ◌≤ℤ◌, ◌<ℤ◌}
use Rattle.std.specs.Int.{int_div_euclid}

-- the start of the bucket with this index
abbrev pub bucket_start : ℤ → ℤ → ℤ → ℤ
bucket_start index interval offset = (index *ℤ interval) +ℤ offset

-- the bucket with this index contains t: it starts at or before t, and the next one after t
pub record IsBucketOf (t interval offset index : ℤ) : Type 0 where
  pub from_start : bucket_start index interval offset ≤ℤ t
  pub before_end : t <ℤ bucket_start (index +ℤ pos 1) interval offset

-- the index of the bucket that contains t, by floor division
abbrev pub bucket_of : ℤ → ℤ → ℤ → ℤ
bucket_of t interval offset = int_div_euclid (t -ℤ offset) interval
