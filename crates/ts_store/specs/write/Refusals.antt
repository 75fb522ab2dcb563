-- When a write is refused, and with which error. (Own rules: `BelowRawMark` for a time below the raw mark,
-- `TooManySeries` above 1,000,000 series, `TooManyFacts` above 2^62 accepted facts. InfluxData 1.8, downsampling and
-- data retention: points beyond a policy are dropped.)
use Rattle.std.specs.Prelude.{ℕ, ℤ, int_le, ◌+◌, ◌^◌, nat_le, Bool, not, ◌&&◌, List, length, Option, None}
use Rattle.std.specs.List.{list_any}
use Rattle.std.specs.Ordering.{eq_by_cmp}
use Rattle.ts_core.specs.facts.Facts.{Series, series_cmp}
use Rattle.ts_core.specs.settings.SettingsFaults.{unless}
use Rattle.ts_line.specs.Parts.{Parts, series_of, line_facts}
use Rattle.ts_store.specs.declared.write.fault.WriteFault.{WriteFault}
use Rattle.ts_store.specs.declared.write.fault.WriteFault.TheVariants.{BelowRawMark, TooManySeries, TooManyFacts}

abbrev pub is_registered : List Series → Series → Bool
is_registered series s = list_any (eq_by_cmp series_cmp s) series

-- the series is new, and 1,000,000 are registered
abbrev pub is_too_many : List Series → Series → Bool
is_too_many series s = nat_le 1000000 (length series) && not (is_registered series s)

-- the error of a line under this raw mark, with these registered series and this number of accepted facts
abbrev pub write_fault : ℤ → List Series → ℕ → Parts → Option WriteFault
write_fault mark series accepted p =
    unless (int_le mark p.time) (BelowRawMark mark)
    (unless (not (is_too_many series (series_of p))) TooManySeries
    (unless (nat_le (accepted + length (line_facts p)) (2 ^ 62)) TooManyFacts None))
