use Rattle.std.proofs.Common.{◌≡◌, ◌≤◌, ◌-◌, true, slice_range}
use Rattle.std.specs.Char.{is_ascii_digit}
use Rattle.std.specs.List.{list_all}
use Rattle.std.specs.Str.Parse.{digits_value}
use Rattle.ts_line.proofs.short.digits_at.Given as goal

abbrev pub invariant-loop-at : goal.invariant-loop-at
invariant-loop-at l = record {
  from : l.from ≤ l.at;
  last : l.at ≤ l.last;
  digits : list_all is_ascii_digit (slice_range l.line l.from l.at) ≡ true;
  value : l.number ≡ digits_value 10 (slice_range l.line l.from l.at);
}

abbrev pub decreases-loop-at : goal.decreases-loop-at
decreases-loop-at l = l.last - l.at
