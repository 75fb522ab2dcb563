use Rattle.std.proofs.Common.{◌<◌, ◌≤◌, ◌-◌, ℕ, length, get_or}
use Rattle.ts_cells.proofs.row.lowest.Given as goal

abbrev pub invariant-loop-at : goal.invariant-loop-at
invariant-loop-at l = record {
  low : l.from ≤ l.best;
  high : l.best ≤ l.to;
  lowest : (i : ℕ) → i < l.at → get_or l.series_of_slot i 0 < length l.ranks → l.from ≤ get_or l.ranks (get_or l.series_of_slot i 0) 0 → l.best ≤ get_or l.ranks (get_or l.series_of_slot i 0) 0;
}

abbrev pub decreases-loop-at : goal.decreases-loop-at
decreases-loop-at l = length l.series_of_slot - l.at
