use Rattle.std.proofs.Common.{◌≡◌, ◌<◌, ◌≤◌, ◌-◌, ℕ, length, get_or}
use Rattle.ts_cells.specs.RollupSeriesTable.{shifted}
use Rattle.ts_cells.proofs.series_table.shift.Given as goal

abbrev pub invariant-loop-done : goal.invariant-loop-done
invariant-loop-done l = record {
  few : l.done ≤ l.count;
  len : length l.ranks ≡ length l.initial.ranks;
  before : (j : ℕ) → j < l.done → get_or l.ranks j 0 ≡ shifted l.at (get_or l.initial.ranks j 0);
  after : (j : ℕ) → l.done ≤ j → get_or l.ranks j 0 ≡ get_or l.initial.ranks j 0;
}

abbrev pub decreases-loop-done : goal.decreases-loop-done
decreases-loop-done l = l.count - l.done
