-- The effect of a begin, a step and a write on a store's content.
use Rattle.std.proofs.Common.{◌≡◌, ℤ, Bool, true, false, cond, not, ◌&&◌, ◌||◌, ◌+◌, List, map, filter, int_le, ◌≤ℤ◌, ◌⊎◌}
use Rattle.std.specs.Int.{int_max}
use Rattle.ts_core.specs.lists.Members.{Among, AllDistinct}
use Rattle.ts_core.specs.facts.Facts.{Series, Column, Fact}
use Rattle.ts_core.specs.store.History.{kept_since}
use Rattle.ts_core.specs.aggregates.Aggregates.{merged}
use Rattle.ts_core.specs.store.RawFacts.{same_column}
use Rattle.ts_core.specs.store.Marks.{index_of}
use Rattle.ts_core.specs.store.Cells.{Cell, cell_of, is_rolled, is_in_cell}
use Rattle.ts_core.specs.store.StoreStates.{ColumnPoints, RuleCells, StoreState, column_of, lowest_of, facts_of}
use Rattle.ts_core.proofs.store.Cuts.{aggregate_where}

-- ---- begin: the marks rise, and every column waits

pub record IsRaised (now : ℤ) (r after : RuleCells) : Type 0 where
  pub rule : r.rule ≡ after.rule
  pub low : int_max r.low (index_of r.rule (kept_since r.rule.duration now)) ≡ after.low
  pub cells : r.cells ≡ after.cells
  pub parts : (k : Cell) → after.parts k ≡ r.parts k

abbrev pub begun : ℤ → List RuleCells → StoreState → StoreState
begun now after s = record s {
  marks = record { raw = int_max s.marks.raw (kept_since s.settings.raw_duration now); lows = map lowest_of after };
  running = true;
  waiting = map column_of s.columns;
  rules = after;
}

-- ---- a step that moves a column

-- of another column, or from the mark on
abbrev pub is_left : Column → ℤ → Fact → Bool
is_left c mark f = not (same_column f.column c) || int_le mark f.time

abbrev pub left_points : Column → ℤ → ColumnPoints → ColumnPoints
left_points c mark s = cond (same_column s.column c) (record { column = s.column; points = filter (λ (p : ℤ × ℤ). int_le mark p.0) s.points }) s

-- removed facts are merged into the frozen part, and the live part is that of the others
pub record IsMoved (c : Column) (mark : ℤ) (before after : List ColumnPoints) (r next : RuleCells) : Type 0 where
  pub rule : r.rule ≡ next.rule
  pub low : r.low ≡ next.low
  pub cells : r.cells ≡ next.cells
  pub frozen : (k : Cell) → r.low ≤ℤ k.index → (next.parts k).frozen ≡ merged (r.parts k).frozen (aggregate_where (λ (f : Fact). is_in_cell r.rule k f && not (is_left c mark f)) (facts_of before))
  pub live : (k : Cell) → r.low ≤ℤ k.index → (next.parts k).live ≡ aggregate_where (is_in_cell r.rule k) (facts_of after)

abbrev pub columns_left : Column → StoreState → List ColumnPoints
columns_left c s = map (left_points c s.marks.raw) s.columns

abbrev pub moved : Column → List Column → List RuleCells → StoreState → StoreState
moved c rest after s = record s { waiting = rest; columns = columns_left c s; rules = after }

-- ---- a step that removes cells, all below the low index

pub record IsExpired (r after : RuleCells) : Type 0 where
  pub rule : r.rule ≡ after.rule
  pub low : r.low ≡ after.low
  pub once : AllDistinct after.cells
  pub stays : (k : Cell) → r.low ≤ℤ k.index → Among k r.cells → Among k after.cells
  pub parts : (k : Cell) → r.low ≤ℤ k.index → after.parts k ≡ r.parts k

abbrev pub expired : List RuleCells → StoreState → StoreState
expired after s = record s { rules = after }

-- ---- the step that ends a run

abbrev pub closed : StoreState → StoreState
closed s = record s { running = false }

-- ---- a write of one fact

-- of facts: the new one, and those of other ids
pub record FactsToo (before after : List Fact) (f : Fact) (is_other : Fact → Bool) : Type 0 where
  pub once : AllDistinct after
  pub new : Among f after
  pub stays : (g : Fact) → Among g before → is_other g ≡ true → Among g after
  pub only : (g : Fact) → Among g after → (g ≡ f) ⊎ (Among g before × (is_other g ≡ true))

-- of columns: those before, and the fact's
pub record ColumnsToo (before after : List ColumnPoints) (f : Fact) : Type 0 where
  pub once : AllDistinct (map column_of after)
  pub new : Among f.column (map column_of after)
  pub stays : (c : Column) → Among c (map column_of before) → Among c (map column_of after)

-- the fact's cell is there, and its live part is folded anew; the others keep their parts
pub record IsWritten (f : Fact) (after : List ColumnPoints) (r next : RuleCells) : Type 0 where
  pub rule : r.rule ≡ next.rule
  pub low : r.low ≡ next.low
  pub once : AllDistinct next.cells
  pub new : is_rolled r.rule f ≡ true → r.low ≤ℤ (cell_of r.rule f).index → Among (cell_of r.rule f) next.cells
  pub stays : (k : Cell) → Among k r.cells → Among k next.cells
  pub frozen : (k : Cell) → r.low ≤ℤ k.index → (next.parts k).frozen ≡ (r.parts k).frozen
  pub live_here : (k : Cell) → r.low ≤ℤ k.index → is_in_cell r.rule k f ≡ true → (next.parts k).live ≡ aggregate_where (is_in_cell r.rule k) (facts_of after)
  pub live_elsewhere : (k : Cell) → r.low ≤ℤ k.index → is_in_cell r.rule k f ≡ false → (next.parts k).live ≡ (r.parts k).live

abbrev pub written : List Series → List ColumnPoints → List RuleCells → StoreState → StoreState
written series columns rules s = record s { series = series; columns = columns; accepted = s.accepted + 1; rules = rules }
