-- The cells of a rule that a walk gives, by each history that the store stands for. (Own rule.)
use Rattle.std.specs.Prelude.{◌≡◌, ◌≤ℤ◌, ℤ, true, List, map}
use Rattle.ts_core.specs.lists.Members.{Among}
use Rattle.ts_core.specs.facts.Facts.{Column, is_within}
use Rattle.ts_core.specs.facts.Latest.{latest_of}
use Rattle.ts_core.specs.settings.Settings.{Settings}
use Rattle.ts_core.specs.aggregates.Aggregates.{empty_aggregate}
use Rattle.ts_core.specs.store.History.{History}
use Rattle.ts_core.specs.store.RawFacts.{kept_from}
use Rattle.ts_core.specs.store.Cells.{Cell, total_of, frozen_of, live_of}
use Rattle.ts_core.specs.store.StoreStates.{RuleCells}
use Rattle.ts_store.specs.read.ViewResults.{SeenCell}

-- From its low index on, the rule's cells from index a, inclusive, to b, exclusive, have the frozen and the live part
-- of their facts, if these columns wait. A cell that is left out has an empty total.
pub record AreCellsOf (waiting : List Column)
    (r : RuleCells) (a b : ℤ) (cells : List SeenCell) (opening : Settings) (h : History) : Type 0 where
  pub frozen : (c : SeenCell) → Among c cells
      → r.low ≤ℤ c.cell.index → c.parts.frozen ≡ frozen_of (kept_from opening h waiting) r.rule c.cell (latest_of h)
  pub live : (c : SeenCell) → Among c cells
      → r.low ≤ℤ c.cell.index → c.parts.live ≡ live_of (kept_from opening h waiting) r.rule c.cell (latest_of h)
  pub others : (k : Cell) → r.low ≤ℤ k.index → is_within a b k.index ≡ true
      → (Among k (map (λ (c : SeenCell). c.cell) cells) → ⊥) → total_of r.rule k (latest_of h) ≡ empty_aggregate
