-- The effect of a write: the line is accepted, or it is refused, or the call ran out of memory. (Own rules.)
use Rattle.std.specs.Prelude.{◌≡◌, ◌≢◌, ◌⊎◌, ◌↔◌, ℤ, ◌≤ℤ◌, List, map, length, Some, None, Result, Ok, Err, OnOk, IfSome, IsNone, IsTrue}
use Rattle.std.specs.FinMap as finmap
use Rattle.ts_core.specs.lists.Members.{Among}
use Rattle.ts_core.specs.lists.Numbered.{Gains}
use Rattle.ts_core.specs.facts.Facts.{Fact}
use Rattle.ts_core.specs.settings.Settings.{Rule}
use Rattle.ts_core.specs.store.Cells.{Cell, is_in_cell}
use Rattle.ts_core.specs.lists.Changes.{or_else}
use Rattle.ts_core.specs.store.History.{Line}
use Rattle.ts_core.specs.moves.Runs.{steps_left}
use Rattle.ts_core.specs.store.StoreStates.{CellParts, column_of}
use Rattle.ts_core.specs.store.StoreData.{CellMap, StoreData, no_parts, OfEachRule, state_of, GoesOn, StaysFor}
use Rattle.ts_core.specs.moves.StoreMoves.{grown, put_facts}
use Rattle.ts_line.specs.Parts.{Parts, series_of, line_facts}
use Rattle.ts_store.specs.declared.write.fault.WriteFault.{WriteFault}
use Rattle.ts_store.specs.declared.write.fault.WriteFault.TheVariants.{OutOfMemory}
use Rattle.ts_store.specs.write.Refusals.{write_fault}
use Rattle.ts_store.specs.write.Registered.{MayGain, MakesFirst, new_columns, with_columns}

-- the rule rolls one of the facts up into the cell
abbrev pub IsOfFacts : List Fact → Rule → Cell → Type 0
IsOfFacts facts r k = (f : Fact) × Among f facts × IsTrue (is_in_cell r k f)

-- The cells of a rule after facts were inserted. The missing cells of these facts are created, but none below the low
-- index, and no others. A frozen part stays, and so does each cell of no such fact.
pub record PutsCells (facts : List Fact) (r : Rule) (low : ℤ) (m n : CellMap) : Type 0 where
  pub there : (k : Cell)
      → (finmap.get n k ≢ None) ↔ ((finmap.get m k ≢ None) ⊎ ((low ≤ℤ k.index) × IsOfFacts facts r k))
  pub frozen : (k : Cell) → (or_else no_parts (finmap.get n k)).frozen ≡ (or_else no_parts (finmap.get m k)).frozen
  pub others : (k : Cell) → (IsOfFacts facts r k → ⊥) → finmap.get n k ≡ finmap.get m k

-- The cells of a rule when out of memory: each cell stays. Some missing cells of these facts may be created, without
-- content, but none below the low index.
pub record GainsCells (facts : List Fact) (r : Rule) (low : ℤ) (m n : CellMap) : Type 0 where
  pub stays : (k : Cell) (p : CellParts) → finmap.get m k ≡ Some p → finmap.get n k ≡ Some p
  pub created : (k : Cell) (p : CellParts)
      → finmap.get m k ≡ None → finmap.get n k ≡ Some p → (p ≡ no_parts) × (low ≤ℤ k.index) × IsOfFacts facts r k

-- The line is accepted. Its new columns and its missing cells are created. An open run stays the same: no new column
-- waits, and the number of steps left stays.
pub record Accepts (old new : StoreData) (p : Parts) : Type 0 where
  pub history : GoesOn old (Line (line_facts p)) new
  pub series : Gains old.series new.series (series_of p)
  pub columns : map column_of new.columns
      ≡ map column_of (with_columns old.columns (new_columns (map column_of old.columns) (line_facts p)))
  pub cells : OfEachRule (PutsCells (line_facts p)) old.rules new.rules
  pub others : new
      ≡ put_facts new.columns new.rules (length (line_facts p)) (grown new.series new.columns new.rules old)
  pub left : steps_left (state_of new) ≡ steps_left (state_of old)

-- No fact is accepted. The first of the line's new columns and some of its missing cells may be created.
pub record Leaves (old new : StoreData) (p : Parts) : Type 0 where
  pub history : StaysFor old new
  pub series : MayGain old.series new.series (series_of p)
  pub columns : MakesFirst old.columns new.columns (line_facts p)
  pub cells : OfEachRule (GainsCells (line_facts p)) old.rules new.rules
  pub others : new ≡ grown new.series new.columns new.rules old
  pub left : steps_left (state_of new) ≡ steps_left (state_of old)

-- a write. Without an error, the line is accepted. A refused line has this error, and changes nothing. A line that
-- isn't refused may still run out of memory.
pub record WritesLine (old new : StoreData) (p : Parts) (result : Result (Unit {0}) WriteFault) : Type 0 where
  pub ok : OnOk result (Accepts old new p)
  pub refused : IfSome (write_fault old.raw_mark old.series old.accepted p)
      (λ fault. (result ≡ Err fault) × (new ≡ old))
  pub taken : IsNone (write_fault old.raw_mark old.series old.accepted p)
      → (result ≡ Ok tt) ⊎ ((result ≡ Err OutOfMemory) × Leaves old new p)
