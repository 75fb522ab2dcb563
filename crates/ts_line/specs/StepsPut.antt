-- One step of the parser: it inserts the next field or tag into those before it. (Own rule.)
use Rattle.std.specs.Prelude.{◌≤◌, ℕ, ℤ, ◌+◌, List, [], ◌∷◌, ◌++◌, length, Bool, Result, Ok, Err, IfOk}
use Rattle.std.specs.Str.{IsCharBoundary}
use Rattle.ts_core.specs.text.Cursors.{IsOffsetFrom}
use Rattle.ts_core.specs.facts.Facts.{Text}
use Rattle.ts_line.specs.declared.fault.LineFault.{LineFault}
use Rattle.ts_line.specs.declared.fault.ReadLineError.{ReadLineError}
use Rattle.ts_line.specs.Parts.{LinePart}
use Rattle.ts_line.specs.ReadSteps.{GivesIfMemory}
use Rattle.ts_line.specs.TagParts.{next_tag}
use Rattle.ts_line.specs.Fields.{next_field, with_field}
use Rattle.ts_line.specs.NameFilters.{AreInFilter, AreKeysInFilter}

-- applies `put` to the parsed item and keeps the offset after it
abbrev pub put_by : {X Y : Type 0} → (X → Y) → Result (X × ℕ) LineFault → Result (Y × ℕ) LineFault
put_by put (Ok read) = Ok (put read.0, read.1)
put_by put (Err fault) = Err fault

-- a call inserts the field at `start` into `before`, which gives `after` and sets the slots of its names
pub record InsertsNextField (before after : List (LinePart × ℤ))
    (slots : List Bool) (line : Text) (start : ℕ) (result : Result ℕ ReadLineError) : Type 0 where
  pub value : GivesIfMemory (λ end. (after, end)) result (put_by (with_field before) (next_field line start))
  pub marked : IfOk result (λ _. AreInFilter slots after)
  pub boundary : IfOk result (λ end. IsCharBoundary line end)

-- a call appends the tag at `start` to `before`, which gives `after` and sets the slots of its keys
pub record PushesNextTag (before after : List (LinePart × LinePart))
    (slots : List Bool) (line : Text) (start : ℕ) (result : Result ℕ ReadLineError) : Type 0 where
  pub value : GivesIfMemory
      (λ end. (after, end)) result (put_by (λ tag. before ++ tag ∷ []) (next_tag before line start))
  pub marked : IfOk result (λ _. AreKeysInFilter slots after)
  pub few : IfOk result (λ _. length after ≤ 64)
  pub offset : IfOk result (λ end. IsOffsetFrom line (start + 1) end)
