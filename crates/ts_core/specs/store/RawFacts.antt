-- The facts that a column still has as raw points. While a run is open, a waiting column has those from before it. (Own
-- rules.)
use Rattle.std.specs.Prelude.{ℤ, int_le, Bool, ◌&&◌, List, [], ◌∷◌, filter, if◌then◌else◌}
use Rattle.std.specs.List.{list_any}
use Rattle.std.specs.Ordering.{eq_by_cmp}
use Rattle.ts_core.specs.facts.Times.{least_time}
use Rattle.ts_core.specs.facts.Facts.{Column, column_cmp, Fact}
use Rattle.ts_core.specs.settings.Settings.{Settings}
use Rattle.ts_core.specs.store.History.{History, Line, Begin, Step, AddRule, DropRule, raw_mark}
use Rattle.ts_core.specs.facts.Latest.{latest_of}

abbrev pub same_column : Column → Column → Bool
same_column = eq_by_cmp column_cmp

-- the column is one of those that the open run hasn't moved yet
abbrev pub is_waiting : List Column → Column → Bool
is_waiting waiting c = list_any (same_column c) waiting

-- the raw mark before the last begin
abbrev pub earlier_mark : Settings → History → ℤ
earlier_mark opening [] = least_time
earlier_mark opening (Line facts ∷ h) = earlier_mark opening h
earlier_mark opening (Begin now ∷ h) = raw_mark opening h
earlier_mark opening (Step ended ∷ h) = earlier_mark opening h
earlier_mark opening (AddRule rule ∷ h) = earlier_mark opening h
earlier_mark opening (DropRule name ∷ h) = earlier_mark opening h

-- the time from which a column still has its raw points
abbrev pub kept_from : Settings → History → List Column → Column → ℤ
kept_from opening h waiting c = if is_waiting waiting c then earlier_mark opening h else raw_mark opening h

-- a cut by two moments: one for the columns that wait, and one for the others
pub record Cut : Type 0 where
  pub waiting : List Column
  pub earlier : ℤ
  pub mark : ℤ

abbrev pub cut_at : Cut → Column → ℤ
cut_at cut c = if is_waiting cut.waiting c then cut.earlier else cut.mark

-- the fact is from the cut of its column on
abbrev pub is_kept : (Column → ℤ) → Fact → Bool
is_kept cut f = int_le (cut f.column) f.time

-- the latest facts from the raw mark on; if no column waits, these are the raw facts of all columns
abbrev pub raw_facts : Settings → History → List Fact
raw_facts opening h = filter (λ (f : Fact). int_le (raw_mark opening h) f.time) (latest_of h)

-- the raw facts of a column
abbrev pub raw_of : Settings → History → List Column → Column → List Fact
raw_of opening h waiting c =
    filter (λ (f : Fact). same_column f.column c && is_kept (kept_from opening h waiting) f) (latest_of h)
