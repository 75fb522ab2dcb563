-- Histories of a store, the newest event first; their settings, raw marks and accepted facts. (Own rules.)
use Rattle.std.specs.Prelude.{◌≡◌, ℕ, ℤ, pos, ◌-ℤ◌, ◌≤ℤ◌, ◌≤◌, ◌^◌, ◌==◌, if◌then◌else◌, Bool, true, false, List, [], ◌∷◌, length, None, FitsSigned, IsTrue}
use Rattle.std.specs.Int.{w64, int_max}
use Rattle.std.specs.List.{AllByRecursion}
use Rattle.ts_core.specs.facts.Times.{IsTime, least_time}
use Rattle.ts_core.specs.facts.Facts.{Text, Fact}
use Rattle.ts_core.specs.settings.Settings.{Rule, Settings, with_rule, without_rule}
use Rattle.ts_core.specs.settings.SettingsFaults.{settings_fault, added_fault, is_named}

pub data Event : Type 0 where
  -- a line was accepted: its facts
  Line : List Fact → Event
  -- a retention run began, at this moment
  Begin : ℤ → Event
  -- a step of a run; true if it ended the run
  Step : Bool → Event
  -- a rule was appended to the settings
  AddRule : Rule → Event
  -- the rule with this name was dropped
  DropRule : Text → Event

-- the events that were not refused, the newest first
abbrev pub History : Type 0
History = List Event

-- ---- settings and marks

-- a rule is added or dropped; every other event leaves the settings as they are
abbrev pub settings_after : Event → Settings → Settings
settings_after (Line facts) s = s
settings_after (Begin now) s = s
settings_after (Step ended) s = s
settings_after (AddRule rule) s = with_rule rule s
settings_after (DropRule name) s = without_rule name s

-- the settings after a history that opened with these
abbrev pub settings_of : Settings → History → Settings
settings_of opening [] = opening
settings_of opening (e ∷ h) = settings_after e (settings_of opening h)

-- the time from which a duration keeps points, at a moment; 0 keeps all
abbrev pub kept_since : ℕ → ℤ → ℤ
kept_since duration now = if duration == 0 then least_time else now -ℤ pos duration

-- the raw mark: the greatest that the begins leave, never below the least time
abbrev pub raw_mark : Settings → History → ℤ
raw_mark opening [] = least_time
raw_mark opening (Line facts ∷ h) = raw_mark opening h
raw_mark opening (Begin now ∷ h) = int_max (raw_mark opening h) (kept_since opening.raw_duration now)
raw_mark opening (Step ended ∷ h) = raw_mark opening h
raw_mark opening (AddRule rule ∷ h) = raw_mark opening h
raw_mark opening (DropRule name ∷ h) = raw_mark opening h

-- a retention run is open: one began, and no step has ended it
abbrev pub IsRunOpen : History → Type 0
IsRunOpen [] = ⊥
IsRunOpen (Line facts ∷ h) = IsRunOpen h
IsRunOpen (Begin now ∷ h) = Unit {0}
IsRunOpen (Step true ∷ h) = ⊥
IsRunOpen (Step false ∷ h) = IsRunOpen h
IsRunOpen (AddRule rule ∷ h) = IsRunOpen h
IsRunOpen (DropRule name ∷ h) = IsRunOpen h

-- ---- accepted facts

-- facts before older ones, the last of them first
abbrev pub put_before : List Fact → List Fact → List Fact
put_before [] older = older
put_before (f ∷ fs) older = put_before fs (f ∷ older)

-- the facts of all lines, the newest first, repeats kept
abbrev pub accepted : History → List Fact
accepted [] = []
accepted (Line facts ∷ h) = put_before facts (accepted h)
accepted (Begin now ∷ h) = accepted h
accepted (Step ended ∷ h) = accepted h
accepted (AddRule rule ∷ h) = accepted h
accepted (DropRule name ∷ h) = accepted h

-- a fact may be accepted at this raw mark
pub record MayBeTaken (mark : ℤ) (f : Fact) : Type 0 where
  pub valid : IsTime f.time
  pub fits : FitsSigned w64 f.value
  pub raw : mark ≤ℤ f.time

-- The opening settings have no fault. At most 2^62 facts are accepted, none below the raw mark of its moment. No run
-- begins while one is open; a run may begin at any moment, and a step without an open run changes nothing. An added
-- rule has no fault after the others, and a dropped rule exists; both may come while a run is open.
abbrev pub IsLawful : Settings → History → Type 0
IsLawful opening [] = settings_fault opening ≡ None
IsLawful opening (Line facts ∷ h) =
    IsLawful opening h
    × AllByRecursion (MayBeTaken (raw_mark opening h)) facts × (length (accepted (Line facts ∷ h)) ≤ 2 ^ 62)
IsLawful opening (Begin now ∷ h) = IsLawful opening h × (IsRunOpen h → ⊥)
IsLawful opening (Step ended ∷ h) = IsLawful opening h
IsLawful opening (AddRule rule ∷ h) = IsLawful opening h × (added_fault (settings_of opening h) rule ≡ None)
IsLawful opening (DropRule name ∷ h) = IsLawful opening h × IsTrue (is_named (settings_of opening h).rules name)
