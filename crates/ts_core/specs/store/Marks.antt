-- The raw mark and the low indices: from there on a store has all its raw points, and all cells of each rule. (Own
-- rules.)
use Rattle.std.specs.Prelude.{ℕ, ℤ, pos, ◌+ℤ◌, ◌-ℤ◌, ◌≤ℤ◌, List, [], ◌∷◌, map, if◌then◌else◌}
use Rattle.std.specs.Int.{int_max}
use Rattle.ts_core.specs.lists.Members.{Among}
use Rattle.ts_core.specs.facts.Times.{least_time}
use Rattle.ts_core.specs.facts.Facts.{Text, same_text}
use Rattle.ts_core.specs.settings.Settings.{Rule, Settings}
use Rattle.ts_core.specs.aggregates.Buckets.{bucket_of, bucket_start}
use Rattle.ts_core.specs.store.History.{History, Line, Begin, Step, AddRule, DropRule, settings_of, kept_since, raw_mark}

-- the raw mark, and for each rule, in the order of the settings, the index of its first complete bucket
pub record Marks : Type 0 where
  pub raw : ℤ
  pub lows : List ℤ

-- the index of a time's bucket under a rule
abbrev pub index_of : Rule → ℤ → ℤ
index_of r t = bucket_of t r.interval r.offset

-- the index of the first bucket that starts at or above a time
abbrev pub first_from : Rule → ℤ → ℤ
first_from r t = index_of r (t -ℤ pos 1) +ℤ pos 1

-- The low index of a rule: the greatest that the begins leave since the rule was added, and at least its starting
-- index. A rule of the opening settings starts with the bucket of the least time. An added rule starts with the first
-- bucket that starts at or above the raw mark of that moment. A rule is identified by its name. If it is dropped and
-- added again, it starts anew.
abbrev pub low_of : Settings → History → Rule → ℤ
low_of opening [] r = index_of r least_time
low_of opening (Line facts ∷ h) r = low_of opening h r
low_of opening (Begin now ∷ h) r = int_max (low_of opening h r) (index_of r (kept_since r.duration now))
low_of opening (Step ended ∷ h) r = low_of opening h r
low_of opening (AddRule rule ∷ h) r =
    if same_text rule.name r.name then first_from r (raw_mark opening h) else low_of opening h r
low_of opening (DropRule name ∷ h) r = low_of opening h r

-- the marks that a history leaves
abbrev pub marks_of : Settings → History → Marks
marks_of opening h = record { raw = raw_mark opening h; lows = map (low_of opening h) (settings_of opening h).rules }

-- ---- the same in other words: the greatest over the moments at which a run began

abbrev pub begins : History → List ℤ
begins [] = []
begins (Line facts ∷ h) = begins h
begins (Begin now ∷ h) = now ∷ begins h
begins (Step ended ∷ h) = begins h
begins (AddRule rule ∷ h) = begins h
begins (DropRule name ∷ h) = begins h

-- the events since a rule of this name was last added, or all events if none was
abbrev pub since_added : Text → History → History
since_added name [] = []
since_added name (Line facts ∷ h) = Line facts ∷ since_added name h
since_added name (Begin now ∷ h) = Begin now ∷ since_added name h
since_added name (Step ended ∷ h) = Step ended ∷ since_added name h
since_added name (AddRule rule ∷ h) = if same_text rule.name name then [] else AddRule rule ∷ since_added name h
since_added name (DropRule dropped ∷ h) = DropRule dropped ∷ since_added name h

-- the index that a rule starts with
abbrev pub start_of_rule : Settings → History → Rule → ℤ
start_of_rule opening [] r = index_of r least_time
start_of_rule opening (Line facts ∷ h) r = start_of_rule opening h r
start_of_rule opening (Begin now ∷ h) r = start_of_rule opening h r
start_of_rule opening (Step ended ∷ h) r = start_of_rule opening h r
start_of_rule opening (AddRule rule ∷ h) r =
    if same_text rule.name r.name then first_from r (raw_mark opening h) else start_of_rule opening h r
start_of_rule opening (DropRule name ∷ h) r = start_of_rule opening h r

-- no bucket before this one starts at or above a time, and this one does
pub record IsFirstFrom (r : Rule) (t index : ℤ) : Type 0 where
  pub starts : t ≤ℤ bucket_start index r.interval r.offset
  pub first : (k : ℤ) → t ≤ℤ bucket_start k r.interval r.offset → index ≤ℤ k

-- x is the greatest of the list
pub record IsGreatestOf (xs : List ℤ) (x : ℤ) : Type 0 where
  pub reached : Among x xs
  pub none_greater : (y : ℤ) → Among y xs → y ≤ℤ x

-- m is the greatest of the least time and of the time that a duration leaves at each begin
abbrev pub IsGreatestLeft : ℕ → History → ℤ → Type 0
IsGreatestLeft duration h m = IsGreatestOf (least_time ∷ map (kept_since duration) (begins h)) m
