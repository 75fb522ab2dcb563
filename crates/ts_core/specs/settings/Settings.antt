-- Retention and rollup rules, as the operator sets them.
-- (InfluxData 1.8, downsampling and data retention: a rule represents a retention policy with its continuous query. Own
-- rules: its cells have all latest facts, late ones too, where a continuous query runs once per bucket. Retention cuts
-- raw points exactly at a time, where a retention policy drops whole shard groups.)
use Rattle.std.specs.Prelude.{◌≡◌, ◌≢◌, ◌⊎◌, ℕ, ◌<◌, ◌≤◌, ◌^◌, ℤ, pos, ◌≤ℤ◌, FitsSigned, Bool, not, List, [], ◌∷◌, ◌++◌, map, filter, length}
use Rattle.std.specs.List.{AllByRecursion}
use Rattle.std.specs.Int.{w64}
use Rattle.ts_core.specs.lists.Members.{AllDistinct}
use Rattle.ts_core.specs.facts.Facts.{Text, same_text}

-- A rollup rule keeps aggregates of one measurement by time buckets and by the values of some tags.
-- Interval, offset and duration are in nanoseconds; a duration of 0 is for ever.
pub record Rule : Type 0 where
  pub name : Text
  pub measurement : Text
  pub interval : ℤ
  pub offset : ℤ
  pub kept_tags : List Text
  pub duration : ℕ

-- the parts of a rule: the measurement and the kept tags aren't empty, and the duration is at least 0 (Own rule.)
pub record IsRule (measurement : Text) (kept_tags : List Text) (duration : ℤ) : Type 0 where
  pub measured : measurement ≢ []
  pub tagged : AllByRecursion (λ tag. tag ≢ []) kept_tags
  pub lasting : pos 0 ≤ℤ duration

-- a rule that `Rule` can represent: these may be its parts, and interval, offset and duration fit 64 bits (Own rule.)
pub record IsPossibleRule (r : Rule) : Type 0 where
  pub measured : r.measurement ≢ []
  pub tagged : AllByRecursion (λ tag. tag ≢ []) r.kept_tags
  pub interval : FitsSigned w64 r.interval
  pub offset : FitsSigned w64 r.offset
  pub duration : r.duration < 2 ^ 63

-- the retention duration of raw points (0 is for ever), and the rules in their order
pub record Settings : Type 0 where
  pub raw_duration : ℕ
  pub rules : List Rule

-- raw points for ever, no rules
abbrev pub open_settings : Settings
open_settings = record { raw_duration = 0; rules = [] }

-- appends a rule
abbrev pub with_rule : Rule → Settings → Settings
with_rule r s = record { raw_duration = s.raw_duration; rules = s.rules ++ r ∷ [] }

-- the rule has another name
abbrev pub is_unnamed : Text → Rule → Bool
is_unnamed name r = not (same_text r.name name)

-- removes the rule with this name
abbrev pub without_rule : Text → Settings → Settings
without_rule name s = record { raw_duration = s.raw_duration; rules = filter (is_unnamed name) s.rules }

-- a duration lasts at least as long as another; 0 is for ever
abbrev pub Outlasts : ℕ → ℕ → Type 0
Outlasts long short = (long ≡ 0) ⊎ ((0 < short) × (short ≤ long))

-- at most 16 kept tags, each once (Own rule.)
pub record AreKeptTags (tags : List Text) : Type 0 where
  pub few : length tags ≤ 16
  pub once : AllDistinct tags

-- the properties of settings without a fault: few rules, distinct names, intervals of a second or more, few kept tags,
-- and cells that last at least as long as raw points (Own rules.)
pub record AreSettings (s : Settings) : Type 0 where
  pub few : length s.rules ≤ 32
  pub names : AllDistinct (map (λ (r : Rule). r.name) s.rules)
  pub intervals : AllByRecursion (λ (r : Rule). pos 1 ≤ℤ r.interval) s.rules
  pub seconds : AllByRecursion (λ (r : Rule). pos 1000000000 ≤ℤ r.interval) s.rules
  pub kept_tags : AllByRecursion (λ (r : Rule). AreKeptTags r.kept_tags) s.rules
  pub lasting : AllByRecursion (λ (r : Rule). Outlasts r.duration s.raw_duration) s.rules
