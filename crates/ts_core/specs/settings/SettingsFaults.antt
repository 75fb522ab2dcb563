-- The first fault of settings. (Own rules.)
use Rattle.std.specs.Prelude.{◌≡◌, ◌<◌, ◌^◌, ℕ, ℤ, pos, int_le, nat_lt, nat_le, ◌==◌, Bool, true, not, ◌&&◌, ◌||◌, List, [], ◌∷◌, ◌++◌, length, Option, Some, None, if◌then◌else◌}
use Rattle.std.specs.List.{AllByRecursion, list_any, list_all}
use Rattle.ts_core.specs.declared.settings.settings_fault.RuleFault.{RuleFault}
use Rattle.ts_core.specs.declared.settings.settings_fault.RuleFault.TheVariants.{BadName, RepeatedName, Interval, KeptTags, Duration}
use Rattle.ts_core.specs.declared.settings.settings_fault.SettingsFault.{SettingsFault}
use Rattle.ts_core.specs.declared.settings.settings_fault.SettingsFault.TheVariants.{Form, TooManyRules, OfRule}
use Rattle.ts_core.specs.facts.Facts.{Text, same_text}
use Rattle.ts_core.specs.declared.text.fault_code.FaultCode.{FaultCode}
use Rattle.ts_core.specs.declared.text.fault_code.FaultCode.TheVariants as coded
use Rattle.ts_core.specs.declared.text.fault_text.FaultDetail.TheVariants as detailed
use Rattle.ts_core.specs.declared.settings.settings_fault.SettingsError.{SettingsError}
use Rattle.ts_core.specs.declared.settings.settings_fault.SettingsError.TheVariants as errors
use Rattle.ts_core.specs.text.FaultTexts.{fault_text, memory_text}
use Rattle.ts_core.specs.settings.Settings.{Rule, IsPossibleRule, Settings}

-- ---- names, intervals, tags and durations

-- from low to high
abbrev pub is_between : ℕ → ℕ → ℕ → Bool
is_between low high b = nat_le low b && nat_le b high

-- a to z, 0 to 9, or _
abbrev pub is_name_byte : ℕ → Bool
is_name_byte b = is_between 97 122 b || (is_between 48 57 b || b == 95)

-- 1 to 32 of these
abbrev pub is_rule_name : Text → Bool
is_rule_name name = is_between 1 32 (length name) && list_all is_name_byte name

-- one of the rules has this name
abbrev pub is_named : List Rule → Text → Bool
is_named rules name = list_any (λ (r : Rule). same_text r.name name) rules

-- a second to 366 days
abbrev pub is_interval : ℤ → Bool
is_interval i = int_le (pos 1000000000) i && int_le i (pos 31622400000000000)

-- no text occurs twice
abbrev pub are_distinct : List Text → Bool
are_distinct [] = true
are_distinct (t ∷ ts) = not (list_any (same_text t) ts) && are_distinct ts

-- at most 16, each once
abbrev pub are_kept_tags : List Text → Bool
are_kept_tags tags = nat_le (length tags) 16 && are_distinct tags

-- a duration lasts at least as long as another; 0 is for ever
abbrev pub outlasts : ℕ → ℕ → Bool
outlasts long short = long == 0 || (nat_lt 0 short && nat_le short long)

-- ---- faults

-- the next fault if all is well, else this one
abbrev pub unless : {F : Type 0} → Bool → F → Option F → Option F
unless well fault next = if well then next else Some fault

-- each in the table of all faults
abbrev pub rule_fault_code : RuleFault → FaultCode
rule_fault_code Interval = coded.IntervalRange
rule_fault_code Duration = coded.KeptTooShortly
rule_fault_code RepeatedName = coded.RepeatedRuleName
rule_fault_code BadName = coded.BadRuleName
rule_fault_code KeptTags = coded.BadKeptTags

abbrev pub settings_fault_text : SettingsFault → Text
settings_fault_text Form = fault_text coded.BadSettingsText detailed.Alone
settings_fault_text TooManyRules = fault_text coded.TooManyRules detailed.Alone
settings_fault_text (OfRule fault index) = fault_text (rule_fault_code fault) (detailed.OfRule index)

unfoldable pub settings_error_text : SettingsError → Text
settings_error_text (errors.Fault fault) = settings_fault_text fault
settings_error_text errors.OutOfMemory = memory_text

-- no rule has the name
abbrev pub unknown_rule_text : Text
unknown_rule_text = fault_text coded.UnknownRule detailed.Alone

-- the fault of a rule, by whether an earlier one has its name
abbrev pub fault_if_named : ℕ → Bool → Rule → Option RuleFault
fault_if_named raw named r =
    unless (is_rule_name r.name) BadName
    (unless (not named) RepeatedName
    (unless (is_interval r.interval) Interval
    (unless (are_kept_tags r.kept_tags) KeptTags
    (unless (outlasts r.duration raw) Duration None))))

-- the fault of a rule after others
abbrev pub fault_of_rule : ℕ → List Rule → Rule → Option RuleFault
fault_of_rule raw earlier r = fault_if_named raw (is_named earlier r.name) r

abbrev pub or_rule_fault : ℕ → Option RuleFault → Option SettingsFault → Option SettingsFault
or_rule_fault n None next = next
or_rule_fault n (Some fault) next = Some (OfRule fault n)

-- the first fault of rules after others
abbrev pub rules_fault : ℕ → List Rule → List Rule → Option SettingsFault
rules_fault raw earlier [] = None
rules_fault raw earlier (r ∷ rs) =
    or_rule_fault (length earlier) (fault_of_rule raw earlier r) (rules_fault raw (earlier ++ r ∷ []) rs)

-- the fault of appending a rule to settings: they have 32 already, or the rule's own
abbrev pub added_fault : Settings → Rule → Option SettingsFault
added_fault s r = if nat_lt (length s.rules) 32
    then or_rule_fault (length s.rules) (fault_of_rule s.raw_duration s.rules r) None else Some TooManyRules

-- more than 32 rules, or the first fault of a rule
abbrev pub settings_fault : Settings → Option SettingsFault
settings_fault s = if nat_le (length s.rules) 32 then rules_fault s.raw_duration [] s.rules else Some TooManyRules

-- settings that `Settings` can represent
pub record ArePossible (s : Settings) : Type 0 where
  pub faultless : settings_fault s ≡ None
  pub duration : s.raw_duration < 2 ^ 63
  pub rules : AllByRecursion IsPossibleRule s.rules
