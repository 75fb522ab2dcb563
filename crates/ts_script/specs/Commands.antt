-- The commands of a script, and their lines. (Own rule.)
use Rattle.std.specs.Prelude.{ℕ, ℤ, pos, length, Bool, not, ◌&&◌, ◌||◌, ◌==◌, nat_eq, if◌then◌else◌, Option, Some, None, codes}
use Rattle.std.specs.List.{list_all, list_any, starts_with, before_first, after_first}
use Rattle.ts_core.specs.facts.Facts.{Text, same_text}
use Rattle.ts_core.specs.text.Numbers.{is_number}
use Rattle.ts_core.specs.facts.TimeUnits.{precision_of}
use Rattle.ts_core.specs.declared.facts.time_unit.TimeUnit.{TimeUnit}
use Rattle.ts_reply.specs.Epochs.{epoch_of}
use Rattle.ts_reply.specs.declared.epoch.Epoch.{Epoch}
use Rattle.ts_script.specs.Moments.{moment_in, moment_of}

pub data Command : Type 0 where
  -- opens the script with the settings of this text
  SetSettings : Text → Command
  -- sets the script's time
  At : ℤ → Command
  -- sets the precision of timestamps
  SetPrecision : TimeUnit → Command
  -- sets the format of times in replies
  SetEpoch : Epoch → Command
  -- writes a line
  Write : Text → Command
  -- prints the number of raw facts
  Live : Command
  -- runs retention at the script's time
  Retain : Command
  -- begins a run of retention at the script's time
  BeginRun : Command
  -- takes a step of the open run
  StepRun : Command
  -- saves the store to memory and loads it back
  Reload : Command
  -- adds the rule of this text
  AddRule : Text → Command
  -- drops the rule with this name
  DropRule : Text → Command
  -- sets the certificate of the next query
  SetCertificate : Text → Command
  -- prints the reply to queries
  Query : Text → Command
  -- prints the plans of queries
  Explain : Text → Command
  -- prints the number of values of a measurement and a field from one time, inclusive, to another, exclusive
  Count : Text → Text → ℤ → ℤ → Command
  -- a count with an invalid time
  CountFault : Command
  -- any other line
  Unknown : Command

abbrev pub is_space : ℕ → Bool
is_space b = b == 32

-- only spaces
abbrev pub is_blank : Text → Bool
is_blank line = list_all is_space line

-- the first byte is #
abbrev pub is_comment : Text → Bool
is_comment line = starts_with nat_eq line (codes "#")

-- the line is blank or a comment
abbrev pub is_skipped : Text → Bool
is_skipped line = is_blank line || is_comment line

-- at N, at Nunit
unfoldable pub at_of : Option ℤ → Command
at_of (Some t) = At t
at_of None = Unknown

-- precision P
unfoldable pub precision_from : Option TimeUnit → Command
precision_from (Some p) = SetPrecision p
precision_from None = Unknown

-- epoch U
unfoldable pub epoch_from : Option Epoch → Command
epoch_from (Some e) = SetEpoch e
epoch_from None = Unknown

unfoldable pub count_between : Text → Text → Option ℤ → Option ℤ → Command
count_between m f (Some a) (Some b) = Count m f a b
count_between m f (Some a) None = CountFault
count_between m f None b = CountFault

-- count M F A B, separated by one space each. M and F aren't empty and have no escapes; A and B are numbers of
-- nanoseconds.
unfoldable pub count_from_parts : Text → Text → Text → Text → Command
count_from_parts m f a b =
    if not (length m == 0) && not (length f == 0) && is_number a && is_number b
    then count_between m f (moment_in (pos 1) a) (moment_in (pos 1) b) else Unknown

abbrev pub word : Text → Text
word = before_first is_space

abbrev pub after_word : Text → Text
after_word = after_first is_space

unfoldable pub count_from : Text → Command
count_from text =
    count_from_parts (word text) (word (after_word text))
    (word (after_word (after_word text))) (after_word (after_word (after_word text)))

-- a name and its argument
unfoldable pub command_with : Text → Text → Command
command_with name rest =
    if same_text name (codes "write") then Write rest
    else if same_text name (codes "settings") then SetSettings rest
    else if same_text name (codes "at") then at_of (moment_of rest)
    else if same_text name (codes "precision") then precision_from (precision_of rest)
    else if same_text name (codes "epoch") then epoch_from (epoch_of rest)
    else if same_text name (codes "rule") then AddRule rest
    else if same_text name (codes "drop") then DropRule rest
    else if same_text name (codes "cert") then SetCertificate rest
    else if same_text name (codes "query") then Query rest
    else if same_text name (codes "explain") then Explain rest
    else if same_text name (codes "count") then count_from rest
    else Unknown

-- a name without an argument
unfoldable pub command_alone : Text → Command
command_alone name =
    if same_text name (codes "retain") then Retain
    else if same_text name (codes "begin") then BeginRun
    else if same_text name (codes "step") then StepRun
    else if same_text name (codes "reload") then Reload
    else if same_text name (codes "live") then Live
    else Unknown

-- the command of a line that isn't skipped: a command's name, or its name and one space, and then its argument
unfoldable pub command_of : Text → Command
command_of line = if list_any is_space line then command_with (word line) (after_word line) else command_alone line
