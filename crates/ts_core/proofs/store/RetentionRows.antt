-- Marks, raw facts, cells, steps and answers of small histories, computed.
use Rattle.std.proofs.Common.{◌≡◌, ℕ, zero, suc, ◌+◌, ◌*◌, ℤ, pos, negsuc, true, false, List, [], ◌∷◌, length, refl, Some, None}
use Rattle.ts_core.specs.facts.Times.{greatest_time}
use Rattle.ts_core.specs.facts.Facts.{Text, Column}
use Rattle.ts_core.specs.settings.Settings.{Rule}
use Rattle.ts_core.specs.store.History.{Event, History, Line, Begin, Step, AddRule, DropRule, settings_of}
use Rattle.ts_core.specs.facts.Latest.{latest_of}
use Rattle.ts_core.specs.aggregates.Buckets.{bucket_of}
use Rattle.ts_core.specs.aggregates.Aggregates.{Aggregate, empty_aggregate}
use Rattle.ts_core.specs.store.Marks.{marks_of, first_from}
use Rattle.ts_core.specs.settings.SettingsFaults.{added_fault}
use Rattle.ts_core.specs.declared.settings.settings_fault.RuleFault.TheVariants.{RepeatedName}
use Rattle.ts_core.specs.declared.settings.settings_fault.SettingsFault.TheVariants.{OfRule}
use Rattle.ts_core.specs.store.RawFacts.{kept_from, raw_of}
use Rattle.ts_core.specs.store.Cells.{Cell, total_of, frozen_of, live_of}
use Rattle.ts_core.specs.store.StoreStates.{CellParts, StoreState}
use Rattle.ts_core.specs.moves.Runs.{steps_left}
use Rattle.ts_core.specs.store.Views.{ViewState}
use Rattle.ts_core.specs.queries.Queries.{Query}
use Rattle.ts_core.specs.queries.Answers.{Row, Group}
use Rattle.ts_core.specs.plans.Pieces.{Piece}
use Rattle.ts_core.specs.plans.Faults.{BelowMark, first_fault}
use Rattle.ts_core.specs.plans.Assembly.{assembled_answer}
use Rattle.ts_core.proofs.plans.WorkedPieces.{cpu, host, m1, x, by_minute, raw, rollup, two_minutes, one_minute}

-- ---- buckets

-- a nanosecond before the epoch lies in the minute before it
bucket_before_epoch : bucket_of (negsuc 0) (pos 60000000000) (pos 0) ≡ negsuc 0
bucket_before_epoch = refl

-- and so does the start of that minute, but not the nanosecond before
bucket_at_start : bucket_of (negsuc 59999999999) (pos 60000000000) (pos 0) ≡ negsuc 0
bucket_at_start = refl

bucket_before_start : bucket_of (negsuc 60000000000) (pos 60000000000) (pos 0) ≡ negsuc 1
bucket_before_start = refl

-- time(18m, -12m): the epoch lies in the bucket that starts at -12m
bucket_with_offset : bucket_of (pos 0) (pos 1080000000000) (negsuc 719999999999) ≡ pos 0
bucket_with_offset = refl

bucket_of_greatest : bucket_of greatest_time (pos 1000000000) (pos 0) ≡ pos 9223372036
bucket_of_greatest = refl

-- ---- raw points for 2 minutes, and minutes of cpu by host for ever

abbrev v : Text
v = 118 ∷ []

abbrev a : Text
a = 97 ∷ []

abbrev b : Text
b = 98 ∷ []

abbrev by_host : Rule
by_host = by_minute m1 (host ∷ []) 0

abbrev column : Text → Column
column h = record { series = record { measurement = cpu; tags = (host, h) ∷ [] }; field = v }

-- a line of cpu with one field, at a second
abbrev line : Text → ℕ → ℤ → Event
line h second value = Line (record { column = column h; time = pos (second * 1000000000); value = value } ∷ [])

abbrev at_second : ℕ → Event
at_second n = Begin (pos (n * 1000000000))

-- three points, and a whole run at 200 s
abbrev three_points : History
three_points = Step true ∷ Step false ∷ Step false ∷ at_second 200 ∷ line b 70 (pos 1) ∷ line a 70 (pos 7) ∷ line a 10 (pos 5) ∷ []

marks_after_run : marks_of two_minutes three_points ≡ record { raw = pos 80000000000; lows = negsuc 153722867 ∷ [] }
marks_after_run = refl

-- no raw point is left
raw_after_run : raw_of two_minutes three_points [] (column a) ≡ []
raw_after_run = refl

-- ---- raw points for a minute, and minutes of cpu for 2 minutes

marks_at_ten : marks_of one_minute (Step true ∷ at_second 600 ∷ []) ≡ record { raw = pos 540000000000; lows = pos 8 ∷ [] }
marks_at_ten = refl

-- an earlier moment lowers no mark
marks_stay : marks_of one_minute (at_second 300 ∷ Step true ∷ at_second 600 ∷ []) ≡ record { raw = pos 540000000000; lows = pos 8 ∷ [] }
marks_stay = refl

marks_at_400 : marks_of one_minute (at_second 24000 ∷ []) ≡ record { raw = pos 23940000000000; lows = pos 398 ∷ [] }
marks_at_400 = refl

-- one column waits, and the cells of the minutes 0 to 299 are to go
abbrev minutes : ℕ → List Cell
minutes zero = []
minutes (suc n) = record { index = pos n; field = v; group = [] } ∷ minutes n

abbrev open_run : List Column → ℕ → StoreState
open_run waiting n = record {
  settings = one_minute;
  marks = record { raw = pos 23940000000000; lows = pos 398 ∷ [] };
  running = true;
  waiting = waiting;
  series = [];
  columns = [];
  accepted = 300;
  rules = record { rule = by_minute x [] 120000000000; low = pos 398; cells = minutes n; parts = λ k. record { frozen = empty_aggregate; live = empty_aggregate } } ∷ [];
}

four_steps : steps_left (open_run (column a ∷ []) 300) ≡ 4
four_steps = refl

three_steps : steps_left (open_run [] 300) ≡ 3
three_steps = refl

two_steps : steps_left (open_run [] 44) ≡ 2
two_steps = refl

last_step : steps_left (open_run [] 0) ≡ 1
last_step = refl

-- ---- two hosts, two points each, and a run at 220 s that moves one column after the other

abbrev four_points : History
four_points = line b 100 (pos 6) ∷ line a 100 (pos 5) ∷ line b 90 (pos 4) ∷ line a 90 (pos 3) ∷ []

abbrev begun : History
begun = at_second 220 ∷ four_points

abbrev one_moved : History
one_moved = Step false ∷ begun

marks_begun : marks_of two_minutes begun ≡ record { raw = pos 100000000000; lows = negsuc 153722867 ∷ [] }
marks_begun = refl

-- the number of raw points of both columns
abbrev raw_points : History → List Column → ℕ
raw_points h waiting = length (raw_of two_minutes h waiting (column a)) + length (raw_of two_minutes h waiting (column b))

raw_before : raw_points four_points [] ≡ 4
raw_before = refl

raw_begun : raw_points begun (column a ∷ column b ∷ []) ≡ 4
raw_begun = refl

raw_one_moved : raw_points one_moved (column b ∷ []) ≡ 3
raw_one_moved = refl

raw_both_moved : raw_points (Step false ∷ one_moved) [] ≡ 2
raw_both_moved = refl

-- the cell of host a from 60 s on
abbrev second_minute : Cell
second_minute = record { index = pos 1; field = v; group = a ∷ [] }

abbrev of_points : ℕ → ℤ → ℤ → ℕ → ℤ → ℕ → ℤ → Aggregate
of_points count sum min first x last y = record { count = count; sum = sum; extremes = Some (record { min = min; max = y; first = (pos (first * 1000000000), x); last = (pos (last * 1000000000), y) }) }

total_of_a : total_of by_host second_minute (latest_of one_moved) ≡ of_points 2 (pos 8) (pos 3) 90 (pos 3) 100 (pos 5)
total_of_a = refl

-- while the column waits all is live; once it moved, the point at 90 s is frozen
live_begun : live_of (kept_from two_minutes begun (column a ∷ column b ∷ [])) by_host second_minute (latest_of begun) ≡ of_points 2 (pos 8) (pos 3) 90 (pos 3) 100 (pos 5)
live_begun = refl

frozen_moved : frozen_of (kept_from two_minutes one_moved (column b ∷ [])) by_host second_minute (latest_of one_moved) ≡ of_points 1 (pos 3) (pos 3) 90 (pos 3) 90 (pos 3)
frozen_moved = refl

live_moved : live_of (kept_from two_minutes one_moved (column b ∷ [])) by_host second_minute (latest_of one_moved) ≡ of_points 1 (pos 5) (pos 5) 100 (pos 5) 100 (pos 5)
live_moved = refl

-- ---- a replaced point counts once, with its newer value

replaced_point : total_of by_host second_minute (latest_of (line a 100 (pos 8) ∷ line a 100 (pos 0) ∷ line a 90 (pos 3) ∷ [])) ≡ of_points 2 (pos 11) (pos 3) 90 (pos 3) 100 (pos 8)
replaced_point = refl

-- ---- an answer put together: two minutes from cells, since no raw point is left, and a minute of raw points

-- the minutes of the three points, as the rule's cells show them: all frozen
abbrev minute_parts : Cell → CellParts
minute_parts k = record { frozen = total_of by_host k (latest_of three_points); live = empty_aggregate }

abbrev minute_cell : ℤ → Text → Cell
minute_cell n h = record { index = n; field = v; group = h ∷ [] }

abbrev after_run : ViewState
after_run = record {
  settings = two_minutes;
  marks = marks_of two_minutes three_points;
  columns = record { column = column a; points = [] } ∷ record { column = column b; points = [] } ∷ [];
  rules = record { rule = by_host; low = negsuc 153722867; cells = minute_cell (pos 0) a ∷ minute_cell (pos 1) a ∷ minute_cell (pos 1) b ∷ []; parts = minute_parts } ∷ [];
}

-- from the epoch on for three minutes, by minute
abbrev three_minutes : List Text → Query
three_minutes group_tags = record { measurement = cpu; field = v; conditions = []; from = pos 0; to = pos 180000000000; interval = pos 60000000000; offset = pos 0; group_tags = group_tags }

abbrev two_and_one : List Piece
two_and_one = rollup m1 0 120000000000 ∷ raw 120000000000 180000000000 ∷ []

-- of each row its start, its count and its sum
abbrev counts_of : List Row → List (ℤ × ℕ × ℤ)
counts_of [] = []
counts_of (r ∷ rs) = (r.start, r.aggregate.count, r.aggregate.sum) ∷ counts_of rs

abbrev counts_by_group : List Group → List (List Text × List (ℤ × ℕ × ℤ))
counts_by_group [] = []
counts_by_group (g ∷ gs) = (g.values, counts_of g.rows) ∷ counts_by_group gs

put_together : counts_by_group (assembled_answer after_run (three_minutes []) two_and_one)
    ≡ ([], (pos 0, 1, pos 5) ∷ (pos 60000000000, 2, pos 8) ∷ (pos 120000000000, 0, pos 0) ∷ []) ∷ []
put_together = refl

by_hosts : counts_by_group (assembled_answer after_run (three_minutes (host ∷ [])) two_and_one)
    ≡ (a ∷ [], (pos 0, 1, pos 5) ∷ (pos 60000000000, 1, pos 7) ∷ (pos 120000000000, 0, pos 0) ∷ [])
    ∷ (b ∷ [], (pos 0, 0, pos 0) ∷ (pos 60000000000, 1, pos 1) ∷ (pos 120000000000, 0, pos 0) ∷ [])
    ∷ []
by_hosts = refl

-- the pieces have no fault, and a raw piece below the mark has one
no_fault : first_fault two_minutes (marks_of two_minutes three_points) (three_minutes []) two_and_one ≡ None
no_fault = refl

below_mark : first_fault two_minutes (marks_of two_minutes three_points) (three_minutes []) (raw 0 180000000000 ∷ []) ≡ Some (BelowMark, 0)
below_mark = refl

-- ---- rules that come and go

-- minutes of all of cpu, for ever
abbrev all_cpu : Rule
all_cpu = by_minute (103 ∷ []) [] 0

-- the raw mark is at 80 s: the first bucket is the minute from 120 s on
abbrev g_added : History
g_added = AddRule all_cpu ∷ three_points

marks_added : marks_of two_minutes g_added ≡ record { raw = pos 80000000000; lows = negsuc 153722867 ∷ pos 2 ∷ [] }
marks_added = refl

-- a mark on a boundary is the start of the first bucket
first_on_boundary : first_from all_cpu (pos 120000000000) ≡ pos 2
first_on_boundary = refl

first_behind_boundary : first_from all_cpu (pos 120000000001) ≡ pos 3
first_behind_boundary = refl

-- a later run leaves a rule that keeps its cells for ever
abbrev g_stays : History
g_stays = Step true ∷ Step false ∷ Step false ∷ at_second 400 ∷ line b 130 (pos 6) ∷ line a 130 (pos 4) ∷ g_added

marks_stay_added : marks_of two_minutes g_stays ≡ record { raw = pos 280000000000; lows = negsuc 153722867 ∷ pos 2 ∷ [] }
marks_stay_added = refl

-- the points of the minute from 60 s on are below its first bucket, and those of 130 s are frozen
total_added : total_of all_cpu (record { index = pos 2; field = v; group = [] }) (latest_of g_stays) ≡ record {
  count = 2;
  sum = pos 10;
  extremes = Some (record { min = pos 4; max = pos 6; first = (pos 130000000000, pos 6); last = (pos 130000000000, pos 6) });
}
total_added = refl

-- dropped, and added again: it starts anew
m1_dropped : marks_of two_minutes (DropRule m1 ∷ g_stays) ≡ record { raw = pos 280000000000; lows = pos 2 ∷ [] }
m1_dropped = refl

m1_again : marks_of two_minutes (AddRule by_host ∷ DropRule m1 ∷ g_stays) ≡ record { raw = pos 280000000000; lows = pos 2 ∷ pos 5 ∷ [] }
m1_again = refl

g_again : added_fault (settings_of two_minutes (DropRule m1 ∷ g_stays)) all_cpu ≡ Some (OfRule RepeatedName 1)
g_again = refl
