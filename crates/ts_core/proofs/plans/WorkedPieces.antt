-- Worked examples of marks, of valid pieces and of their first faults, computed.
use Rattle.std.proofs.Common.{◌≡◌, ℕ, pos, negsuc, List, [], ◌∷◌, Option, Some, None, refl, false}
use Rattle.ts_core.specs.facts.Facts.{Text}
use Rattle.ts_core.specs.settings.Settings.{Rule, Settings}
use Rattle.ts_core.specs.store.History.{Begin}
use Rattle.ts_core.specs.store.Marks.{Marks, marks_of}
use Rattle.ts_core.specs.queries.Queries.{Query, Condition}
use Rattle.ts_core.specs.plans.Pieces.{Raw, Rollup, Piece}
use Rattle.ts_core.specs.plans.Faults.{PieceFault, Gap, BelowMark, NoSuchRule, OtherMeasurement, OffBoundary, BelowLow, Straddles, TagNotKept, first_fault}

-- ---- words

abbrev pub cpu : Text
cpu = 99 ∷ 112 ∷ 117 ∷ []

abbrev pub mem : Text
mem = 109 ∷ 101 ∷ 109 ∷ []

abbrev pub host : Text
host = 104 ∷ 111 ∷ 115 ∷ 116 ∷ []

abbrev pub m1 : Text
m1 = 109 ∷ 49 ∷ []

abbrev pub x : Text
x = 120 ∷ []

abbrev pub minute : ℕ
minute = 60000000000

abbrev pub by_minute : Text → List Text → ℕ → Rule
by_minute name kept duration = record { name = name; measurement = 99 ∷ 112 ∷ 117 ∷ []; interval = pos 60000000000; offset = pos 0; kept_tags = kept; duration = duration }

abbrev pub asks : Text → List Condition → ℕ → ℕ → ℕ → Query
asks measurement conditions from to interval = record { measurement = measurement; field = 118 ∷ []; conditions = conditions; from = pos from; to = pos to; interval = pos interval; offset = pos 0; group_tags = [] }

abbrev pub raw : ℕ → ℕ → Piece
raw a b = record { source = Raw; from = pos a; to = pos b }

abbrev pub rollup : Text → ℕ → ℕ → Piece
rollup name a b = record { source = Rollup name; from = pos a; to = pos b }

-- ---- raw points for two minutes, and a rule by minute and host that keeps for ever; a run at 200 s

abbrev pub two_minutes : Settings
two_minutes = record { raw_duration = 120000000000; rules = by_minute m1 (host ∷ []) 0 ∷ [] }

abbrev pub at_200s : Marks
at_200s = record { raw = pos 80000000000; lows = negsuc 153722867 ∷ [] }

its_marks : marks_of two_minutes (Begin (pos 200000000000) ∷ []) ≡ at_200s
its_marks = refl

its_first_marks : marks_of two_minutes [] ≡ record { raw = negsuc 9223372036854775805; lows = negsuc 153722867 ∷ [] }
its_first_marks = refl

abbrev fault_of : Query → List Piece → Option (PieceFault × ℕ)
fault_of q ps = first_fault two_minutes at_200s q ps

valid : fault_of (asks cpu [] 0 180000000000 minute) (rollup m1 0 120000000000 ∷ raw 120000000000 180000000000 ∷ []) ≡ None
valid = refl

empty_range : fault_of (asks cpu [] 60000000000 60000000000 minute) [] ≡ None
empty_range = refl

not_empty_range : fault_of (asks cpu [] 0 60000000000 minute) [] ≡ Some (Gap, 0)
not_empty_range = refl

pieces_of_empty_range : fault_of (asks cpu [] 60000000000 60000000000 minute) (raw 60000000000 120000000000 ∷ []) ≡ Some (Gap, 0)
pieces_of_empty_range = refl

ends_early : fault_of (asks cpu [] 0 180000000000 minute) (rollup m1 0 120000000000 ∷ []) ≡ Some (Gap, 1)
ends_early = refl

empty_piece : first_fault (record { raw_duration = 0; rules = [] }) (record { raw = negsuc 9223372036854775805; lows = [] }) (asks mem [] 0 5 5) (raw 0 5 ∷ raw 5 5 ∷ []) ≡ Some (Gap, 1)
empty_piece = refl

no_such_rule : fault_of (asks cpu [] 0 60000000000 minute) (rollup (122 ∷ 122 ∷ []) 0 60000000000 ∷ []) ≡ Some (NoSuchRule, 0)
no_such_rule = refl

other_measurement : fault_of (asks mem [] 0 60000000000 minute) (rollup m1 0 60000000000 ∷ []) ≡ Some (OtherMeasurement, 0)
other_measurement = refl

off_boundary : fault_of (asks cpu [] 30000000000 120000000000 minute) (rollup m1 30000000000 120000000000 ∷ []) ≡ Some (OffBoundary, 0)
off_boundary = refl

tag_not_kept : fault_of (asks cpu (record { tag = 100 ∷ 99 ∷ []; value = 120 ∷ []; negated = false } ∷ []) 0 60000000000 minute) (rollup m1 0 60000000000 ∷ []) ≡ Some (TagNotKept, 0)
tag_not_kept = refl

straddles : fault_of (asks cpu [] 0 180000000000 90000000000) (rollup m1 0 180000000000 ∷ []) ≡ Some (Straddles, 0)
straddles = refl

below_mark : fault_of (asks cpu [] 0 60000000000 minute) (raw 0 60000000000 ∷ []) ≡ Some (BelowMark, 0)
below_mark = refl

before_the_run : first_fault two_minutes (marks_of two_minutes []) (asks cpu [] 0 60000000000 minute) (raw 0 60000000000 ∷ []) ≡ None
before_the_run = refl

-- ---- raw points for a minute, and a rule that keeps for two; a run at 10 min

abbrev pub one_minute : Settings
one_minute = record { raw_duration = 60000000000; rules = by_minute x [] 120000000000 ∷ [] }

other_marks : marks_of one_minute (Begin (pos 600000000000) ∷ []) ≡ record { raw = pos 540000000000; lows = pos 8 ∷ [] }
other_marks = refl

below_low : first_fault one_minute (record { raw = pos 540000000000; lows = pos 8 ∷ [] }) (asks cpu [] 0 60000000000 minute) (rollup x 0 60000000000 ∷ []) ≡ Some (BelowLow, 0)
below_low = refl
