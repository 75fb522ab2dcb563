-- Worked examples of plans: each is the plan, and so the only one.
use Rattle.std.proofs.Common.{◌≡◌, ℕ, zero, suc, pos, ◌+◌, ◌*◌, List, [], ◌∷◌, refl, arith, true, None}
use Rattle.std.proofs.lemmas.Int.{ints}
use Rattle.ts_core.specs.settings.Settings.{Rule, Settings}
use Rattle.ts_core.specs.settings.SettingsFaults.{settings_fault}
use Rattle.ts_core.specs.store.Marks.{Marks, marks_of}
use Rattle.ts_core.specs.store.History.{Begin}
use Rattle.ts_core.specs.queries.Queries.{Query, IsQuery}
use Rattle.ts_core.specs.plans.Pieces.{Piece, query_context}
use Rattle.ts_core.specs.plans.Plans.{IsPlan, joined, whole_buckets}
use Rattle.ts_core.proofs.settings.Intervals.{asked_wide}
use Rattle.ts_core.proofs.plans.WalkChecks.{is_walk, is_walk-IsWalk}
use Rattle.ts_core.proofs.plans.WorkedPieces.{cpu, m1, asks, raw, rollup, by_minute, minute, two_minutes, at_200s}

planned : (s : Settings) (m : Marks) (q : Query) → settings_fault s ≡ None → IsQuery q → (bs : List Piece) → is_walk (query_context s m q) q.from bs ≡ true → IsPlan s m q (joined (query_context s m q) bs)
planned s m q well is bs walk = (bs, is_walk-IsWalk (query_context s m q) q.from bs (asked_wide s m q well is) walk, refl)

-- ---- below the raw mark the rule's buckets, and then raw points

abbrev three_minutes : Query
three_minutes = asks cpu [] 0 180000000000 minute

three_minutes_plan : IsPlan two_minutes at_200s three_minutes (rollup m1 0 120000000000 ∷ raw 120000000000 180000000000 ∷ [])
three_minutes_plan =
    planned two_minutes at_200s three_minutes refl (record { interval = omega (arith, ints); range = omega (arith, ints) })
    (rollup m1 0 60000000000 ∷ rollup m1 60000000000 120000000000 ∷ raw 120000000000 180000000000 ∷ []) refl

-- ---- two pieces of one rule, since 180 s is a boundary of the query alone

abbrev at_10m : Marks
at_10m = marks_of two_minutes (Begin (pos 600000000000) ∷ [])

abbrev by_90s : Query
by_90s = asks cpu [] 120000000000 240000000000 90000000000

by_90s_plan : IsPlan two_minutes at_10m by_90s (rollup m1 120000000000 180000000000 ∷ rollup m1 180000000000 240000000000 ∷ [])
by_90s_plan =
    planned two_minutes at_10m by_90s refl (record { interval = omega (arith, ints); range = omega (arith, ints) })
    (rollup m1 120000000000 180000000000 ∷ rollup m1 180000000000 240000000000 ∷ []) refl

-- ---- a rule by hour before a rule by minute: minutes up to the first whole hour

abbrev by_hour : Rule
by_hour = record { name = 104 ∷ 49 ∷ []; measurement = cpu; interval = pos 3600000000000; offset = pos 0; kept_tags = []; duration = 0 }

abbrev hours_and_minutes : Settings
hours_and_minutes = record { raw_duration = 60000000000; rules = by_hour ∷ by_minute m1 [] 0 ∷ [] }

abbrev at_3h : Marks
at_3h = marks_of hours_and_minutes (Begin (pos 10800000000000) ∷ [])

abbrev from_half_past : Query
from_half_past = asks cpu [] 1800000000000 10800000000000 3600000000000

-- the buckets of n minutes, from minute k on, and more
minutes_from : ℕ → ℕ → List Piece → List Piece
minutes_from k zero more = more
minutes_from k (suc n) more = rollup m1 (k * 60000000000) ((k + 1) * 60000000000) ∷ minutes_from (k + 1) n more

half_past_plan : IsPlan hours_and_minutes at_3h from_half_past (rollup m1 1800000000000 3600000000000 ∷ rollup (104 ∷ 49 ∷ []) 3600000000000 10800000000000 ∷ [])
unfolding minutes_from
half_past_plan =
    planned hours_and_minutes at_3h from_half_past refl (record { interval = omega (arith, ints); range = omega (arith, ints) })
    (minutes_from 30 30 (rollup (104 ∷ 49 ∷ []) 3600000000000 7200000000000 ∷ rollup (104 ∷ 49 ∷ []) 7200000000000 10800000000000 ∷ [])) refl

-- ---- the limit: a rule by second has 1,000,001 whole buckets in 1,000,001 s, and 1,000,000 in one second less

abbrev by_second : List Rule
by_second = record { name = 115 ∷ 49 ∷ []; measurement = cpu; interval = pos 1000000000; offset = pos 0; kept_tags = []; duration = 0 } ∷ []

too_many : whole_buckets by_second (asks cpu [] 0 1000001000000000 3600000000000) ≡ 1000001
too_many = refl

not_too_many : whole_buckets by_second (asks cpu [] 0 1000000000000000 3600000000000) ≡ 1000000
not_too_many = refl
