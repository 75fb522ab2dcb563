-- Worked examples of answers and of filling, computed.
use Rattle.std.proofs.Common.{◌≡◌, ℕ, ◌*◌, ℤ, pos, negsuc, List, [], ◌∷◌, refl}
use Rattle.ts_core.specs.facts.Facts.{Text, Fact}
use Rattle.ts_core.specs.facts.Latest.{latest}
use Rattle.ts_core.specs.queries.Queries.{Query}
use Rattle.ts_core.specs.queries.Answers.{answer_of, buckets_in}
use Rattle.ts_core.specs.declared.queries.value.Function.TheVariants.{Count, Sum, Min, Max, First, Last, Mean}
use Rattle.ts_core.specs.declared.queries.value.Value.{Value}
use Rattle.ts_core.specs.declared.queries.value.Value.TheVariants.{Null, Number, Fraction}
use Rattle.ts_core.specs.declared.queries.fill.Fill.TheVariants.{Null as NullFill, None as NoneFill, Previous as PreviousFill, Number as NumberFill}
use Rattle.ts_core.specs.queries.Fills.{FilledRow, FilledGroup, filled}

-- ---- words: measurement m, field f

abbrev fact : List (Text × Text) → ℤ → ℤ → Fact
fact tags t v = record { column = record { series = record { measurement = 109 ∷ []; tags = tags }; field = 102 ∷ [] }; time = t; value = v }

abbrev asks : ℤ → ℤ → ℤ → ℤ → List Text → Query
asks from to interval offset groups = record { measurement = 109 ∷ []; field = 102 ∷ []; conditions = []; from = from; to = to; interval = interval; offset = offset; group_tags = groups }

abbrev row : ℤ → List Value → FilledRow
row start values = record { start = start; values = values }

abbrev group : List Text → List FilledRow → FilledGroup
group values rows = record { values = values; rows = rows }

abbrev n : ℕ → Value
n k = Number (pos k)

abbrev over : ℤ → ℕ → Value
over k d = Fraction (record { numerator = k; denominator = d })

-- ---- f=1 at 0 and f=4 at 20, by 10 ns from 0 to 30

abbrev few : List Fact
few = fact [] (pos 20) (pos 4) ∷ fact [] (pos 0) (pos 1) ∷ []

abbrev thirty : Query
thirty = asks (pos 0) (pos 30) (pos 10) (pos 0) []

null_filled : filled NullFill (Sum ∷ Count ∷ []) (answer_of few thirty) ≡ group [] (row (pos 0) (n 1 ∷ n 1 ∷ []) ∷ row (pos 10) (Null ∷ n 0 ∷ []) ∷ row (pos 20) (n 4 ∷ n 1 ∷ []) ∷ []) ∷ []
null_filled = refl

number_filled : filled (NumberFill (negsuc 0)) (Sum ∷ Count ∷ []) (answer_of few thirty) ≡ group [] (row (pos 0) (n 1 ∷ n 1 ∷ []) ∷ row (pos 10) (Number (negsuc 0) ∷ Number (negsuc 0) ∷ []) ∷ row (pos 20) (n 4 ∷ n 1 ∷ []) ∷ []) ∷ []
number_filled = refl

previous_filled : filled PreviousFill (Sum ∷ Count ∷ []) (answer_of few thirty) ≡ group [] (row (pos 0) (n 1 ∷ n 1 ∷ []) ∷ row (pos 10) (n 1 ∷ n 1 ∷ []) ∷ row (pos 20) (n 4 ∷ n 1 ∷ []) ∷ []) ∷ []
previous_filled = refl

none_filled : filled NoneFill (Sum ∷ Count ∷ []) (answer_of few thirty) ≡ group [] (row (pos 0) (n 1 ∷ n 1 ∷ []) ∷ row (pos 20) (n 4 ∷ n 1 ∷ []) ∷ []) ∷ []
none_filled = refl

mean_filled : filled (NumberFill (pos 7)) (Mean ∷ []) (answer_of few thirty) ≡ group [] (row (pos 0) (over (pos 1) 1 ∷ []) ∷ row (pos 10) (over (pos 7) 1 ∷ []) ∷ row (pos 20) (over (pos 4) 1 ∷ []) ∷ []) ∷ []
mean_filled = refl

-- ---- two points at one time: the greatest value is the first and the last

abbrev tied : List Fact
tied = fact ((97 ∷ [], 50 ∷ []) ∷ []) (pos 3) (pos 9) ∷ fact ((97 ∷ [], 49 ∷ []) ∷ []) (pos 3) (pos 2) ∷ []

tied_together : filled NullFill (First ∷ Last ∷ []) (answer_of tied (asks (pos 0) (pos 10) (pos 10) (pos 0) [])) ≡ group [] (row (pos 0) (n 9 ∷ n 9 ∷ []) ∷ []) ∷ []
tied_together = refl

tied_apart : filled NullFill (First ∷ Last ∷ []) (answer_of tied (asks (pos 0) (pos 10) (pos 10) (pos 0) ((97 ∷ []) ∷ [])))
    ≡ group ((49 ∷ []) ∷ []) (row (pos 0) (n 2 ∷ n 2 ∷ []) ∷ []) ∷ group ((50 ∷ []) ∷ []) (row (pos 0) (n 9 ∷ n 9 ∷ []) ∷ []) ∷ []
tied_apart = refl

-- ---- the greatest values together are more than 64 bits hold

great : filled NullFill (Sum ∷ Mean ∷ []) (answer_of (fact [] (pos 2) (pos 9223372036854775807) ∷ fact [] (pos 1) (pos 9223372036854775807) ∷ []) (asks (pos 0) (pos 10) (pos 10) (pos 0) []))
    ≡ group [] (row (pos 0) (n 18446744073709551614 ∷ over (pos 9223372036854775807) 1 ∷ []) ∷ []) ∷ []
great = refl

-- ---- buckets of 18 minutes, 12 minutes before the hour, and of a second at the greatest time

eighteen_minutes : filled NullFill (Count ∷ []) (answer_of (fact [] (pos 0) (pos 1) ∷ []) (asks (pos 0) (pos 360000000000) (pos 1080000000000) (negsuc 719999999999) [])) ≡ group [] (row (negsuc 719999999999) (n 1 ∷ []) ∷ []) ∷ []
eighteen_minutes = refl

last_second : filled NoneFill (Count ∷ []) (answer_of (fact [] (pos 9223372036854775806) (pos 1) ∷ []) (asks (pos 9223372031854775806) (pos 9223372036854775807) (pos 1000000000) (pos 0) []))
    ≡ group [] (row (pos 9223372036000000000) (n 1 ∷ []) ∷ []) ∷ []
last_second = refl

-- an empty range, and a query that nothing matches
no_buckets : buckets_in (asks (pos 5) (pos 5) (pos 5) (pos 0) []) ≡ []
no_buckets = refl

no_groups : answer_of [] (asks (pos 0) (pos 10) (pos 5) (pos 0) []) ≡ []
no_groups = refl

-- ---- one series whatever the order of its tags; a point written twice counts once, with the newer value

newer_counts : filled NullFill (Sum ∷ []) (answer_of (latest (fact ((97 ∷ [], 50 ∷ []) ∷ (98 ∷ [], 49 ∷ []) ∷ []) (pos 5) (pos 3) ∷ fact ((97 ∷ [], 50 ∷ []) ∷ (98 ∷ [], 49 ∷ []) ∷ []) (pos 5) (pos 1) ∷ [])) (asks (pos 0) (pos 10) (pos 10) (pos 0) []))
    ≡ group [] (row (pos 0) (n 3 ∷ []) ∷ []) ∷ []
newer_counts = refl

-- ---- cpu of two hosts: of a 5 at 10 s, 7 at 70 s, then 9 and 2 at 100 s; of b 1 at 70 s

abbrev of_host : ℕ → ℕ → ℕ → Fact
of_host name t v = record { column = record { series = record { measurement = 99 ∷ 112 ∷ 117 ∷ []; tags = (104 ∷ 111 ∷ 115 ∷ 116 ∷ [], name ∷ []) ∷ [] }; field = 118 ∷ [] }; time = pos (t * 1000000000); value = pos v }

abbrev of_cpu : ℕ → ℕ → List Text → Query
of_cpu from to groups = record { measurement = 99 ∷ 112 ∷ 117 ∷ []; field = 118 ∷ []; conditions = []; from = pos (from * 1000000000); to = pos (to * 1000000000); interval = pos 60000000000; offset = pos 0; group_tags = groups }

abbrev hosts : List Fact
hosts = of_host 97 100 2 ∷ of_host 97 100 9 ∷ of_host 98 70 1 ∷ of_host 97 70 7 ∷ of_host 97 10 5 ∷ []

one_minute : filled NullFill (Count ∷ Sum ∷ Min ∷ Max ∷ First ∷ Last ∷ Mean ∷ []) (answer_of (latest hosts) (of_cpu 60 120 []))
    ≡ group [] (row (pos 60000000000) (n 3 ∷ n 10 ∷ n 1 ∷ n 7 ∷ n 7 ∷ n 2 ∷ over (pos 10) 3 ∷ []) ∷ []) ∷ []
one_minute = refl

-- then 0 at 100 s, and then 8
after_zero : filled NullFill (Min ∷ Max ∷ []) (answer_of (latest (of_host 97 100 0 ∷ hosts)) (of_cpu 60 120 [])) ≡ group [] (row (pos 60000000000) (n 0 ∷ n 7 ∷ []) ∷ []) ∷ []
after_zero = refl

after_eight : filled NullFill (Min ∷ Max ∷ []) (answer_of (latest (of_host 97 100 8 ∷ of_host 97 100 0 ∷ hosts)) (of_cpu 60 120 [])) ≡ group [] (row (pos 60000000000) (n 1 ∷ n 8 ∷ []) ∷ []) ∷ []
after_eight = refl

by_host : filled PreviousFill (Max ∷ []) (answer_of (latest (of_host 97 100 8 ∷ of_host 97 100 0 ∷ hosts)) (of_cpu 0 240 ((104 ∷ 111 ∷ 115 ∷ 116 ∷ []) ∷ [])))
    ≡ group ((97 ∷ []) ∷ []) (row (pos 0) (n 5 ∷ []) ∷ row (pos 60000000000) (n 8 ∷ []) ∷ row (pos 120000000000) (n 8 ∷ []) ∷ row (pos 180000000000) (n 8 ∷ []) ∷ [])
    ∷ group ((98 ∷ []) ∷ []) (row (pos 0) (Null ∷ []) ∷ row (pos 60000000000) (n 1 ∷ []) ∷ row (pos 120000000000) (n 1 ∷ []) ∷ row (pos 180000000000) (n 1 ∷ []) ∷ []) ∷ []
by_host = refl
