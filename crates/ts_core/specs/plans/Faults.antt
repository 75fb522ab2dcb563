-- The first error of a list of pieces. (Own rules.)
use Rattle.std.specs.Prelude.{ℕ, ◌+◌, ℤ, pos, ◌-ℤ◌, int_lt, int_le, Bool, ◌&&◌, ◌||◌, List, [], ◌∷◌, Option, Some, None, if◌then◌else◌}
use Rattle.std.specs.Ordering.{int_eq}
use Rattle.std.specs.Int.{int_rem_euclid}
use Rattle.std.specs.List.{list_any, list_all}
pub use Rattle.ts_core.specs.declared.plans.fault.PieceFault.{PieceFault}
pub use Rattle.ts_core.specs.declared.plans.fault.PieceFault.TheVariants.{Gap, BelowMark, NoSuchRule, OtherMeasurement, OffBoundary, BelowLow, Straddles, TagNotKept}
use Rattle.ts_core.specs.declared.text.fault_code.FaultCode.{FaultCode}
use Rattle.ts_core.specs.declared.text.fault_code.FaultCode.TheVariants as coded
use Rattle.ts_core.specs.text.FaultCodes.{code_number}
use Rattle.ts_core.specs.declared.text.fault_text.FaultDetail.TheVariants as detailed
use Rattle.ts_core.specs.text.FaultTexts.{fault_text}
use Rattle.ts_core.specs.facts.Facts.{Text, same_text}
use Rattle.ts_core.specs.settings.Settings.{Rule, Settings}
use Rattle.ts_core.specs.settings.SettingsFaults.{unless}
use Rattle.ts_core.specs.aggregates.Buckets.{bucket_of}
use Rattle.ts_core.specs.store.Marks.{Marks, index_of}
use Rattle.ts_core.specs.queries.Queries.{Query}
use Rattle.ts_core.specs.plans.Pieces.{Source, Raw, Rollup, Piece, MarkedRule, QueryContext, query_context, rule_named, start_of, tags_of}

-- the codes in the common table of faults
abbrev pub piece_fault_code : PieceFault → FaultCode
-- the pieces don't follow one another from the start of the range to its end
piece_fault_code Gap = coded.Gap
-- a raw piece starts below the raw mark
piece_fault_code BelowMark = coded.BelowMark
piece_fault_code NoSuchRule = coded.NoSuchRule
piece_fault_code OtherMeasurement = coded.OtherMeasurement
-- an end isn't a bucket boundary of the rule
piece_fault_code OffBoundary = coded.OffBoundary
-- the first bucket is below the rule's low index
piece_fault_code BelowLow = coded.BelowLow
-- the rule's buckets don't fit the query's
piece_fault_code Straddles = coded.Straddles
-- the rule doesn't keep a tag that the query uses
piece_fault_code TagNotKept = coded.TagNotKept

-- the number of an error
abbrev pub fault_number : PieceFault → ℕ
fault_number fault = code_number (piece_fault_code fault)

-- the message of an error
abbrev pub piece_fault_text : PieceFault → Text
piece_fault_text fault = fault_text (piece_fault_code fault) detailed.Alone

-- ---- errors of one piece

abbrev pub is_boundary : Rule → ℤ → Bool
is_boundary r p = int_eq (start_of r (index_of r p)) p

abbrev pub is_aligned : Rule → Query → Bool
is_aligned r q = int_eq (int_rem_euclid q.interval r.interval) (pos 0)
    && int_eq (int_rem_euclid (q.offset -ℤ r.offset) r.interval) (pos 0)

abbrev pub is_in_one_bucket : Query → ℤ → ℤ → Bool
is_in_one_bucket q a b = int_eq (bucket_of a q.interval q.offset) (bucket_of (b -ℤ pos 1) q.interval q.offset)

abbrev pub keeps : Rule → Text → Bool
keeps r tag = list_any (same_text tag) r.kept_tags

abbrev pub rule_fault : Query → Option MarkedRule → ℤ → ℤ → Option PieceFault
rule_fault q None a b = Some NoSuchRule
rule_fault q (Some r) a b =
    unless (same_text r.rule.measurement q.measurement) OtherMeasurement
    (unless (is_boundary r.rule a) OffBoundary
    (unless (is_boundary r.rule b) OffBoundary
    (unless (int_le r.low (index_of r.rule a)) BelowLow
    (unless (is_aligned r.rule q || is_in_one_bucket q a b) Straddles
    (unless (list_all (keeps r.rule) (tags_of q)) TagNotKept None)))))

abbrev pub source_fault : QueryContext → Source → ℤ → ℤ → Option PieceFault
source_fault t Raw a b = unless (int_le t.mark a) BelowMark None
source_fault t (Rollup name) a b = rule_fault t.query (rule_named name t.rules) a b

abbrev pub piece_fault : QueryContext → Piece → Option PieceFault
piece_fault t p = source_fault t p.source p.from p.to

-- ---- errors of a list

-- the index of the first piece that doesn't start where the one before ended; or the number of pieces, if the last
-- doesn't reach the end
abbrev pub gap_at : ℕ → ℤ → ℤ → List Piece → Option ℕ
gap_at n a b [] = if int_eq a b then None else Some n
gap_at n a b (p ∷ ps) =
    if int_eq p.from a && (int_lt p.from p.to && int_le p.to b) then gap_at (n + 1) p.to b ps else Some n

abbrev pub or_fault : ℕ → Option PieceFault → Option (PieceFault × ℕ) → Option (PieceFault × ℕ)
or_fault n None next = next
or_fault n (Some fault) next = Some (fault, n)

abbrev pub pieces_fault : QueryContext → ℕ → List Piece → Option (PieceFault × ℕ)
pieces_fault t n [] = None
pieces_fault t n (p ∷ ps) = or_fault n (piece_fault t p) (pieces_fault t (n + 1) ps)

abbrev pub or_gap : Option ℕ → Option (PieceFault × ℕ) → Option (PieceFault × ℕ)
or_gap None next = next
or_gap (Some n) next = Some (Gap, n)

-- gaps in the whole list come first, then errors piece by piece
abbrev pub fault_from : QueryContext → ℤ → List Piece → Option (PieceFault × ℕ)
fault_from t a ps = or_gap (gap_at 0 a t.query.to ps) (pieces_fault t 0 ps)

-- the first error, and the index of its piece
abbrev pub first_fault : Settings → Marks → Query → List Piece → Option (PieceFault × ℕ)
first_fault s m q ps = fault_from (query_context s m q) q.from ps
