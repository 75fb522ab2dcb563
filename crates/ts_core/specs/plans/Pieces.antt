-- Pieces of a plan, and when a list of them is valid, so that it covers all points ever accepted. (Own rules.)
use Rattle.std.specs.Prelude.{◌≡◌, ◌⊎◌, ℤ, pos, ◌-ℤ◌, ◌≤ℤ◌, ◌<ℤ◌, List, [], ◌∷◌, ◌++◌, map, Option, Some, None, if◌then◌else◌}
use Rattle.std.specs.List.{AllByRecursion, zip}
use Rattle.std.specs.Int.{int_rem_euclid}
use Rattle.ts_core.specs.lists.Members.{Among}
use Rattle.ts_core.specs.facts.Facts.{Text, same_text}
use Rattle.ts_core.specs.settings.Settings.{Rule, Settings}
use Rattle.ts_core.specs.aggregates.Buckets.{bucket_of, bucket_start}
use Rattle.ts_core.specs.store.Marks.{Marks, index_of}
use Rattle.ts_core.specs.queries.Queries.{Condition, Query}

-- the source of a piece's data: raw points, or the cells of the rule with this name
pub data Source : Type 0 where
  Raw : Source
  Rollup : Text → Source

-- the times from `from`, inclusive, to `to`, exclusive
pub record Piece : Type 0 where
  pub source : Source
  pub from : ℤ
  pub to : ℤ

-- ---- the context of pieces

-- a rule with its low index
pub record MarkedRule : Type 0 where
  pub rule : Rule
  pub low : ℤ

abbrev pub marked_rules : List Rule → List ℤ → List MarkedRule
marked_rules rules lows = map (λ (p : Rule × ℤ). record { rule = p.0; low = p.1 }) (zip rules lows)

-- a query, with the rules and the raw mark that it is planned under
pub record QueryContext : Type 0 where
  pub rules : List MarkedRule
  pub mark : ℤ
  pub query : Query

abbrev pub query_context : Settings → Marks → Query → QueryContext
query_context s m q = record { rules = marked_rules s.rules m.lows; mark = m.raw; query = q }

-- the first rule of a name
abbrev pub rule_named : Text → List MarkedRule → Option MarkedRule
rule_named name [] = None
rule_named name (r ∷ rs) = if same_text r.rule.name name then Some r else rule_named name rs

-- ---- when a rule's cells cover the query's points

-- the start of bucket k of a rule
abbrev pub start_of : Rule → ℤ → ℤ
start_of r k = bucket_start k r.interval r.offset

-- a bucket of the rule starts at p
abbrev pub IsBoundary : Rule → ℤ → Type 0
IsBoundary r p = start_of r (index_of r p) ≡ p

-- the rule's interval divides the query's, and their offsets agree modulo the rule's interval
pub record IsAligned (r : Rule) (q : Query) : Type 0 where
  pub interval : int_rem_euclid q.interval r.interval ≡ pos 0
  pub offset : int_rem_euclid (q.offset -ℤ r.offset) r.interval ≡ pos 0

-- the range from a to b is within one bucket of the query
abbrev pub IsInOneBucket : Query → ℤ → ℤ → Type 0
IsInOneBucket q a b = bucket_of a q.interval q.offset ≡ bucket_of (b -ℤ pos 1) q.interval q.offset

-- the tags that a query uses
abbrev pub tags_of : Query → List Text
tags_of q = q.group_tags ++ map (λ (c : Condition). c.tag) q.conditions

-- the rule's cells from a to b cover the points that match the query there
pub record RuleServes (q : Query) (r : MarkedRule) (a b : ℤ) : Type 0 where
  pub measurement : r.rule.measurement ≡ q.measurement
  pub starts : IsBoundary r.rule a
  pub ends : IsBoundary r.rule b
  pub whole : r.low ≤ℤ index_of r.rule a
  pub fits : IsAligned r.rule q ⊎ IsInOneBucket q a b
  pub tags : AllByRecursion (λ tag. Among tag r.rule.kept_tags) (tags_of q)

-- ---- when pieces are valid

-- raw points are complete from the raw mark on
abbrev pub SourceServes : QueryContext → Source → ℤ → ℤ → Type 0
SourceServes t Raw a b = t.mark ≤ℤ a
SourceServes t (Rollup name) a b = (r : MarkedRule) × (rule_named name t.rules ≡ Some r) × RuleServes t.query r a b

abbrev pub IsValidPiece : QueryContext → Piece → Type 0
IsValidPiece t p = SourceServes t p.source p.from p.to

-- the first piece starts at a, each next one at the end of the one before, none is empty, and the last ends at b
abbrev pub Covers : ℤ → ℤ → List Piece → Type 0
Covers a b [] = a ≡ b
Covers a b (p ∷ ps) = (p.from ≡ a) × (p.from <ℤ p.to) × (p.to ≤ℤ b) × Covers p.to b ps

-- valid pieces of which the first starts at a
pub record IsValidFrom (t : QueryContext) (a : ℤ) (ps : List Piece) : Type 0 where
  pub covers : Covers a t.query.to ps
  pub each : AllByRecursion (IsValidPiece t) ps

abbrev pub IsValid : Settings → Marks → Query → List Piece → Type 0
IsValid s m q ps = IsValidFrom (query_context s m q) q.from ps
