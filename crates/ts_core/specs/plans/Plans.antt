-- The plan of a query: a walk over the times from which the end can be reached, with neighbours merged. There is at
-- most one plan. (Own rules.)
use Rattle.std.specs.Prelude.{◌≡◌, ℕ, ◌+◌, ◌<◌, ℤ, pos, ◌+ℤ◌, ◌-ℤ◌, ◌≤ℤ◌, ◌<ℤ◌, Bool, true, false, ◌&&◌, List, [], ◌∷◌, Option, Some, None, slice_get, if◌then◌else◌}
use Rattle.ts_core.specs.facts.Facts.{Text, same_text}
use Rattle.ts_core.specs.settings.Settings.{Rule, Settings}
use Rattle.ts_core.specs.store.Marks.{Marks, index_of}
use Rattle.ts_core.specs.queries.Queries.{Query}
use Rattle.ts_core.specs.queries.Answers.{at_least_none}
use Rattle.ts_core.specs.plans.Pieces.{Source, Raw, Rollup, Piece, MarkedRule, QueryContext, query_context, IsValidPiece, IsValidFrom}
use Rattle.ts_core.specs.plans.Faults.{PieceFault, piece_fault}

-- ---- the walk

-- some list of valid pieces leads from p to the end of the range
abbrev pub ReachesEnd : QueryContext → ℤ → Type 0
ReachesEnd t p = (ps : List Piece) × IsValidFrom t p ps

abbrev pub rollup_piece : Text → ℤ → ℤ → Piece
rollup_piece name a b = record { source = Rollup name; from = a; to = b }

abbrev pub raw_piece : ℤ → ℤ → Piece
raw_piece a b = record { source = Raw; from = a; to = b }

-- the bucket of rule n that starts at p is a valid piece, and the end can be reached from its end e
pub record LeadsOn (t : QueryContext) (n : ℕ) (p e : ℤ) : Type 0 where
  pub rule : MarkedRule
  pub there : slice_get t.rules n ≡ Some rule
  pub one : e ≡ p +ℤ rule.rule.interval
  pub valid : IsValidPiece t (rollup_piece rule.rule.name p e)
  pub good : ReachesEnd t e

-- no rule with an index below n leads on from p
abbrev pub NoneBefore : QueryContext → ℤ → ℕ → Type 0
NoneBefore t p n = (m : ℕ) (d : ℤ) → m < n → LeadsOn t m p d → ⊥

-- rule n leads on, and none before it in the order of the settings does
pub record IsFirstToReach (t : QueryContext) (name : Text) (p e : ℤ) : Type 0 where
  pub n : ℕ
  pub leads : LeadsOn t n p e
  pub named : leads.rule.rule.name ≡ name
  pub first : NoneBefore t p n

-- one step of the walk, from p to e. At or above the raw mark, one raw piece covers the rest. Below it, the step takes
-- one bucket, and the walk continues.
abbrev pub Steps : QueryContext → ℤ → ℤ → Source → List Piece → Type 0 → Type 0
Steps t p e Raw rest more = (t.mark ≤ℤ p) × (e ≡ t.query.to) × (rest ≡ [])
Steps t p e (Rollup name) rest more = (p <ℤ t.mark) × IsFirstToReach t name p e × more

-- the walk from p to the end of the range
abbrev pub IsWalk : QueryContext → ℤ → List Piece → Type 0
IsWalk t p [] = p ≡ t.query.to
IsWalk t p (b ∷ bs) = (p <ℤ t.query.to) × (b.from ≡ p) × Steps t p b.to b.source bs (IsWalk t b.to bs)

-- ---- merged neighbours

abbrev pub is_same_rule : Source → Source → Bool
is_same_rule Raw s = false
is_same_rule (Rollup name) Raw = false
is_same_rule (Rollup name) (Rollup other) = same_text name other

abbrev pub is_faultless : Option PieceFault → Bool
is_faultless None = true
is_faultless (Some fault) = false

-- the piece p, extended to the end of b
abbrev pub extended : Piece → Piece → Piece
extended p b = record p { to = b.to }

-- from left to right: the next bucket of the same rule extends the piece as long as the result is valid
abbrev pub merged_onto : QueryContext → Piece → List Piece → List Piece
merged_onto t p [] = p ∷ []
merged_onto t p (b ∷ bs) =
    if is_same_rule p.source b.source && is_faultless (piece_fault t (extended p b))
    then merged_onto t (extended p b) bs
    else (p ∷ merged_onto t b bs)

abbrev pub joined : QueryContext → List Piece → List Piece
joined t [] = []
joined t (b ∷ bs) = merged_onto t b bs

abbrev pub IsPlanOf : QueryContext → List Piece → Type 0
IsPlanOf t ps = (bs : List Piece) × IsWalk t t.query.from bs × (ps ≡ joined t bs)

abbrev pub IsPlan : Settings → Marks → Query → List Piece → Type 0
IsPlan s m q ps = IsPlanOf (query_context s m q) ps

-- ---- the limit of the search

-- the number of complete buckets of a rule from a to b: those after the bucket of a - 1 and before that of b
abbrev pub whole_between : Rule → ℤ → ℤ → ℕ
whole_between r a b = at_least_none ((index_of r b -ℤ index_of r (a -ℤ pos 1)) -ℤ pos 1)

-- the number of complete buckets of all rules of the query's measurement, within the range
abbrev pub whole_buckets : List Rule → Query → ℕ
whole_buckets [] q = 0
whole_buckets (r ∷ rs) q =
    (if same_text r.measurement q.measurement then whole_between r q.from q.to else 0) + whole_buckets rs q

-- the search would visit more than 1,000,000 buckets
pub record IsTooMany (s : Settings) (m : Marks) (q : Query) : Type 0 where
  pub below : q.from <ℤ m.raw
  pub some : q.from <ℤ q.to
  pub many : 1000000 < whole_buckets s.rules q
