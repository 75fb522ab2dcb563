-- Pieces that the next bucket may extend. (Own rules.)
use Rattle.std.specs.Prelude.{◌≡◌, Bool, true, ◌&&◌, List, [], ◌∷◌, Option, Some, None, slice_get}
use Rattle.ts_core.specs.settings.SettingsFaults.{is_rule_name}
use Rattle.ts_core.specs.plans.Pieces.{Piece, MarkedRule, QueryContext, RuleServes}
use Rattle.ts_core.specs.plans.Faults.{piece_fault, is_aligned}
use Rattle.ts_core.specs.plans.Plans.{rollup_piece, is_same_rule, is_faultless, extended, merged_onto, joined}
use Rattle.ts_plan.specs.Steps.{name_or_none}
use Rattle.ts_plan.specs.declared.walk.PendingPiece.{PendingPiece}

abbrev pub pending_piece : QueryContext → PendingPiece → Piece
pending_piece t h = rollup_piece (name_or_none (slice_get t.rules h.rule)) h.from h.to

abbrev pub pending_pieces : QueryContext → Option PendingPiece → List Piece
pending_pieces t None = []
pending_pieces t (Some h) = pending_piece t h ∷ []

-- the bucket extends the piece: both are of one rule, and the merged piece is valid
abbrev pub joins : QueryContext → Piece → Piece → Bool
joins t p b = is_same_rule p.source b.source && is_faultless (piece_fault t (extended p b))

abbrev pub joined_after : QueryContext → Option PendingPiece → List Piece → List Piece
joined_after t None bs = joined t bs
joined_after t (Some h) bs = merged_onto t (pending_piece t h) bs

-- a valid piece of a rule
pub record IsPendingPiece (t : QueryContext) (h : PendingPiece) : Type 0 where
  pub rule : MarkedRule
  pub there : slice_get t.rules h.rule ≡ Some rule
  pub spelled : is_rule_name rule.rule.name ≡ true
  pub aligned : h.aligned ≡ is_aligned rule.rule t.query
  pub serves : RuleServes t.query rule h.from h.to

abbrev pub ArePending : QueryContext → Option PendingPiece → Type 0
ArePending t None = Unit {0}
ArePending t (Some h) = IsPendingPiece t h
