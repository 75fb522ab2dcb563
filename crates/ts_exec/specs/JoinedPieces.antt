-- Adjacent pieces of one source joined into one, and groups in which no part was left out. (Own rules.)
use Rattle.std.specs.Prelude.{◌≡◌, ◌⊎◌, ◌^◌, ℤ, nat_lt, int_le, Bool, true, false, ◌&&◌, List, [], ◌∷◌, Option, Some, None, if◌then◌else◌}
use Rattle.std.specs.List.{list_all}
use Rattle.std.specs.Ordering.{int_eq}
use Rattle.ts_core.specs.facts.Facts.{same_text}
use Rattle.ts_core.specs.aggregates.Aggregates.{Aggregate}
use Rattle.ts_core.specs.plans.Pieces.{Source, Raw, Rollup, Piece}
use Rattle.ts_core.specs.plans.Plans.{extended}
use Rattle.ts_core.specs.plans.Assembly.{rule_shown}
use Rattle.ts_core.specs.queries.Queries.{Query}
use Rattle.ts_core.specs.store.Marks.{index_of}
use Rattle.ts_core.specs.store.StoreStates.{RuleCells, total_in}
use Rattle.ts_core.specs.store.Views.{ViewState}
use Rattle.ts_store.specs.read.ViewResults.{SeenCell, cells_within}
use Rattle.ts_exec.specs.declared.aggregate_parts.AggregateParts.{AggregateParts}
use Rattle.ts_exec.specs.GroupTables.{Table, with_pieces}

-- both are raw points, or cells of one rule
abbrev pub is_same_source : Source → Source → Bool
is_same_source Raw Raw = true
is_same_source Raw (Rollup other) = false
is_same_source (Rollup name) Raw = false
is_same_source (Rollup name) (Rollup other) = same_text name other

-- both have one source, the second starts where the first ends, and neither ends before it starts
abbrev pub are_adjacent : Piece → Piece → Bool
are_adjacent p b =
    is_same_source p.source b.source && (int_eq p.to b.from && (int_le p.from p.to && int_le b.from b.to))

-- from left to right: the next piece extends the one before it if they are adjacent
abbrev pub joined_onto : Piece → List Piece → List Piece
joined_onto p [] = p ∷ []
joined_onto p (b ∷ bs) = if are_adjacent p b then joined_onto (extended p b) bs else (p ∷ joined_onto b bs)

abbrev pub joined_pieces : List Piece → List Piece
joined_pieces [] = []
joined_pieces (p ∷ ps) = joined_onto p ps

-- ---- no part was left out

-- fewer points than half of those that a row can count, so two such aggregates can be merged
abbrev pub has_room : Aggregate → Bool
has_room a = nat_lt a.count (2 ^ 61)

abbrev pub have_room : Table → Bool
have_room t = list_all (λ e. list_all has_room e.1) t

abbrev pub is_small : SeenCell → Bool
is_small c = has_room (total_in c.parts)

-- the same for each cell of a piece
abbrev pub are_small : ℤ → ℤ → Option RuleCells → Bool
are_small a b None = true
are_small a b (Some r) = list_all is_small (cells_within r (index_of r.rule a) (index_of r.rule b))

abbrev pub has_small_parts : ViewState → Source → ℤ → ℤ → Bool
has_small_parts seen Raw a b = true
has_small_parts seen (Rollup name) a b = are_small a b (rule_shown name seen.rules)

abbrev pub have_small_parts : ViewState → List Piece → Bool
have_small_parts seen ps = list_all (λ (p : Piece). has_small_parts seen p.source p.from p.to) ps

-- the groups of the pieces one after another; or those of the joined pieces, if each row has room and each cell is
-- small
abbrev pub AreGroupsOf : AggregateParts → ViewState → Query → List Piece → Table → Type 0
AreGroupsOf parts seen q ps t =
    (t ≡ with_pieces parts seen q ps [])
    ⊎ ((t ≡ with_pieces parts seen q (joined_pieces ps) [])
    × (have_room t ≡ true) × (have_small_parts seen (joined_pieces ps) ≡ true))
