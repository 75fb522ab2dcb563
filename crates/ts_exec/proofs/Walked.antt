-- The cells of a walk: their indices are in its range, and their buckets start near it.
use Rattle.std.proofs.Common.{◌≡◌, ℤ, pos, negsuc, ◌+ℤ◌, ◌≤ℤ◌, ◌≤◌, ◌^◌, unsigned_abs, Bool, true, false, not, ◌&&◌, ◌==◌, cond, refl, sym, ◌∙◌, ap, List, [], ◌∷◌, map, filter, arith, SFits, w64}
use Rattle.std.proofs.lemmas.Int.{ints}
use Rattle.std.specs.List.{AllByRecursion}
use Rattle.std.proofs.lemmas.Bool.{and_parts}
use Rattle.ts_core.specs.facts.Facts.{Fact, is_within}
use Rattle.ts_core.specs.settings.Settings.{Rule}
use Rattle.ts_core.specs.store.Marks.{index_of}
use Rattle.ts_core.specs.queries.Queries.{Query, is_selected, matches}
use Rattle.ts_core.specs.plans.Assembly.{representative}
use Rattle.ts_core.specs.plans.Pieces.{start_of}
use Rattle.ts_core.specs.store.Cells.{Cell}
use Rattle.ts_core.specs.store.StoreStates.{CellParts, RuleCells, total_in}
use Rattle.ts_core.proofs.queries.Boundaries.{within_parts}
use Rattle.ts_core.proofs.aggregates.BucketsOrder.{bucket_is, one_more, times_le}
use Rattle.ts_store.specs.read.ViewResults.{SeenCell, with_parts, cells_within}
use Rattle.ts_exec.specs.GroupTables.{is_cell_taken}

all_within : (parts : Cell → CellParts) (a b : ℤ) (ks : List Cell) → AllByRecursion (λ (c : SeenCell). is_within a b c.cell.index ≡ true) (map (with_parts parts) (filter (λ (k : Cell). is_within a b k.index) ks))
all_within parts a b [] = tt
all_within parts a b (k ∷ ks) =
    elim (is_within a b k.index) as (λ z. is_within a b k.index ≡ z → AllByRecursion (λ (c : SeenCell). is_within a b c.cell.index ≡ true) (map (with_parts parts) (cond z (k ∷ filter (λ (x : Cell). is_within a b x.index) ks) (filter (λ (x : Cell). is_within a b x.index) ks)))) [
      | true ↦ λ e. (e, all_within parts a b ks)
      | false ↦ λ e. all_within parts a b ks
    ] refl

pub cells-within : (r : RuleCells) (a b : ℤ) → AllByRecursion (λ (c : SeenCell). is_within a b c.cell.index ≡ true) (cells_within r a b)
cells-within r a b = all_within r.parts a b r.cells

-- a cell's bucket starts near the bounds of the range
pub start_near : (r : Rule) (a b k : ℤ) → pos 1 ≤ℤ r.interval → SFits w64 r.interval → SFits w64 a → SFits w64 b → is_within (index_of r a) (index_of r b) k ≡ true → unsigned_abs (start_of r k) ≤ 2 ^ 126
start_near r a b k h i fa fb w =
    let within = within_parts (index_of r a) (index_of r b) k w in
    let first = bucket_is a r.interval r.offset h in
    let end = bucket_is b r.interval r.offset h in
    let first_end = first.before_end in
    let end_start = end.from_start in
    let below : (k +ℤ pos 1) ≤ℤ index_of r b = let u = within.1 in omega (arith, ints) in
    let low = times_le (index_of r a) k r.interval h within.0 in
    let high = times_le (k +ℤ pos 1) (index_of r b) r.interval h below in
    let one = one_more (index_of r a) r.interval in
    let more = one_more k r.interval in
    omega (arith, ints)

-- a moment between two that fit 64 bits fits them
pub within_fits : (a b t : ℤ) → SFits w64 a → SFits w64 b → is_within a b t ≡ true → SFits w64 t
within_fits a b (pos n) fa fb w = let within = within_parts a b (pos n) w in let high = within.1 in record { sfits = omega (arith, ints) }
within_fits a b (negsuc n) fa fb w = let within = within_parts a b (negsuc n) w in let low = within.0 in record { sfits = omega (arith, ints) }

-- a cell that is taken starts in the query's range and in the piece
pub taken-within : (q : Query) (r : Rule) (a b : ℤ) (c : SeenCell) → is_cell_taken q r a b c ≡ true → (is_within q.from q.to (start_of r c.cell.index) ≡ true) × (is_within a b (start_of r c.cell.index) ≡ true)
taken-within q r a b c e =
    let f : Fact = representative r c.cell in
    let both = and_parts (matches q f && is_within a b f.time) (not ((total_in c.parts).count == 0)) e in
    let parts = and_parts (matches q f) (is_within a b f.time) both.0 in
    ((and_parts (is_selected q f.column) (is_within q.from q.to f.time) parts.0).1, parts.1)

-- a cell outside of the piece isn't taken
pub outside-untaken : (q : Query) (r : Rule) (a b : ℤ) (c : SeenCell) → is_within a b (start_of r c.cell.index) ≡ false → false ≡ is_cell_taken q r a b c
outside-untaken q r a b c e =
    let matched : Bool = matches q (representative r c.cell) in
    let empty : Bool = (total_in c.parts).count == 0 in
    sym (ap (λ z. (matched && z) && not empty) e ∙ none matched empty)
  where
    none : (m d : Bool) → ((m && false) && not d) ≡ false
    none true d = refl
    none false d = refl

-- nor is a cell without data
pub empty-untaken : (q : Query) (r : Rule) (a b : ℤ) (c : SeenCell) → ((total_in c.parts).count == 0) ≡ true → false ≡ is_cell_taken q r a b c
empty-untaken q r a b c e =
    let inside : Bool = matches q (representative r c.cell) && is_within a b (start_of r c.cell.index) in
    sym (ap (λ z. inside && not z) e ∙ none inside)
  where
    none : (m : Bool) → (m && false) ≡ false
    none true = refl
    none false = refl

-- another is if it is selected
pub inside-taken : (q : Query) (r : Rule) (a b : ℤ) (c : SeenCell) → is_within q.from q.to (start_of r c.cell.index) ≡ true → is_within a b (start_of r c.cell.index) ≡ true
    → ((total_in c.parts).count == 0) ≡ false → is_selected q (representative r c.cell).column ≡ is_cell_taken q r a b c
inside-taken q r a b c asked piece full =
    let selected : Bool = is_selected q (representative r c.cell).column in
    sym (ap (λ z. ((selected && z) && is_within a b (start_of r c.cell.index)) && not ((total_in c.parts).count == 0)) asked
    ∙ ap (λ z. ((selected && true) && z) && not ((total_in c.parts).count == 0)) piece
    ∙ ap (λ z. ((selected && true) && true) && not z) full
    ∙ and_all selected)
  where
    and_all : (m : Bool) → (((m && true) && true) && true) ≡ m
    and_all true = refl
    and_all false = refl
