-- The cells created from an image's: exactly those, each with its frozen part.
use Rattle.std.proofs.Common.{◌≡◌, ◌⊎◌, ℕ, ◌+◌, ◌≤◌, ◌<◌, ℤ, true, false, cond, List, [], ◌∷◌, length, map, refl, sym, ◌∙◌, ap, subst, inl, inr, ⊎_elim, true≢false, arith, Some, None, Option}
use Rattle.std.specs.FinMap as finmap
use Rattle.std.specs.FinMap.{get-insert, get-empty}
use Rattle.ts_core.specs.lists.Members.{Among, AllDistinct}
use Rattle.ts_core.specs.aggregates.Aggregates.{Aggregate, empty_aggregate}
use Rattle.ts_core.specs.store.Cells.{Cell, cell_cmp, same_cell}
use Rattle.ts_core.specs.lists.Changes.{or_else}
use Rattle.ts_core.specs.store.StoreStates.{CellParts}
use Rattle.ts_core.specs.store.StoreData.{CellMap, no_parts}
use Rattle.ts_core.proofs.moves.MovesStand.{key_not}
use Rattle.ts_core.proofs.plans.PieceCells.{cells_total, same_cell-eq, same_cell-refl}
use Rattle.ts_store.specs.store.RuleLists.{rules_with}
use Rattle.ts_store.specs.store.CellCounts.{HoldsFew, HoldFew}
use Rattle.ts_store.specs.store.PossibleCells.{HasPossibleCells, HavePossibleCells}
use Rattle.ts_store.proofs.retain.BatchesLeft.{other_cell}
use Rattle.ts_image.specs.declared.version.Version.{Version}
use Rattle.ts_image.specs.Images.{ImageRule, ImageSeries, ImageCell, ImageData}
use Rattle.ts_image.specs.ImageTests.{rule_in, AreLows, AreImageCells, IsImageCell, CellsAre, AreCounted, count_frozen, points_of_measurement}
use Rattle.ts_image.specs.Pictures.{columns_of_image, cell_part_of, part_at}
use Rattle.ts_image.specs.StoresMade.{parts_of, with_image_cells, cells_in}
use Rattle.ts_image.proofs.Counted.{few_in_cell}
use Rattle.ts_image.proofs.Orders.{all_among, rising_distinct}

abbrev pub cell_at : ImageCell → Cell
cell_at c = c.cell

-- ---- one map

inserted : (m : CellMap) (c : ImageCell) (k : Cell) → finmap.get (finmap.insert m c.cell (parts_of c)) k ≡ cond (same_cell k c.cell) (Some (parts_of c)) (finmap.get m k)
inserted m c k = get-insert cells_total m c.cell (parts_of c) k

-- a cell that isn't in the image stays
pub elsewhere : (cs : List ImageCell) (m : CellMap) (k : Cell) → (Among k (map cell_at cs) → ⊥) → finmap.get (with_image_cells cs m) k ≡ finmap.get m k
elsewhere [] m k n = refl
elsewhere (c ∷ cs) m k n =
    elsewhere cs (finmap.insert m c.cell (parts_of c)) k (λ a. n (inr a)) ∙ inserted m c k ∙ ap (λ b. cond b (Some (parts_of c)) (finmap.get m k)) (other_cell k c.cell (λ e. n (inl e)))

there_within : (cs : List ImageCell) (m : CellMap) → AllDistinct (map cell_at cs) → (c : ImageCell) → Among c cs → finmap.get (with_image_cells cs m) c.cell ≡ Some (parts_of c)
there_within [] m d c a = absurd a
there_within (b ∷ bs) m d c a =
    ⊎_elim {C = finmap.get (with_image_cells (b ∷ bs) m) c.cell ≡ Some (parts_of c)}
    (λ e. subst (λ (x : ImageCell). finmap.get (with_image_cells (b ∷ bs) m) x.cell ≡ Some (parts_of x)) (sym e)
    (elsewhere bs (finmap.insert m b.cell (parts_of b)) b.cell d.0 ∙ inserted m b b.cell ∙ ap (λ t. cond t (Some (parts_of b)) (finmap.get m b.cell)) (same_cell-refl b.cell)))
    (λ k. there_within bs (finmap.insert m b.cell (parts_of b)) d.1 c k) a

pub there : (cs : List ImageCell) → AllDistinct (map cell_at cs) → (c : ImageCell) → Among c cs → finmap.get (cells_in cs) c.cell ≡ Some (parts_of c)
there cs d c a = there_within cs finmap.empty d c a

-- a cell of the image, or none
abbrev pub HasCell : List ImageCell → Cell → Type 0
HasCell cs k = (c : ImageCell) × Among c cs × (c.cell ≡ k)

pub found : (cs : List ImageCell) (k : Cell) → HasCell cs k ⊎ (Among k (map cell_at cs) → ⊥)
found [] k = inr (λ a. a)
found (c ∷ cs) k =
    elim (same_cell k c.cell) as (λ b. same_cell k c.cell ≡ b → HasCell (c ∷ cs) k ⊎ (Among k (map cell_at (c ∷ cs)) → ⊥)) [
      | true ↦ λ e. inl (c, inl refl, sym (same_cell-eq k c.cell e))
      | false ↦ λ e. ⊎_elim {C = HasCell (c ∷ cs) k ⊎ (Among k (map cell_at (c ∷ cs)) → ⊥)}
          (λ h. inl (h.0, inr h.1, h.2))
          (λ n. inr (λ a. ⊎_elim {C = ⊥} (λ q. true≢false (sym (subst (λ (x : Cell). same_cell k x ≡ true) q (same_cell-refl k)) ∙ e)) n a)) (found cs k)
    ] refl

missing : (cs : List ImageCell) (k : Cell) → (Among k (map cell_at cs) → ⊥) → finmap.get (cells_in cs) k ≡ None
missing cs k n = elsewhere cs finmap.empty k n ∙ get-empty cell_cmp k

-- a cell that is there is one of the image
pub from_image : (cs : List ImageCell) (k : Cell) → (finmap.get (cells_in cs) k ≡ None → ⊥) → HasCell cs k
from_image cs k some = ⊎_elim {C = HasCell cs k} (λ h. h) (λ n. absurd (some (missing cs k n))) (found cs k)

pub part_there : (cs : List ImageCell) → AllDistinct (map cell_at cs) → (c : ImageCell) → Among c cs → part_at (cells_in cs) c.cell ≡ cell_part_of c
part_there cs d c a = ap (λ (o : Option CellParts). (or_else no_parts o).frozen) (there cs d c a)

pub part_missing : (cs : List ImageCell) (k : Cell) → (Among k (map cell_at cs) → ⊥) → part_at (cells_in cs) k ≡ empty_aggregate
part_missing cs k n = ap (λ (o : Option CellParts). (or_else no_parts o).frozen) (missing cs k n)

pub part_from : (cs : List ImageCell) (k : Cell) → 0 < (part_at (cells_in cs) k).count → HasCell cs k
part_from cs k some =
    ⊎_elim {C = HasCell cs k} (λ h. h)
    (λ n. let none : (part_at (cells_in cs) k).count ≡ 0 = ap (λ (a : Aggregate). a.count) (part_missing cs k n) in absurd (omega (arith, some, none))) (found cs k)

-- ---- what the tests of an image give

pub cells_once : (mark : ℤ) (r : ImageRule) (low : ℤ) (cs : List ImageCell) → AreImageCells mark r low cs → AllDistinct (map cell_at cs)
cells_once mark r low cs are = rising_distinct cells_total (map cell_at cs) are.rising

few_held : (n : ℕ) (ss : List ImageSeries) (r : ImageRule) (cs : List ImageCell) → AllDistinct (map cell_at cs) → count_frozen cs + points_of_measurement r.measurement ss ≤ n → HoldsFew n (columns_of_image ss) (rule_in r) (cells_in cs)
few_held n ss r cs once most k = few_in_cell n (rule_in r) ss (cells_in cs) cs most (part_there cs once) (λ q some. part_from cs q some) k

possible : (mark : ℤ) (r : ImageRule) (low : ℤ) (cs : List ImageCell) → AreImageCells mark r low cs → HasPossibleCells (rule_in r) (cells_in cs)
possible mark r low cs are k a =
    let h = from_image cs k (key_not (cells_in cs) k a) in
    let is = all_among (IsImageCell mark r low) cs are.each h.0 h.1 in
    record { index = (h.0.extremes.first.0, is.first.valid, is.first.bucket ∙ ap (λ (c : Cell). c.index) h.2); group = ap (λ (c : Cell). length c.group) (sym h.2) ∙ is.group }

pub all_held : (v : Version) (d : ImageData) (mark : ℤ) (rs : List ImageRule) (lows : List ℤ) (cs : List (List ImageCell)) → AreLows v mark rs lows → CellsAre mark rs lows cs → AreCounted d rs cs → HoldFew d.accepted (columns_of_image d.series) (rules_with (map rule_in rs) lows (map cells_in cs))
all_held v d mark [] lows cs low are few = tt
all_held v d mark (r ∷ rs) [] cs low are few = absurd low
all_held v d mark (r ∷ rs) (l ∷ lows) [] low are few = tt
all_held v d mark (r ∷ rs) (l ∷ lows) (c ∷ cs) low are few = (few_held d.accepted d.series r c (cells_once mark r l c are.0) few.0.enough, all_held v d mark rs lows cs low.1 are.1 few.1)

pub all_possible : (v : Version) (mark : ℤ) (rs : List ImageRule) (lows : List ℤ) (cs : List (List ImageCell)) → AreLows v mark rs lows → CellsAre mark rs lows cs → HavePossibleCells (rules_with (map rule_in rs) lows (map cells_in cs))
all_possible v mark [] lows cs low are = tt
all_possible v mark (r ∷ rs) [] cs low are = absurd low
all_possible v mark (r ∷ rs) (l ∷ lows) [] low are = tt
all_possible v mark (r ∷ rs) (l ∷ lows) (c ∷ cs) low are = (possible mark r l c are.0, all_possible v mark rs lows cs low.1 are.1)
