-- A store under construction, cell by cell.
use Rattle.std.proofs.Common.{◌≡◌, ◌<◌, ◌+◌, ℕ, zero, suc, add-one, List, [], ◌∷◌, ◌++◌, length, map, take, get_or, set, refl, sym, ap, subst, ◌∙◌, arith}
use Rattle.std.proofs.lemmas.List.{set-get_or, get_or-set_same, take-map}
use Rattle.std.proofs.lemmas.List.Sums.{fold-append}
use Rattle.std.proofs.lemmas.Simd.{map-map}
use Rattle.std.specs.Prelude.{None}
use Rattle.std.specs.FinMap as finmap
use Rattle.std.specs.FinMap.{get-empty}
use Rattle.ts_core.specs.lists.Members.{Among}
use Rattle.ts_core.specs.settings.Settings.{Rule}
use Rattle.ts_core.specs.store.Cells.{cell_cmp}
use Rattle.ts_core.specs.store.StoreStates.{CellParts}
use Rattle.ts_core.specs.store.StoreData.{CellMap}
use Rattle.ts_core.proofs.lists.BesideLemmas.{beside-ahead}
use Rattle.ts_core.proofs.plans.PieceCells.{cells_total}
use Rattle.ts_store.specs.image.Building.{Built, cell_map_at, with_built_cell}
use Rattle.ts_image.specs.Images.{ImageCell}
use Rattle.ts_store.specs.image.SavedContent.{AreRising}
use Rattle.ts_image.specs.Pictures.{cell_part_of}
use Rattle.ts_image.specs.StoresMade.{parts_of, cell_of_image, with_image_cells, with_cells_at, with_each, with_all_cells}
use Rattle.ts_image.proofs.MadeCells.{elsewhere}
use Rattle.ts_image.proofs.Rising.{rising_absent}

-- ---- the map of a rule

pub cells_more : (cs : List ImageCell) (c : ImageCell) (m : CellMap) → with_image_cells (cs ++ c ∷ []) m ≡ finmap.insert (with_image_cells cs m) c.cell (parts_of c)
cells_more cs c m = fold-append (λ (n : CellMap) (d : ImageCell). finmap.insert n d.cell (parts_of d)) m cs (c ∷ [])

-- ---- a rule's cells, one by one

set_twice : {X : Type 0} (xs : List X) (i : ℕ) (y z : X) → set (set xs i y) i z ≡ set xs i z
set_twice [] i y z = refl
set_twice (x ∷ xs) zero y z = refl
set_twice {X} (x ∷ xs) (suc i) y z = ap (λ (us : List X). x ∷ us) (set_twice xs i y z)

pub no_cells : (rule : ℕ) (b : Built) → b ≡ with_cells_at rule [] b
no_cells rule b i = record {
  settings = b.settings;
  marks = b.marks;
  running = b.running;
  accepted = b.accepted;
  series = b.series;
  columns = b.columns;
  waits = b.waits;
  cells = sym (set-get_or b.cells rule finmap.empty) i;
}

pub cell_added : (rule : ℕ) (cs : List ImageCell) (c : ImageCell) (b : Built) → rule < length b.cells → with_built_cell rule c.cell (cell_part_of c) (with_cells_at rule cs b) ≡ with_cells_at rule (cs ++ c ∷ []) b
cell_added rule cs c b lt i =
    let m : CellMap = with_image_cells cs (cell_map_at b.cells rule) in
    let same : cell_map_at (set b.cells rule m) rule ≡ m = get_or-set_same b.cells rule m finmap.empty lt in
    record {
      settings = b.settings;
      marks = b.marks;
      running = b.running;
      accepted = b.accepted;
      series = b.series;
      columns = b.columns;
      waits = b.waits;
      cells = (
          set_twice b.cells rule m (finmap.insert (cell_map_at (set b.cells rule m) rule) c.cell (parts_of c))
          ∙ ap (λ (n : CellMap). set b.cells rule (finmap.insert n c.cell (parts_of c))) same
          ∙ ap (λ (n : CellMap). set b.cells rule n) (sym (cells_more cs c (cell_map_at b.cells rule)))
          ) i;
    }

-- the next cell of a rule is new
pub cell_absent : {P : Type 0} (v : P → ImageCell) (ps : List P) (i : ℕ) (p : P) (rule : ℕ) (b c : Built) → i < length ps → p ≡ get_or ps i p → rule < length b.cells
    → AreRising cell_cmp (map cell_of_image (map v ps)) → cell_map_at b.cells rule ≡ finmap.empty → c ≡ with_cells_at rule (map v (take i ps)) b
    → finmap.get (cell_map_at c.cells rule) (v p).cell ≡ None
cell_absent {P} v ps i p rule b c lt is inside rising none so_far =
    let cs : List ImageCell = map v (take i ps) in
    let never = rising_absent cells_total (λ (x : P). (v x).cell) ps i p lt is (subst (AreRising cell_cmp) (map-map cell_of_image v ps) rising) in
    ap (λ (z : Built). finmap.get (cell_map_at z.cells rule) (v p).cell) so_far
    ∙ ap (λ (m : CellMap). finmap.get m (v p).cell) (get_or-set_same b.cells rule (with_image_cells cs (cell_map_at b.cells rule)) finmap.empty inside)
    ∙ elsewhere cs (cell_map_at b.cells rule) (v p).cell (λ a. never (subst (Among (v p).cell) (map-map cell_of_image v (take i ps)) a))
    ∙ ap (λ (m : CellMap). finmap.get m (v p).cell) none
    ∙ get-empty cell_cmp (v p).cell

-- ---- all rules

pub no_lists : (b : Built) → b ≡ with_all_cells [] b
no_lists b = refl

each_at : {P : Type 0} (v : P → List ImageCell) (ps : List P) (i : ℕ) (ms : List CellMap) → get_or (with_each (map v (take i ps)) ms) i finmap.empty ≡ get_or ms i finmap.empty
each_at v ps i ms = ap (λ (cs : List (List ImageCell)). get_or (with_each cs ms) i finmap.empty) (sym (take-map v i ps)) ∙ beside-ahead with_image_cells (map v ps) ms i finmap.empty

each_more : {P : Type 0} (v : P → List ImageCell) (ps : List P) (i : ℕ) (p : P) (ms : List CellMap) → i < length ps → p ≡ get_or ps i p
    → set (with_each (map v (take i ps)) ms) i (with_image_cells (v p) (get_or ms i finmap.empty)) ≡ with_each (map v (take (suc i) ps)) ms
each_more v [] i p ms lt e = absurd (omega arith)
each_more v (x ∷ xs) zero p [] lt e = refl
each_more v (x ∷ xs) zero p (m ∷ ms) lt e = ap (λ y. with_image_cells (v y) m ∷ ms) e
each_more v (x ∷ xs) (suc i) p [] lt e = refl
each_more v (x ∷ xs) (suc i) p (m ∷ ms) lt e = ap (λ (ns : List CellMap). with_image_cells (v x) m ∷ ns) (each_more v xs i p ms (omega arith) e)

pub lists_more : {P : Type 0} (v : P → List ImageCell) (ps : List P) (i : ℕ) (p : P) (b : Built) → i < length ps → p ≡ get_or ps i p
    → with_cells_at i (v p) (with_all_cells (map v (take i ps)) b) ≡ with_all_cells (map v (take (i + 1) ps)) b
lists_more v ps i p b lt e j = record {
  settings = b.settings;
  marks = b.marks;
  running = b.running;
  accepted = b.accepted;
  series = b.series;
  columns = b.columns;
  waits = b.waits;
  cells = (
      ap (λ (m : CellMap). set (with_each (map v (take i ps)) b.cells) i (with_image_cells (v p) m)) (each_at v ps i b.cells)
      ∙ each_more v ps i p b.cells lt e
      ∙ ap (λ (n : ℕ). with_each (map v (take n ps)) b.cells) (sym (add-one i))
      ) j;
}

empties : (rs : List Rule) (i : ℕ) → get_or (map (λ (r : Rule). finmap.empty {X = CellParts} {R = cell_cmp}) rs) i finmap.empty ≡ finmap.empty
empties [] i = refl
empties (r ∷ rs) zero = refl
empties (r ∷ rs) (suc i) = empties rs i

-- no cell of the next rule is there yet
pub none_yet : {P : Type 0} (v : P → List ImageCell) (ps : List P) (i : ℕ) (b c : Built) (rs : List Rule) → b.cells ≡ map (λ (r : Rule). finmap.empty) rs → c ≡ with_all_cells (map v (take i ps)) b → cell_map_at c.cells i ≡ finmap.empty
none_yet v ps i b c rs none so_far = ap (λ (z : Built). cell_map_at z.cells i) so_far ∙ each_at v ps i b.cells ∙ ap (λ (ms : List CellMap). get_or ms i finmap.empty) none ∙ empties rs i
