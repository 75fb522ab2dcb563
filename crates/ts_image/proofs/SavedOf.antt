-- Columns and cells of a store as they are saved.
use Rattle.std.proofs.Common.{◌≡◌, ◌↔◌, ℕ, ℤ, zero, suc, ◌<◌, Bool, true, false, ◌&&◌, cond, int_le, nat_lt, List, [], ◌∷◌, length, map, filter, refl, sym, arith}
use Rattle.std.specs.Prelude.{IsTrue, slice_index_or}
use Rattle.std.specs.Int.{w32, w64}
use Rattle.std.specs.List.{AllByRecursion}
use Rattle.std.specs.FinMap as finmap
use Rattle.std.proofs.lemmas.List.{length-map}
use Rattle.std.proofs.lemmas.Option.{get_or_from_slice_get}
use Rattle.ts_core.proofs.lists.MembersLemmas.{at_map_of}
use Rattle.ts_core.specs.lists.Members.{Among}
use Rattle.ts_core.specs.lists.Numbered.{IsAt}
use Rattle.ts_core.specs.facts.Facts.{Text, Column}
use Rattle.ts_core.specs.store.Marks.{Marks}
use Rattle.ts_core.specs.store.RawFacts.{is_waiting}
use Rattle.ts_core.specs.aggregates.Aggregates.{Aggregate}
use Rattle.ts_core.specs.store.Cells.{Cell}
use Rattle.ts_core.specs.store.StoreStates.{CellParts}
use Rattle.ts_core.specs.store.StoreData.{CellMap, RuleData, StoreData}
use Rattle.ts_core.proofs.store.StateLemmas.{is_waiting-there, is_waiting-not}
use Rattle.ts_store.specs.image.SavedContent.{FrozenCell, frozen_from}
use Rattle.ts_image.specs.declared.version.Version.{Version}
use Rattle.ts_image.specs.Formats.{Format, number, also, along, list_of}
use Rattle.ts_image.specs.Images.{ImageRule, ImageSettings, ImageColumn, ImageSeries, ImageCell, flag, image_marks, image_series, image_cell}
use Rattle.ts_image.specs.Saving.{saved_cells, saved_cells_at}

abbrev pub column_with : Text → ℕ → List (ℤ × ℤ) → ImageColumn
column_with field waits points = record { field = field; waits = waits; points = points }

-- a column of a store by its number
pub at_number : {P : Type 0} (ps : List P) (n : ℕ) (d : P) → n < length ps → IsAt ps n (slice_index_or ps n d)
at_number [] n d lt = absurd (omega arith)
at_number (p ∷ ps) zero d lt = refl
at_number (p ∷ ps) (suc n) d lt = at_number ps n d (omega arith)

pub waits_is : (b : Bool) (c : Column) (ds : List Column) → IsTrue b ↔ Among c ds → b ≡ is_waiting ds c
waits_is true c ds e = sym (is_waiting-there c ds (e.0 refl))
waits_is false c ds e = sym (is_waiting-not c ds (λ a. let f : false ≡ true = e.1 a in absurd cc))

pub column_same : (field field' : Text) (waits waits' : ℕ) (points points' : List (ℤ × ℤ)) → field ≡ field' → waits ≡ waits' → points ≡ points' → column_with field waits points ≡ column_with field' waits' points'
column_same field field' waits waits' points points' e f g = rw (e, f, g) refl

abbrev frozen_cell : Cell → Aggregate → FrozenCell
frozen_cell k a = record { cell = k; frozen = a }

some_if : (b : Bool) (n : ℕ) → b && nat_lt 0 n ≡ true → 0 < n
some_if true n e = grind arith
some_if false n e = absurd cc

-- saved cells aren't empty
some_of : (low : ℤ) (es : List (Cell × CellParts)) → AllByRecursion (λ (c : FrozenCell). 0 < c.frozen.count) (map (λ (e : Cell × CellParts). frozen_cell e.0 e.1.frozen) (filter (λ (e : Cell × CellParts). int_le low e.0.index && nat_lt 0 e.1.frozen.count) es))
some_of low [] = tt
some_of low (e ∷ es) =
    let rest = some_of low es in
    elim (int_le low e.0.index && nat_lt 0 e.1.frozen.count) as (λ b. int_le low e.0.index && nat_lt 0 e.1.frozen.count ≡ b → AllByRecursion (λ (c : FrozenCell). 0 < c.frozen.count) (map (λ (e : Cell × CellParts). frozen_cell e.0 e.1.frozen) (cond b (e ∷ filter (λ (e : Cell × CellParts). int_le low e.0.index && nat_lt 0 e.1.frozen.count) es) (filter (λ (e : Cell × CellParts). int_le low e.0.index && nat_lt 0 e.1.frozen.count) es)))) [
      | true ↦ λ p. (some_if (int_le low e.0.index) e.1.frozen.count p, rest)
      | false ↦ λ p. rest
    ] refl

pub frozen_some : (low : ℤ) (m : CellMap) → AllByRecursion (λ (c : FrozenCell). 0 < c.frozen.count) (frozen_from low m)
frozen_some low m = some_of low (finmap.entries m)

-- ---- rule by rule

-- each rule has its saved cells
pub saved-length : (k : StoreData) → length (saved_cells k) ≡ length k.rules
saved-length k = length-map k.rules (λ (x : RuleData). frozen_from x.low x.cells)

pub saved_at : (k : StoreData) (n : ℕ) (x : RuleData) → IsAt k.rules n x → saved_cells_at k n ≡ frozen_from x.low x.cells
saved_at k n x at = get_or_from_slice_get (saved_cells k) n (frozen_from x.low x.cells) [] (at_map_of (λ (y : RuleData). frozen_from y.low y.cells) k.rules n x at)

-- ---- the format

-- the format of what follows the settings
abbrev pub after_settings : Version → ImageSettings → Format (Marks × (ℕ × (ℕ × (List ImageSeries × List (List ImageCell)))))
after_settings v s = also (image_marks s.rules) (also (flag v) (also (number w64) (also (list_of w32 (image_series v)) (along (λ (r : ImageRule). list_of w64 (image_cell r)) s.rules))))
