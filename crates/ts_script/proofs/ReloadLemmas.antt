-- The contents of a store that is loaded from the image of another.
use Rattle.std.proofs.Common.{◌≡◌, ◌==◌, Bool, true, false, cond, List, [], ◌∷◌, ◌++◌, map, filter, refl, ◌∙◌, ap, inl, inr}
use Rattle.std.specs.List.{AllByRecursion}
use Rattle.std.proofs.lemmas.Option.{get_or_from_slice_get}
use Rattle.ts_core.specs.lists.Members.{Among}
use Rattle.ts_core.specs.facts.Facts.{Series, Column}
use Rattle.ts_core.specs.store.RawFacts.{is_waiting}
use Rattle.ts_core.specs.io.ReadingAhead.{bit}
use Rattle.ts_core.specs.store.StoreStates.{ColumnPoints, column_of}
use Rattle.ts_core.specs.store.StoreData.{StoreData}
use Rattle.ts_core.proofs.lists.Indices.{at_map_back}
use Rattle.ts_store.specs.image.SavedContent.{SavedColumn, SavedSeries, SavesColumns}
use Rattle.ts_store.specs.read.ViewResults.{no_points}
use Rattle.ts_image.specs.Images.{ImageColumn}
use Rattle.ts_image.specs.Pictures.{image_points_in, column_of_image, columns_of_image, waiting_of_image}
use Rattle.ts_image.specs.Saving.{column_at, image_column_of, image_series_of}
use Rattle.ts_script.specs.Reloads.{saved_column_named, saved_columns}

-- ---- columns

named : (s : Series) (k : StoreData) (cs : List SavedColumn) (rest : List ColumnPoints) → map column_of (map (image_points_in s) (map (image_column_of k) cs) ++ rest) ≡ map (saved_column_named s) cs ++ map column_of rest
named s k [] rest = refl
named s k (c ∷ cs) rest = ap (λ xs. saved_column_named s c ∷ xs) (named s k cs rest)

pub all_named : (k : StoreData) (order : List SavedSeries) → map column_of (columns_of_image (map (image_series_of k) order)) ≡ saved_columns order
all_named k [] = refl
all_named k (s ∷ ss) = named s.series k s.columns (columns_of_image (map (image_series_of k) ss)) ∙ ap (λ xs. map (saved_column_named s.series) s.columns ++ xs) (all_named k ss)

-- the saved columns of a series are where it says
abbrev AreThere : StoreData → SavedSeries → Type 0
AreThere k s = (x : SavedColumn) → Among x s.columns → (column_at k x).column ≡ saved_column_named s.series x

are_there : (k : StoreData) (s : SavedSeries) → SavesColumns (map column_of k.columns) s → AreThere k s
are_there k s w x a =
    let p = at_map_back column_of k.columns x.number (saved_column_named s.series x) ((w.each x).0 a) in
    ap column_of (get_or_from_slice_get k.columns x.number p.0 no_points p.1) ∙ p.2

waits_one : (b : Bool) → (bit b == 1) ≡ b
waits_one true = refl
waits_one false = refl

waiting_here : (k : StoreData) (s : Series) (cs : List SavedColumn) (rest : List Column) (others : List Column) → ((x : SavedColumn) → Among x cs → (column_at k x).column ≡ saved_column_named s x) → rest ≡ filter (is_waiting k.waiting) others
    → map (column_of_image s) (filter (λ (c : ImageColumn). c.waits == 1) (map (image_column_of k) cs)) ++ rest ≡ filter (is_waiting k.waiting) (map (saved_column_named s) cs ++ others)
waiting_here k s [] rest others there e = e
waiting_here k s (x ∷ xs) rest others there e =
    let more = waiting_here k s xs rest others (λ y a. there y (inr a)) e in
    let tail : List Column = filter (is_waiting k.waiting) (map (saved_column_named s) xs ++ others) in
    let flag : (bit (is_waiting k.waiting (column_at k x).column) == 1) ≡ is_waiting k.waiting (saved_column_named s x) = waits_one (is_waiting k.waiting (column_at k x).column) ∙ ap (is_waiting k.waiting) (there x (inl refl)) in
    let ms : List ImageColumn = filter (λ (c : ImageColumn). c.waits == 1) (map (image_column_of k) xs) in
    let step : (b : Bool) → map (column_of_image s) (cond b (image_column_of k x ∷ ms) ms) ++ rest ≡ cond b (saved_column_named s x ∷ tail) tail =
    λ b. elim b as (λ b. map (column_of_image s) (cond b (image_column_of k x ∷ ms) ms) ++ rest ≡ cond b (saved_column_named s x ∷ tail) tail) [
      | true ↦ ap (λ zs. saved_column_named s x ∷ zs) more
      | false ↦ more
    ] in
    step (bit (is_waiting k.waiting (column_at k x).column) == 1) ∙ ap (λ b. cond b (saved_column_named s x ∷ tail) tail) flag

pub all_waiting : (k : StoreData) (order : List SavedSeries) → AllByRecursion (SavesColumns (map column_of k.columns)) order → waiting_of_image (map (image_series_of k) order) ≡ filter (is_waiting k.waiting) (saved_columns order)
all_waiting k [] w = refl
all_waiting k (s ∷ ss) w = waiting_here k s.series s.columns (waiting_of_image (map (image_series_of k) ss)) (saved_columns ss) (are_there k s w.0) (all_waiting k ss w.1)
