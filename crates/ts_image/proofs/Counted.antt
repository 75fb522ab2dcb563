-- Counts that pass the tests of an image: no cell of a store of its data has more facts than were accepted.
use Rattle.std.proofs.Common.{◌≡◌, ◌⊎◌, ℕ, zero, ℤ, ◌+◌, ◌≤◌, ◌<◌, Bool, true, false, cond, List, [], ◌∷◌, ◌++◌, length, map, filter, suc, refl, sym, ◌∙◌, ap, inl, inr, ⊎_elim, arith, length-append}
use Rattle.std.specs.List.{sum_by}
use Rattle.std.proofs.lemmas.List.Sums.{sum_by-cons}
use Rattle.ts_core.specs.lists.Members.{Among}
use Rattle.ts_core.specs.facts.Facts.{Series, Column, Fact, same_text}
use Rattle.ts_core.specs.settings.Settings.{Rule}
use Rattle.ts_core.specs.store.Cells.{Cell, is_in_cell}
use Rattle.ts_core.specs.store.StoreStates.{facts_at, facts_of}
use Rattle.ts_core.proofs.store.RunSteps.{filter-append}
use Rattle.ts_core.proofs.lists.ListSteps.{length-filter}
use Rattle.ts_core.proofs.moves.StepStands.{points_out}
use Rattle.ts_image.specs.Images.{ImageColumn, ImageSeries, ImageCell}
use Rattle.ts_image.specs.ImageTests.{points_of_series, points_in_all, points_of_measurement, count_frozen}
use Rattle.ts_image.specs.Pictures.{column_of_image, image_points_in, columns_of_image, cell_part_of, part_at}
use Rattle.ts_core.specs.aggregates.Aggregates.{Aggregate}
use Rattle.ts_core.specs.store.StoreData.{CellMap}
use Rattle.ts_store.proofs.write.StagedColumns.{facts-append}

pub facts-length : (c : Column) (ps : List (ℤ × ℤ)) → length (facts_at c ps) ≡ length ps
facts-length c [] = refl
facts-length c (p ∷ ps) = ap suc (facts-length c ps)

-- the facts of a series are as many as its points
pub series-length : (s : Series) (cs : List ImageColumn) → length (facts_of (map (image_points_in s) cs)) ≡ sum_by (λ (c : ImageColumn). length c.points) cs
series-length s [] = refl
series-length s (c ∷ cs) =
    let here = facts-length (column_of_image s c) c.points in
    let rest = series-length s cs in
    let all = length-append (facts_at (column_of_image s c) c.points) (facts_of (map (image_points_in s) cs)) in
    let sum = sum_by-cons (λ (x : ImageColumn). length x.points) c cs in
    omega (arith, here, rest, all, sum)

none_of : (r : Rule) (k : Cell) (s : Series) (cs : List ImageColumn) → same_text s.measurement r.measurement ≡ false → filter (is_in_cell r k) (facts_of (map (image_points_in s) cs)) ≡ []
none_of r k s [] e = refl
none_of r k s (c ∷ cs) e =
    filter-append (is_in_cell r k) (facts_at (column_of_image s c) c.points) (facts_of (map (image_points_in s) cs)) ∙ ap (λ xs. xs ++ filter (is_in_cell r k) (facts_of (map (image_points_in s) cs))) (points_out r k (column_of_image s c) c.points e) ∙ none_of r k s cs e

-- a cell has no more raw facts than its rule's measurement has points
pub few_live : (r : Rule) (k : Cell) (ss : List ImageSeries) → length (filter (is_in_cell r k) (facts_of (columns_of_image ss))) ≤ points_of_measurement r.measurement ss
few_live r k [] = omega arith
few_live r k (s ∷ ss) =
    let p : Fact → Bool = is_in_cell r k in
    let mine : List Fact = facts_of (map (image_points_in s.series) s.columns) in
    let parts : filter p (facts_of (columns_of_image (s ∷ ss))) ≡ filter p mine ++ filter p (facts_of (columns_of_image ss)) =
    ap (filter p) (facts-append (map (image_points_in s.series) s.columns) (columns_of_image ss)) ∙ filter-append p mine (facts_of (columns_of_image ss)) in
    let all = ap length parts in
    let both = length-append (filter p mine) (filter p (facts_of (columns_of_image ss))) in
    let rest = few_live r k ss in
    elim (same_text s.series.measurement r.measurement) as (λ b. same_text s.series.measurement r.measurement ≡ b → length (filter p (facts_of (columns_of_image (s ∷ ss)))) ≤ points_in_all (cond b (s ∷ filter (λ (x : ImageSeries). same_text x.series.measurement r.measurement) ss) (filter (λ (x : ImageSeries). same_text x.series.measurement r.measurement) ss))) [
      | true ↦ λ e. let most = length-filter p mine in let many = series-length s.series s.columns in let sum = sum_by-cons points_of_series s (filter (λ (x : ImageSeries). same_text x.series.measurement r.measurement) ss) in omega (arith, all, both, rest, most, many, sum)
      | false ↦ λ e. let none = ap length (none_of r k s.series s.columns e) in omega (arith, all, both, rest, none)
    ] refl

-- a cell of a rule has no more frozen facts than all of them
pub few_frozen : (cs : List ImageCell) (c : ImageCell) → Among c cs → c.count ≤ count_frozen cs
few_frozen [] c a = absurd a
few_frozen (d ∷ ds) c a =
    ⊎_elim {C = c.count ≤ count_frozen (d ∷ ds)} (λ e. let h = ap (λ (x : ImageCell). x.count) e in let sum = sum_by-cons (λ (x : ImageCell). x.count) d ds in omega (arith, h, sum)) (λ k. let h = few_frozen ds c k in let sum = sum_by-cons (λ (x : ImageCell). x.count) d ds in omega (arith, h, sum)) a

none_or_some : (n : ℕ) → (n ≡ 0) ⊎ (0 < n)
none_or_some zero = inl refl
none_or_some (suc n) = inr (omega arith)

-- so no cell holds more facts than were accepted, where the frozen cells are those of the image
pub few_in_cell : (n : ℕ) (r : Rule) (ss : List ImageSeries) (m : CellMap) (cs : List ImageCell) → count_frozen cs + points_of_measurement r.measurement ss ≤ n
    → ((c : ImageCell) → Among c cs → part_at m c.cell ≡ cell_part_of c) → ((k : Cell) → 0 < (part_at m k).count → (c : ImageCell) × Among c cs × (c.cell ≡ k))
    → (k : Cell) → (part_at m k).count + length (filter (is_in_cell r k) (facts_of (columns_of_image ss))) ≤ n
few_in_cell n r ss m cs most each only k =
    let live = few_live r k ss in
    ⊎_elim {C = (part_at m k).count + length (filter (is_in_cell r k) (facts_of (columns_of_image ss))) ≤ n}
    (λ none. omega (arith, live, most, none))
    (λ some.
    let c = only k some in
    let frozen = few_frozen cs c.0 c.1 in
    let same : (part_at m k).count ≡ c.0.count = ap (λ (x : Aggregate). x.count) (sym (ap (part_at m) c.2) ∙ each c.0 c.1) in
    omega (arith, live, most, frozen, same))
    (none_or_some (part_at m k).count)
