-- The raw facts of an image that is the picture of a store, and their number.
use Rattle.std.proofs.Common.{◌≡◌, ◌≤◌, ℤ, Bool, true, false, cond, List, [], ◌∷◌, ◌++◌, length, map, filter, refl, sym, ◌∙◌, ap, subst, inl, inr, ⊎_elim, arith, length-append, ◌==◌, ℕ}
use Rattle.std.proofs.lemmas.List.{map-append}
use Rattle.std.proofs.lemmas.List.Sums.{sum_by-cons}
use Rattle.std.proofs.lemmas.Cmp.{nat_list_cmp_total}
use Rattle.std.proofs.lemmas.Bool.Decides.{nat_tests}
use Rattle.std.proofs.lemmas.Simd.{map-map}
use Rattle.ts_core.specs.lists.Members.{Among, AllDistinct}
use Rattle.ts_core.specs.facts.Facts.{Series, Column, Fact, Text, same_text, text_cmp, series_cmp}
use Rattle.ts_core.specs.settings.Settings.{Rule}
use Rattle.ts_core.specs.store.Cells.{is_rolled}
use Rattle.ts_core.specs.store.StoreStates.{ColumnPoints, column_of, fact_at, facts_at, facts_of}
use Rattle.ts_core.proofs.store.RunSteps.{filter-append}
use Rattle.ts_core.proofs.lists.MembersLemmas.{Among-left, Among-right, Among-append, Among-map, map_back, AllDistinct-append, Among-filter_was, Among-filter_passes, Among-filter_stays}
use Rattle.ts_core.proofs.facts.Ids.{series_total}
use Rattle.ts_image.specs.Images.{ImageColumn, ImageSeries}
use Rattle.ts_image.specs.ImageTests.{points_of_series, points_in_all, points_of_measurement}
use Rattle.ts_store.specs.image.SavedContent.{AreRising}
use Rattle.ts_store.proofs.write.StagedColumns.{facts-append}
use Rattle.ts_image.specs.Pictures.{column_of_image, image_points_in, columns_of_image, waiting_of_image}
use Rattle.ts_image.proofs.Orders.{rising_distinct, one_of_key, distinct_by}
use Rattle.ts_image.proofs.Counted.{series-length}
use Rattle.ts_image.proofs.CellSums.{number_of}

abbrev pub series_of : ImageSeries → Series
series_of s = s.series

abbrev pub field_of : ImageColumn → Text
field_of c = c.field

-- ---- columns

pub column_here : (ss : List ImageSeries) (s : ImageSeries) (c : ImageColumn) → Among s ss → Among c s.columns → Among (image_points_in s.series c) (columns_of_image ss)
column_here [] s c a b = absurd a
column_here (t ∷ ts) s c a b =
    ⊎_elim {C = Among (image_points_in s.series c) (columns_of_image (t ∷ ts))}
    (λ e. Among-left (image_points_in s.series c) (map (image_points_in t.series) t.columns) (columns_of_image ts) (subst (λ (u : ImageSeries). Among (image_points_in s.series c) (map (image_points_in u.series) u.columns)) e (Among-map (image_points_in s.series) c s.columns b)))
    (λ k. Among-right (image_points_in s.series c) (map (image_points_in t.series) t.columns) (columns_of_image ts) (column_here ts s c k b)) a

pub column_from : (ss : List ImageSeries) (p : ColumnPoints) → Among p (columns_of_image ss) → (s : ImageSeries) × (c : ImageColumn) × Among s ss × Among c s.columns × (image_points_in s.series c ≡ p)
column_from [] p a = absurd a
column_from (t ∷ ts) p a =
    ⊎_elim {C = (s : ImageSeries) × (c : ImageColumn) × Among s (t ∷ ts) × Among c s.columns × (image_points_in s.series c ≡ p)}
    (λ k. let b = map_back (image_points_in t.series) t.columns p k in (t, b.0, inl refl, b.1, b.2))
    (λ k. let r = column_from ts p k in (r.0, r.1, inr r.2, r.3, r.4))
    (Among-append p (map (image_points_in t.series) t.columns) (columns_of_image ts) a)

-- a flag that isn't one is zero
pub not_one : (n : ℕ) → (n == 1) ≡ false → n ≤ 1 → n ≡ 0
not_one n e l = grind (arith, nat_tests)

pub waiting_from : (ss : List ImageSeries) (w : Column) → Among w (waiting_of_image ss) → (s : ImageSeries) × (c : ImageColumn) × Among s ss × Among c s.columns × (column_of_image s.series c ≡ w) × ((c.waits == 1) ≡ true)
waiting_from [] w a = absurd a
waiting_from (t ∷ ts) w a =
    let waits : ImageColumn → Bool = λ c. c.waits == 1 in
    ⊎_elim {C = (s : ImageSeries) × (c : ImageColumn) × Among s (t ∷ ts) × Among c s.columns × (column_of_image s.series c ≡ w) × ((c.waits == 1) ≡ true)}
    (λ k. let b = map_back (column_of_image t.series) (filter waits t.columns) w k in (t, b.0, inl refl, Among-filter_was waits b.0 t.columns b.1, b.2, Among-filter_passes waits b.0 t.columns b.1))
    (λ k. let r = waiting_from ts w k in (r.0, r.1, inr r.2, r.3, r.4, r.5))
    (Among-append w (map (column_of_image t.series) (filter waits t.columns)) (waiting_of_image ts) a)

pub waiting_here : (ss : List ImageSeries) (s : ImageSeries) (c : ImageColumn) → Among s ss → Among c s.columns → (c.waits == 1) ≡ true → Among (column_of_image s.series c) (waiting_of_image ss)
waiting_here [] s c a b w = absurd a
waiting_here (t ∷ ts) s c a b w =
    let waits : ImageColumn → Bool = λ x. x.waits == 1 in
    ⊎_elim {C = Among (column_of_image s.series c) (waiting_of_image (t ∷ ts))}
    (λ e. Among-left (column_of_image s.series c) (map (column_of_image t.series) (filter waits t.columns)) (waiting_of_image ts)
    (subst (λ (u : ImageSeries). Among (column_of_image s.series c) (map (column_of_image u.series) (filter waits u.columns))) e (Among-map (column_of_image s.series) c (filter waits s.columns) (Among-filter_stays waits c s.columns b w))))
    (λ k. Among-right (column_of_image s.series c) (map (column_of_image t.series) (filter waits t.columns)) (waiting_of_image ts) (waiting_here ts s c k b w)) a

-- ---- the image's order makes columns distinct

pub series_once : (ss : List ImageSeries) → AreRising series_cmp (map series_of ss) → AllDistinct (map series_of ss)
series_once ss r = rising_distinct series_total (map series_of ss) r

pub fields_once : (cs : List ImageColumn) → AreRising text_cmp (map field_of cs) → AllDistinct (map field_of cs)
fields_once cs r = rising_distinct nat_list_cmp_total (map field_of cs) r

pub columns_once : (ss : List ImageSeries) → AllDistinct (map series_of ss) → ((s : ImageSeries) → Among s ss → AllDistinct (map field_of s.columns)) → AllDistinct (map column_of (columns_of_image ss))
columns_once [] d h = tt
columns_once (s ∷ ss) d h =
    let mine : List ColumnPoints = map (image_points_in s.series) s.columns in
    subst AllDistinct (sym (map-append column_of mine (columns_of_image ss)))
    (AllDistinct-append (map column_of mine) (map column_of (columns_of_image ss))
    (subst AllDistinct (sym (map-map column_of (image_points_in s.series) s.columns)) (distinct_by field_of (column_of_image s.series) (λ x y e. ap (λ (c : Column). c.field) e) s.columns (h s (inl refl))))
    (columns_once ss d.1 (λ t a. h t (inr a)))
    (λ w a b.
    let x = map_back (column_of_image s.series) s.columns w (subst (Among w) (map-map column_of (image_points_in s.series) s.columns) a) in
    let y = map_back column_of (columns_of_image ss) w b in
    let z = column_from ss y.0 y.1 in
    let same : z.0.series ≡ s.series = ap (λ (p : ColumnPoints). p.column.series) z.4 ∙ ap (λ (c : Column). c.series) (y.2 ∙ sym x.2) in
    d.0 (subst (λ (k : Series). Among k (map series_of ss)) same (Among-map series_of z.0 ss z.2))))

-- a column has one index
pub one_column : (ss : List ImageSeries) → AllDistinct (map series_of ss) → ((s : ImageSeries) → Among s ss → AllDistinct (map field_of s.columns))
    → (s t : ImageSeries) (c b : ImageColumn) → Among s ss → Among t ss → Among c s.columns → Among b t.columns → column_of_image s.series c ≡ column_of_image t.series b → c ≡ b
one_column ss d h s t c b i j k l e =
    let same : s ≡ t = one_of_key series_of ss d s t i j (ap (λ (x : Column). x.series) e) in
    one_of_key field_of t.columns (h t j) c b (subst (λ (u : ImageSeries). Among c u.columns) same k) l (ap (λ (x : Column). x.field) e)

-- ---- how many points there are

pub points_counted : (ss : List ImageSeries) → length (facts_of (columns_of_image ss)) ≡ points_in_all ss
points_counted [] = refl
points_counted (s ∷ ss) =
    let mine : List ColumnPoints = map (image_points_in s.series) s.columns in
    let all = ap length (facts-append mine (columns_of_image ss)) in
    let both = length-append (facts_of mine) (facts_of (columns_of_image ss)) in
    let here = series-length s.series s.columns in
    let rest = points_counted ss in
    let sum = sum_by-cons points_of_series s ss in
    omega (arith, all, both, here, rest, sum)

all_at : (r : Rule) (c : Column) (ps : List (ℤ × ℤ)) → same_text c.series.measurement r.measurement ≡ true → filter (is_rolled r) (facts_at c ps) ≡ facts_at c ps
all_at r c [] e = refl
all_at r c (p ∷ ps) e = ap (λ b. cond b (fact_at c p ∷ filter (is_rolled r) (facts_at c ps)) (filter (is_rolled r) (facts_at c ps))) e ∙ ap (λ fs. fact_at c p ∷ fs) (all_at r c ps e)

all_of : (r : Rule) (s : Series) (cs : List ImageColumn) → same_text s.measurement r.measurement ≡ true → filter (is_rolled r) (facts_of (map (image_points_in s) cs)) ≡ facts_of (map (image_points_in s) cs)
all_of r s [] e = refl
all_of r s (c ∷ cs) e =
    filter-append (is_rolled r) (facts_at (column_of_image s c) c.points) (facts_of (map (image_points_in s) cs))
    ∙ ap (λ fs. fs ++ filter (is_rolled r) (facts_of (map (image_points_in s) cs))) (all_at r (column_of_image s c) c.points e) ∙ ap (λ fs. facts_at (column_of_image s c) c.points ++ fs) (all_of r s cs e)

-- those of a measurement are what its rules roll up
pub points_rolled : (r : Rule) (ss : List ImageSeries) → points_of_measurement r.measurement ss ≤ number_of (is_rolled r) (facts_of (columns_of_image ss))
points_rolled r [] = omega arith
points_rolled r (s ∷ ss) =
    let p : Fact → Bool = is_rolled r in
    let mine : List Fact = facts_of (map (image_points_in s.series) s.columns) in
    let parts : filter p (facts_of (columns_of_image (s ∷ ss))) ≡ filter p mine ++ filter p (facts_of (columns_of_image ss)) =
    ap (filter p) (facts-append (map (image_points_in s.series) s.columns) (columns_of_image ss)) ∙ filter-append p mine (facts_of (columns_of_image ss)) in
    let all = ap length parts in
    let both = length-append (filter p mine) (filter p (facts_of (columns_of_image ss))) in
    let rest = points_rolled r ss in
    elim (same_text s.series.measurement r.measurement) as (λ b. same_text s.series.measurement r.measurement ≡ b → points_in_all (cond b (s ∷ filter (λ (x : ImageSeries). same_text x.series.measurement r.measurement) ss) (filter (λ (x : ImageSeries). same_text x.series.measurement r.measurement) ss)) ≤ length (filter p (facts_of (columns_of_image (s ∷ ss))))) [
      | true ↦ λ e. let here = ap length (all_of r s.series s.columns e) in let many = series-length s.series s.columns in let sum = sum_by-cons points_of_series s (filter (λ (x : ImageSeries). same_text x.series.measurement r.measurement) ss) in omega (arith, all, both, rest, here, many, sum)
      | false ↦ λ e. omega (arith, all, both, rest)
    ] refl
