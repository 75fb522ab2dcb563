-- A store under construction, series by series.
use Rattle.std.proofs.Common.{◌≡◌, ◌<◌, ◌≤◌, Bool, List, [], ◌∷◌, ◌++◌, length, map, sym, ap, subst, ◌∙◌, inl, inr, ⊎_elim, arith, append_assoc, append-nil, length-append}
use Rattle.std.proofs.lemmas.List.{map-append, length-map}
use Rattle.std.proofs.lemmas.List.Concat.{flat_map-append}
use Rattle.std.proofs.lemmas.Simd.{map-map}
use Rattle.ts_core.specs.lists.Members.{Among}
use Rattle.ts_core.specs.facts.Facts.{Text, Series, Column, series_cmp}
use Rattle.ts_core.specs.store.StoreStates.{ColumnPoints, column_of}
use Rattle.ts_core.proofs.lists.MembersLemmas.{Among-append}
use Rattle.ts_core.proofs.facts.Ids.{series_total}
use Rattle.ts_store.specs.image.Building.{Built, with_built_series}
use Rattle.ts_image.specs.Images.{ImageColumn, ImageSeries}
use Rattle.ts_store.specs.image.SavedContent.{AreRising}
use Rattle.ts_image.specs.Pictures.{image_points_in, columns_of_image}
use Rattle.ts_image.specs.StoresMade.{is_column_waiting, waits_in, with_image_columns, key_in, with_all_series}
use Rattle.ts_image.proofs.Rising.{rising_mid}

pub same_key : {m n : Text} {ts us : List (Text × Text)} → m ≡ n → ts ≡ us → (let a : Series = record { measurement = m; tags = ts } in let b : Series = record { measurement = n; tags = us } in a ≡ b)
same_key a b i = record { measurement = a i; tags = b i }

-- ---- more series

pub no_series : (b : Built) → b ≡ with_all_series [] b
no_series b i = record {
  settings = b.settings;
  marks = b.marks;
  running = b.running;
  accepted = b.accepted;
  series = sym (append-nil b.series) i;
  columns = sym (append-nil b.columns) i;
  waits = sym (append-nil b.waits) i;
  cells = b.cells;
}

pub series_more : (ss ts : List ImageSeries) (b : Built) → with_all_series ts (with_all_series ss b) ≡ with_all_series (ss ++ ts) b
series_more ss ts b i = record {
  settings = b.settings;
  marks = b.marks;
  running = b.running;
  accepted = b.accepted;
  series = (append_assoc b.series (map key_in ss) (map key_in ts) ∙ ap (λ (xs : List Series). b.series ++ xs) (sym (map-append key_in ss ts))) i;
  columns = (append_assoc b.columns (columns_of_image ss) (columns_of_image ts) ∙ ap (λ (xs : List ColumnPoints). b.columns ++ xs) (sym (flat_map-append (λ (s : ImageSeries). map (image_points_in s.series) s.columns) ss ts))) i;
  waits = (append_assoc b.waits (waits_in ss) (waits_in ts) ∙ ap (λ (xs : List Bool). b.waits ++ xs) (sym (flat_map-append (λ (s : ImageSeries). map is_column_waiting s.columns) ss ts))) i;
  cells = b.cells;
}

-- a series with its columns
pub series_added : (s : ImageSeries) (b : Built) → with_image_columns s.series s.columns (with_built_series s.series b) ≡ with_all_series (s ∷ []) b
series_added s b i = record {
  settings = b.settings;
  marks = b.marks;
  running = b.running;
  accepted = b.accepted;
  series = b.series ++ s.series ∷ [];
  columns = b.columns ++ sym (append-nil (map (image_points_in s.series) s.columns)) i;
  waits = b.waits ++ sym (append-nil (map is_column_waiting s.columns)) i;
  cells = b.cells;
}

-- ---- what the next series asks

module _ {P : Type 0} (v : P → ImageSeries) (xs : List P) (p : P) (ys : List P) (b c : Built) (none : b.series ≡ []) (so_far : c ≡ with_all_series (map v xs) b) where
  these : c.series ≡ map (λ (x : P). (v x).series) xs
  these = ap (λ (z : Built). z.series) so_far ∙ ap (λ (ks : List Series). ks ++ map key_in (map v xs)) none ∙ map-map key_in v xs

  pub series_absent : AreRising series_cmp (map key_in (map v (xs ++ p ∷ ys))) → Among (v p).series c.series → ⊥
  series_absent rising a = rising_mid series_total (λ (x : P). (v x).series) xs p ys (subst (AreRising series_cmp) (map-map key_in v (xs ++ p ∷ ys)) rising) (subst (Among (v p).series) these a)

  pub series_few : length (map v (xs ++ p ∷ ys)) ≤ 1000000 → length c.series < 1000000
  series_few few =
      let a = ap length these in
      let b2 = length-map xs (λ (x : P). (v x).series) in
      let d = length-map (xs ++ p ∷ ys) v in
      let e = length-append xs (p ∷ ys) in
      omega (arith, a, b2, d, e, few)

pub of_series : (k : Column) (s : Series) (cs : List ImageColumn) → Among k (map column_of (map (image_points_in s) cs)) → k.series ≡ s
of_series k s [] a = absurd a
of_series k s (c ∷ cs) a = ⊎_elim {C = k.series ≡ s} (λ e. ap (λ (x : Column). x.series) e) (λ r. of_series k s cs r) a

pub registered_in : (k : Column) (ss : List ImageSeries) → Among k (map column_of (columns_of_image ss)) → Among k.series (map key_in ss)
registered_in k [] a = a
registered_in k (s ∷ ss) a =
    ⊎_elim {C = Among k.series (map key_in (s ∷ ss))} (λ l. inl (of_series k s.series s.columns l)) (λ r. inr (registered_in k ss r))
    (Among-append k (map column_of (map (image_points_in s.series) s.columns)) (map column_of (columns_of_image ss)) (subst (Among k) (map-append column_of (map (image_points_in s.series) s.columns) (columns_of_image ss)) a))

-- each column's series is registered
pub all_registered : (ss : List ImageSeries) (b c : Built) → b.series ≡ [] → b.columns ≡ [] → c ≡ with_all_series ss b → (k : Column) → Among k (map column_of c.columns) → Among k.series c.series
all_registered ss b c none empty so_far k a =
    let e : c.columns ≡ columns_of_image ss = ap (λ (z : Built). z.columns) so_far ∙ ap (λ (xs : List ColumnPoints). xs ++ columns_of_image ss) empty in
    let f : c.series ≡ map key_in ss = ap (λ (z : Built). z.series) so_far ∙ ap (λ (xs : List Series). xs ++ map key_in ss) none in
    subst (Among k.series) (sym f) (registered_in k ss (subst (λ (xs : List ColumnPoints). Among k (map column_of xs)) e a))
