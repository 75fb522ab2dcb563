-- A store under construction, column by column.
use Rattle.std.proofs.Common.{◌≡◌, Bool, List, [], ◌∷◌, ◌++◌, length, map, refl, sym, ap, subst, ◌∙◌, inl, inr, ⊎_elim, append_assoc, append-nil}
use Rattle.std.proofs.lemmas.List.{map-append, nil_from_length}
use Rattle.ts_core.specs.lists.Members.{Among}
use Rattle.ts_core.specs.facts.Facts.{Text, Series, Column, text_cmp}
use Rattle.ts_core.specs.store.StoreStates.{ColumnPoints, column_of}
use Rattle.ts_core.proofs.lists.MembersLemmas.{Among-append}
use Rattle.std.proofs.lemmas.Cmp.{nat_list_cmp_total}
use Rattle.std.proofs.lemmas.Simd.{map-map}
use Rattle.ts_store.specs.image.Building.{Built, with_built_column}
use Rattle.ts_image.specs.Images.{ImageColumn}
use Rattle.ts_store.specs.image.SavedContent.{AreRising}
use Rattle.ts_image.specs.Pictures.{image_points_in}
use Rattle.ts_image.specs.StoresMade.{is_column_waiting, with_image_columns}
use Rattle.ts_image.proofs.Rising.{rising_mid}

-- a loop that consumes its items took one more of them, or all
pub split_more : {X : Type 0} (xs : List X) (x : X) (ys zs all : List X) → ys ≡ x ∷ zs → xs ++ ys ≡ all → (xs ++ x ∷ []) ++ zs ≡ all
split_more xs x ys zs all e h = append_assoc xs (x ∷ []) zs ∙ ap (λ us. xs ++ us) (sym e) ∙ h

pub split_next : {X : Type 0} (xs ys zs all own : List X) (x : X) → ys ≡ x ∷ zs → xs ++ ys ≡ all → all ≡ own → own ≡ xs ++ x ∷ zs
split_next xs ys zs all own x e h k = sym k ∙ sym h ∙ ap (λ us. xs ++ us) e

pub split_all : {X : Type 0} (xs ys all : List X) → length ys ≡ 0 → xs ++ ys ≡ all → xs ≡ all
split_all xs ys all e h = sym (append-nil xs) ∙ ap (λ us. xs ++ us) (sym (nil_from_length ys e)) ∙ h

-- ---- columns of a series

pub no_columns : (s : Series) (b : Built) → b ≡ with_image_columns s [] b
no_columns s b i = record {
  settings = b.settings;
  marks = b.marks;
  running = b.running;
  accepted = b.accepted;
  series = b.series;
  columns = sym (append-nil b.columns) i;
  waits = sym (append-nil b.waits) i;
  cells = b.cells;
}

pub columns_more : (s : Series) (cs : List ImageColumn) (c : ImageColumn) (b : Built) → with_built_column (image_points_in s c) (is_column_waiting c) (with_image_columns s cs b) ≡ with_image_columns s (cs ++ c ∷ []) b
columns_more s cs c b i = record {
  settings = b.settings;
  marks = b.marks;
  running = b.running;
  accepted = b.accepted;
  series = b.series;
  columns = (append_assoc b.columns (map (image_points_in s) cs) (image_points_in s c ∷ []) ∙ ap (λ (xs : List ColumnPoints). b.columns ++ xs) (sym (map-append (image_points_in s) cs (c ∷ [])))) i;
  waits = (append_assoc b.waits (map is_column_waiting cs) (is_column_waiting c ∷ []) ∙ ap (λ (xs : List Bool). b.waits ++ xs) (sym (map-append is_column_waiting cs (c ∷ [])))) i;
  cells = b.cells;
}

pub field_among : (s : Series) (f : Text) (cs : List ImageColumn) → Among (record { series = s; field = f }) (map column_of (map (image_points_in s) cs)) → Among f (map (λ (c : ImageColumn). c.field) cs)
field_among s f [] a = a
field_among s f (c ∷ cs) a = ⊎_elim {C = Among f (map (λ (x : ImageColumn). x.field) (c ∷ cs))} (λ e. inl (ap (λ (x : Column). x.field) e)) (λ k. inr (field_among s f cs k)) a

-- the next column of a series is new
pub column_absent : {P : Type 0} (v : P → ImageColumn) (s : Series) (xs : List P) (p : P) (ys : List P) (b c : Built)
    → ((k : Column) → Among k (map column_of b.columns) → k.series ≡ s → ⊥)
    → AreRising text_cmp (map (λ (x : ImageColumn). x.field) (map v (xs ++ p ∷ ys))) → c ≡ with_image_columns s (map v xs) b
    → Among (record { series = s; field = (v p).field }) (map column_of c.columns) → ⊥
column_absent {P} v s xs p ys b c none rising e a =
    let name : Column = record { series = s; field = (v p).field } in
    let a2 : Among name (map column_of b.columns ++ map column_of (map (image_points_in s) (map v xs))) =
    subst (Among name) (map-append column_of b.columns (map (image_points_in s) (map v xs))) (subst (λ (z : Built). Among name (map column_of z.columns)) e a) in
    ⊎_elim {C = ⊥}
    (λ l. none name l refl)
    (λ r. rising_mid nat_list_cmp_total (λ (x : P). (v x).field) xs p ys (subst (AreRising text_cmp) (map-map (λ (x : ImageColumn). x.field) v (xs ++ p ∷ ys)) rising) (subst (Among (v p).field) (map-map (λ (x : ImageColumn). x.field) v xs) (field_among s (v p).field (map v xs) r)))
    (Among-append name (map column_of b.columns) (map column_of (map (image_points_in s) (map v xs))) a2)
