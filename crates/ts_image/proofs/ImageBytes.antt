-- The bytes of images, each below 256.
use Rattle.std.proofs.Common.{◌≡◌, ℕ, zero, suc, ◌+◌, ◌<◌, ℤ, ◌%◌, ◌/◌, Bool, true, false, cond, ltb, List, [], ◌∷◌, ◌++◌, length, replicate, sym, subst, arith, refl, ⊎_elim}
use Rattle.std.specs.Int.{Width, byte_len, w8, w32, w64, w128, byte_at, bytes_high_first, to_be_bytes, cast_unsigned}
use Rattle.std.specs.List.{concat}
use Rattle.std.specs.Str.{IsUtf8}
use Rattle.std.proofs.Math.Nat.{mod-lt}
use Rattle.std.proofs.lemmas.Bool.{and_parts, ltb-true}
use Rattle.std.proofs.lemmas.List.Folds.{concat-append}
use lib.Utf8.{scalar, scalars, scalar_cases, next, encode, encodes}
use Rattle.ts_core.specs.facts.Facts.{Text}
use Rattle.ts_core.specs.store.Marks.{Marks}
use Rattle.ts_image.specs.Formats.{Format, number, signed_number, text, and, also, along, times, list_of}
use Rattle.ts_image.specs.FormatLaws.{AreBytes}
use Rattle.ts_image.specs.declared.version.Version.{Version}
use Rattle.ts_image.specs.declared.version.Version.TheVariants.{V1, V2}
use Rattle.ts_image.specs.Images.{ImageRule, ImageSettings, ImageSeries, ImageCell, ImageData, flag, image_rule, image_settings, image_marks, image_series_key, image_point, image_column, image_series, image_cell_key, image_extremes, image_cell, image, version_byte, image_text}

-- each number is below 256
abbrev Small : List ℕ → Type 0
Small [] = Unit {0}
Small (b ∷ bs) = (b < 256) × Small bs

small_bytes : (bs : List ℕ) → Small bs → AreBytes bs
small_bytes [] s i = omega arith
small_bytes (b ∷ bs) s zero = s.0
small_bytes (b ∷ bs) s (suc i) = small_bytes bs s.1 i

both_small : (a b : List ℕ) → Small a → Small b → Small (a ++ b)
both_small [] b s t = t
both_small (x ∷ a) b s t = (s.0, both_small a b s.1 t)

byte_small : (i n : ℕ) → byte_at i n < 256
byte_small zero n = mod-lt n (omega arith)
byte_small (suc i) n = mod-lt _ (omega arith)

number_small : (k n : ℕ) → Small (bytes_high_first k n)
number_small zero n = tt
number_small (suc k) n = (byte_small k n, number_small k n)

-- ---- texts

unit_small : (a b c : Bool) (x y z w : List ℕ) → (a ≡ true → Small x) → (b ≡ true → Small y) → (c ≡ true → Small z) → Small w → Small (cond a x (cond b y (cond c z w)))
unit_small true b c x y z w p q r s = p refl
unit_small false true c x y z w p q r s = q refl
unit_small false false true x y z w p q r s = r refl
unit_small false false false x y z w p q r s = s

next_small : (n : ℕ) → next n < 256
next_small n = let m : n % 64 < 64 = mod-lt n (omega arith) in omega (arith, m)

encode_small : (c : ℕ) → scalar c ≡ true → Small (encode c)
unfolding encode
encode_small c e =
    let top : c < 1114112 = ⊎_elim (λ h. omega (arith, h)) (λ h. omega (arith, h.1)) (scalar_cases c e) in
    unit_small (ltb c 128) (ltb c 2048) (ltb c 65536) (c ∷ []) ((192 + c / 64) ∷ next c ∷ []) ((224 + c / 4096) ∷ next (c / 64) ∷ next c ∷ []) ((240 + c / 262144) ∷ next (c / 4096) ∷ next (c / 64) ∷ next c ∷ [])
    (λ t. let l = ltb-true c 128 t in (omega (arith, l), tt))
    (λ t. let l = ltb-true c 2048 t in (omega (arith, l), (next_small c, tt)))
    (λ t. let l = ltb-true c 65536 t in (omega (arith, l), (next_small (c / 64), (next_small c, tt))))
    (omega (arith, top), (next_small (c / 4096), (next_small (c / 64), (next_small c, tt))))

encodes_small : (cs : List ℕ) → scalars cs ≡ true → Small (encodes cs)
encodes_small [] e = tt
encodes_small (c ∷ cs) e = let p = and_parts (scalar c) (scalars cs) e in both_small (encode c) (encodes cs) (encode_small c p.0) (encodes_small cs p.1)

utf8_small : (t : Text) → IsUtf8 t → Small t
utf8_small t u = subst Small u.1.1 (encodes_small u.0 u.1.0)

-- ---- formats

-- each value's fields are bytes
abbrev Spells : {X : Type 0} → Format X → Type 0
Spells {X} f = (x : X) → f.fits x → Small (concat (f.fields x))

alone : (bs : List ℕ) → Small bs → Small (concat (bs ∷ []))
alone bs h = both_small bs [] h tt

number_spells : (w : Width) → Spells (number w)
number_spells w n h = alone (to_be_bytes w n) (number_small _ n)

signed_spells : (w : Width) → Spells (signed_number w)
signed_spells w z h = alone (to_be_bytes w (cast_unsigned w z)) (number_small _ (cast_unsigned w z))

text_spells : Spells text
text_spells t h = alone (to_be_bytes w64 (length t) ++ t) (both_small (to_be_bytes w64 (length t)) t (number_small (byte_len w64) (length t)) (utf8_small t h.0))

and_spells : {A B : Type 0} (f : Format A) (g : A → Format B) → Spells f → ((a : A) → Spells (g a)) → Spells (and f g)
and_spells f g p q x h = subst Small (sym (concat-append (f.fields x.0) ((g x.0).fields x.1))) (both_small (concat (f.fields x.0)) (concat ((g x.0).fields x.1)) (p x.0 h.0) (q x.0 x.1 h.1))

also_spells : {A B : Type 0} (f : Format A) (g : Format B) → Spells f → Spells g → Spells (also f g)
also_spells f g p q = and_spells f (λ a. g) p (λ a. q)

along_spells : {X Y : Type 0} (f : Y → Format X) → ((y : Y) → Spells (f y)) → (ys : List Y) → Spells (along f ys)
along_spells f p [] [] h = tt
along_spells f p [] (x ∷ xs) h = absurd h
along_spells f p (y ∷ ys) [] h = absurd h
along_spells f p (y ∷ ys) (x ∷ xs) h = subst Small (sym (concat-append ((f y).fields x) ((along f ys).fields xs))) (both_small (concat ((f y).fields x)) (concat ((along f ys).fields xs)) (p y x h.0) (along_spells f p ys xs h.1))

list_spells : {X : Type 0} (w : Width) (f : Format X) → Spells f → Spells (list_of w f)
list_spells w f p xs h = and_spells (number w) (λ n. times n f) (number_spells w) (λ n. along_spells (λ (i : ℕ). f) (λ i. p) (replicate n 0)) (length xs, xs) h

flag_spells : (v : Version) → Spells (flag v)
flag_spells V1 x h = tt
flag_spells V2 x h = number_spells w8 x h

-- ---- images

abbrev long : Spells (signed_number w64)
long = signed_spells w64

rule_spells : Spells image_rule
rule_spells r h =
    also_spells text (also text (also (signed_number w64) (also (signed_number w64) (also (signed_number w64) (list_of w8 text))))) text_spells
    (also_spells text (also (signed_number w64) (also (signed_number w64) (also (signed_number w64) (list_of w8 text)))) text_spells
    (also_spells (signed_number w64) (also (signed_number w64) (also (signed_number w64) (list_of w8 text))) long
    (also_spells (signed_number w64) (also (signed_number w64) (list_of w8 text)) long (also_spells (signed_number w64) (list_of w8 text) long (list_spells w8 text text_spells)))))
    (r.name, (r.measurement, (r.interval, (r.offset, (r.duration, r.kept_tags))))) h

settings_spells : Spells image_settings
settings_spells s h = also_spells (signed_number w64) (list_of w8 image_rule) long (list_spells w8 image_rule rule_spells) (s.raw_duration, s.rules) h

abbrev low : ImageRule → Format ℤ
low r = signed_number w64

marks_spells : (rules : List ImageRule) → Spells (image_marks rules)
marks_spells rules m h = also_spells (signed_number w64) (along low rules) long (along_spells low (λ r. long) rules) (m.raw, m.lows) h

key_spells : Spells image_series_key
key_spells s h = also_spells text (list_of w8 (also text text)) text_spells (list_spells w8 (also text text) (also_spells text text text_spells text_spells)) (s.measurement, s.tags) h

point_spells : Spells image_point
point_spells = also_spells (signed_number w64) (signed_number w64) long long

column_spells : (v : Version) → Spells (image_column v)
column_spells v c h =
    also_spells text (also (flag v) (list_of w64 image_point)) text_spells (also_spells (flag v) (list_of w64 image_point) (flag_spells v) (list_spells w64 image_point point_spells))
    (c.field, (c.waits, c.points)) h

series_spells : (v : Version) → Spells (image_series v)
series_spells v s h = also_spells image_series_key (list_of w64 (image_column v)) key_spells (list_spells w64 (image_column v) (column_spells v)) (s.series, s.columns) h

abbrev value : Text → Format Text
value tag = text

cell_key_spells : (r : ImageRule) → Spells (image_cell_key r)
cell_key_spells r k h =
    also_spells (signed_number w64) (also text (along value r.kept_tags)) long (also_spells text (along value r.kept_tags) text_spells (along_spells value (λ tag. text_spells) r.kept_tags))
    (k.index, (k.field, k.group)) h

extremes_spells : Spells image_extremes
extremes_spells e h =
    also_spells (signed_number w64) (also (signed_number w64) (also image_point image_point)) long
    (also_spells (signed_number w64) (also image_point image_point) long (also_spells image_point image_point point_spells point_spells))
    (e.min, (e.max, (e.first, e.last))) h

cell_spells : (r : ImageRule) → Spells (image_cell r)
cell_spells r c h =
    also_spells (image_cell_key r) (also (number w64) (also (signed_number w128) image_extremes)) (cell_key_spells r)
    (also_spells (number w64) (also (signed_number w128) image_extremes) (number_spells w64) (also_spells (signed_number w128) image_extremes (signed_spells w128) extremes_spells))
    (c.cell, (c.count, (c.sum, c.extremes))) h

abbrev cells : ImageRule → Format (List ImageCell)
cells r = list_of w64 (image_cell r)

abbrev rest_of : Version → ImageSettings → Format (Marks × (ℕ × (ℕ × (List ImageSeries × List (List ImageCell)))))
rest_of v s = also (image_marks s.rules) (also (flag v) (also (number w64) (also (list_of w32 (image_series v)) (along cells s.rules))))

rest_spells : (v : Version) (s : ImageSettings) → Spells (rest_of v s)
rest_spells v s =
    also_spells (image_marks s.rules) (also (flag v) (also (number w64) (also (list_of w32 (image_series v)) (along cells s.rules)))) (marks_spells s.rules)
    (also_spells (flag v) (also (number w64) (also (list_of w32 (image_series v)) (along cells s.rules))) (flag_spells v)
    (also_spells (number w64) (also (list_of w32 (image_series v)) (along cells s.rules)) (number_spells w64)
    (also_spells (list_of w32 (image_series v)) (along cells s.rules) (list_spells w32 (image_series v) (series_spells v)) (along_spells cells (λ r. list_spells w64 (image_cell r) (cell_spells r)) s.rules))))

image_spells : (v : Version) → Spells (image v)
image_spells v d h = and_spells image_settings (rest_of v) settings_spells (rest_spells v) (d.settings, (d.marks, (d.runs, (d.accepted, (d.series, d.cells))))) h

version_small : (v : Version) (bs : List ℕ) → Small bs → Small (version_byte v ∷ bs)
version_small V1 bs h = (omega arith, h)
version_small V2 bs h = (omega arith, h)

pub image_bytes : (v : Version) (d : ImageData) → (image v).fits d → AreBytes (image_text v d)
image_bytes v d h = small_bytes (image_text v d) (omega arith, (omega arith, (omega arith, (omega arith, version_small v (concat ((image v).fields d)) (image_spells v d h)))))
