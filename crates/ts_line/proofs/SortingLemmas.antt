-- A pair inserted by its key.
use Rattle.std.proofs.Common.{◌≡◌, true, ◌&&◌, ℕ, suc, ◌+◌, ◌-◌, ◌<◌, ◌≤◌, List, [], ◌∷◌, ◌++◌, length, map, take, drop, set, get_or, refl, sym, ap, ◌∙◌, subst, arith, Ok, Err, Bor, T}
use Rattle.std.specs.FinMap as finmap
use Rattle.std.specs.FinMap.{put, is_sorted, slice_cmp-IsAntisymmetric, nat_cmp-IsAntisymmetric, entries-insert, entries_sorted, len-entries, len-empty}
use Rattle.std.specs.Cmp.Lexicographic.{nat_list_cmp_total}
use Rattle.std.specs.declared.cmp.Ordering.{Ordering}
use Rattle.std.specs.declared.cmp.Ordering.TheVariants.{Less, Equal, Greater}
use Rattle.ts_core.specs.facts.Facts.{Text, text_cmp}
use Rattle.ts_core.specs.text.Texts.{borrowed_pairs, IsTagSet}
use Rattle.ts_line.specs.Parts.{LinePart, tag_texts}
use Rattle.ts_line.specs.Sorting.{key_offset_from, rise}
use Rattle.std.specs.Ordering.{is_lt}
use Rattle.std.proofs.lemmas.Bool.{and_parts}
use Rattle.std.proofs.lemmas.List.{take_more, take_all, map_push}

abbrev pub Borrowed : Type 0
Borrowed = List (Bor Text × Bor Text)

pub same_text : (a b : Text) → text_cmp a b ≡ Equal → a ≡ b
same_text = slice_cmp-IsAntisymmetric nat_cmp-IsAntisymmetric

-- ---- the key is there

abbrev IsPutAt : Bor Text → Bor Text → Borrowed → ℕ → Type 0
IsPutAt k v xs j = borrowed_pairs (set xs j (k, v)) ≡ put text_cmp k.now v.now (borrowed_pairs xs)

old_by : (k v : Bor Text) (x : Bor Text × Bor Text) (xs : Borrowed) (at i : ℕ) (r : Ordering) → text_cmp k.now x.0.now ≡ r
    → (key_offset_from (at + 1) k.now (borrowed_pairs xs) ≡ Ok i → (j : ℕ) × (i ≡ (at + 1) + j) × IsPutAt k v xs j)
    → key_offset_from at k.now (borrowed_pairs (x ∷ xs)) ≡ Ok i → (j : ℕ) × (i ≡ at + j) × IsPutAt k v (x ∷ xs) j
old_by k v x xs at i Less e ih found = let no : Err at ≡ Ok i = rw e at found in absurd cc
old_by k v x xs at i Equal e ih found =
    let here : Ok at ≡ Ok i = rw e at found in
    let is : at ≡ i = cc in
    (0, omega arith, rw e (ap (λ (t : Text). (t, v.now) ∷ borrowed_pairs xs) (same_text k.now x.0.now e)))
old_by k v x xs at i Greater e ih found =
    let later : key_offset_from (at + 1) k.now (borrowed_pairs xs) ≡ Ok i = rw e at found in
    let h = ih later in
    (suc h.0, omega (arith, h.1), rw e (ap (λ (zs : List (Text × Text)). (x.0.now, x.1.now) ∷ zs) h.2))

pub put_old : (k v : Bor Text) (xs : Borrowed) (at i : ℕ) → key_offset_from at k.now (borrowed_pairs xs) ≡ Ok i → (j : ℕ) × (i ≡ at + j) × IsPutAt k v xs j
put_old k v [] at i found = absurd cc
put_old k v (x ∷ xs) at i found = old_by k v x xs at i (text_cmp k.now x.0.now) refl (put_old k v xs (at + 1) i) found

pub put_found : (k v : Bor Text) (xs : Borrowed) (i : ℕ) → Ok i ≡ key_offset_from 0 k.now (borrowed_pairs xs) → borrowed_pairs (set xs i (k, v)) ≡ put text_cmp k.now v.now (borrowed_pairs xs)
put_found k v xs i found =
    let p = put_old k v xs 0 i (sym found) in
    let same : i ≡ p.0 = omega (arith, p.1) in
    rw same p.2

-- ---- the key is new

abbrev IsNewAt : Bor Text → Bor Text → Borrowed → ℕ → Type 0
IsNewAt k v xs j = borrowed_pairs (take j xs ++ (k, v) ∷ drop j xs) ≡ put text_cmp k.now v.now (borrowed_pairs xs)

new_by : (k v : Bor Text) (x : Bor Text × Bor Text) (xs : Borrowed) (at i : ℕ) (r : Ordering) → text_cmp k.now x.0.now ≡ r
    → (key_offset_from (at + 1) k.now (borrowed_pairs xs) ≡ Err i → (j : ℕ) × (i ≡ (at + 1) + j) × IsNewAt k v xs j)
    → key_offset_from at k.now (borrowed_pairs (x ∷ xs)) ≡ Err i → (j : ℕ) × (i ≡ at + j) × IsNewAt k v (x ∷ xs) j
new_by k v x xs at i Less e ih found =
    let here : Err at ≡ Err i = rw e at found in
    let is : at ≡ i = cc in
    (0, omega arith, rw e refl)
new_by k v x xs at i Equal e ih found = let no : Ok at ≡ Err i = rw e at found in absurd cc
new_by k v x xs at i Greater e ih found =
    let later : key_offset_from (at + 1) k.now (borrowed_pairs xs) ≡ Err i = rw e at found in
    let h = ih later in
    (suc h.0, omega (arith, h.1), rw e (ap (λ (zs : List (Text × Text)). (x.0.now, x.1.now) ∷ zs) h.2))

new_in : (k v : Bor Text) (xs : Borrowed) (at i : ℕ) → key_offset_from at k.now (borrowed_pairs xs) ≡ Err i → (j : ℕ) × (i ≡ at + j) × IsNewAt k v xs j
new_in k v [] at i found = let is : at ≡ i = cc in (0, omega arith, refl)
new_in k v (x ∷ xs) at i found = new_by k v x xs at i (text_cmp k.now x.0.now) refl (new_in k v xs (at + 1) i) found

pub put_new : (k v : Bor Text) (xs : Borrowed) (i : ℕ) → Err i ≡ key_offset_from 0 k.now (borrowed_pairs xs) → borrowed_pairs (take i xs ++ (k, v) ∷ drop i xs) ≡ put text_cmp k.now v.now (borrowed_pairs xs)
put_new k v xs i found =
    let p = new_in k v xs 0 i (sym found) in
    let same : i ≡ p.0 = omega (arith, p.1) in
    rw same p.2

-- ---- all of them

-- each of the last ones first
abbrev pub insert_all : List (Text × Text) → List (Text × Text) → List (Text × Text)
insert_all [] es = es
insert_all (t ∷ ts) es = put text_cmp t.0 t.1 (insert_all ts es)

pub put_all_push : (ts : List (Text × Text)) (t : Text × Text) (es : List (Text × Text)) → insert_all (ts ++ t ∷ []) es ≡ insert_all ts (put text_cmp t.0 t.1 es)
put_all_push [] t es = refl
put_all_push (x ∷ ts) t es = ap (put text_cmp x.0 x.1) (put_all_push ts t es)

no_length : (es : List (Text × Text)) → length es ≡ 0 → es ≡ []
no_length [] e = refl
no_length (x ∷ es) e = absurd (omega arith)

-- the entries of a finite map that is built from them
pub entries_put_all : (ts : List (Text × Text)) → finmap.entries (finmap.from_entries {R = text_cmp} ts) ≡ insert_all ts []
entries_put_all [] = no_length (finmap.entries (finmap.empty {X = Text} {R = text_cmp})) (sym (len-entries (finmap.empty {X = Text} {R = text_cmp})) ∙ len-empty text_cmp Text)
entries_put_all (t ∷ ts) = entries-insert nat_list_cmp_total (finmap.from_entries ts) t.0 t.1 ∙ ap (put text_cmp t.0 t.1) (entries_put_all ts)

pub put_all_set : (ts : List (Text × Text)) (borrowed : Borrowed) → borrowed_pairs borrowed ≡ insert_all ts [] → IsTagSet (borrowed_pairs borrowed)
put_all_set ts borrowed e = subst (λ (es : List (Text × Text)). T (is_sorted text_cmp es)) (sym (e ∙ sym (entries_put_all ts))) (entries_sorted (finmap.from_entries {R = text_cmp} ts))

-- the last tag is put first
pub put_last : (tags : List (LinePart × LinePart)) (t : LinePart × LinePart) (es all : List (Text × Text)) → 1 ≤ length tags → t ≡ get_or tags (length tags - 1) t
    → insert_all (map tag_texts tags) es ≡ all → insert_all (map tag_texts (take (length tags - 1) tags)) (put text_cmp t.0.text t.1.text es) ≡ all
put_last tags t es all some is so_far =
    let within : length tags - 1 < length tags = omega arith in
    let whole : (length tags - 1) + 1 ≡ length tags = omega arith in
    let split : tags ≡ take (length tags - 1) tags ++ t ∷ [] = sym (take_all (length tags) tags (omega arith)) ∙ ap (λ n. take n tags) (sym whole) ∙ take_more tags (length tags - 1) t within ∙ ap (λ x. take (length tags - 1) tags ++ x ∷ []) (sym is) in
    sym (put_all_push (map tag_texts (take (length tags - 1) tags)) (tag_texts t) es)
    ∙ ap (λ ts. insert_all ts es) (sym (map_push tag_texts (take (length tags - 1) tags) t) ∙ ap (map tag_texts) (sym split)) ∙ so_far

-- ---- tags in order

rise_by : (t u : Text × Text) (ts : List (Text × Text)) (r : Ordering) → text_cmp t.0 u.0 ≡ r → is_lt r && rise (u ∷ ts) ≡ true → insert_all (u ∷ ts) [] ≡ u ∷ ts → insert_all (t ∷ u ∷ ts) [] ≡ t ∷ u ∷ ts
rise_by t u ts Less e up ih = ap (put text_cmp t.0 t.1) ih ∙ rw e refl
rise_by t u ts Equal e up ih = absurd cc
rise_by t u ts Greater e up ih = absurd cc

-- tags in order stay as they are
pub rising_stand : (ts : List (Text × Text)) → rise ts ≡ true → insert_all ts [] ≡ ts
rising_stand [] up = refl
rising_stand (t ∷ []) up = refl
rising_stand (t ∷ u ∷ ts) up = rise_by t u ts (text_cmp t.0 u.0) refl up (rising_stand (u ∷ ts) (and_parts (is_lt (text_cmp t.0 u.0)) (rise (u ∷ ts)) up).1)

pub in_order : (ts pairs : List (Text × Text)) → rise ts ≡ true → pairs ≡ ts → pairs ≡ finmap.entries (finmap.from_entries {R = text_cmp} ts)
in_order ts pairs up e = e ∙ sym (rising_stand ts up) ∙ sym (entries_put_all ts)

pub in_order_set : (ts : List (Text × Text)) (borrowed : Borrowed) → rise ts ≡ true → borrowed_pairs borrowed ≡ ts → IsTagSet (borrowed_pairs borrowed)
in_order_set ts borrowed up e = put_all_set ts borrowed (e ∙ sym (rising_stand ts up))

borrowed_push : (xs : Borrowed) (x : Bor Text × Bor Text) → borrowed_pairs (xs ++ x ∷ []) ≡ borrowed_pairs xs ++ (x.0.now, x.1.now) ∷ []
borrowed_push [] x = refl
borrowed_push (y ∷ xs) x = ap (λ (ys : List (Text × Text)). (y.0.now, y.1.now) ∷ ys) (borrowed_push xs x)

pub pushed_pairs : (tags : List (LinePart × LinePart)) (t : LinePart × LinePart) (xs : Borrowed) (i : ℕ) (k v : Bor Text) → i < length tags → t ≡ get_or tags i t → k.now ≡ t.0.text → v.now ≡ t.1.text
    → borrowed_pairs xs ≡ map tag_texts (take i tags) → borrowed_pairs (xs ++ (k, v) ∷ []) ≡ map tag_texts (take (i + 1) tags)
pushed_pairs tags t xs i k v lt is key value so_far =
    let one : take (i + 1) tags ≡ take i tags ++ t ∷ [] = take_more tags i t lt ∙ ap (λ x. take i tags ++ x ∷ []) (sym is) in
    borrowed_push xs (k, v) ∙ ap (λ ys. ys ++ (k.now, v.now) ∷ []) so_far ∙ rw (key, value) (sym (map_push tag_texts (take i tags) t)) ∙ ap (map tag_texts) (sym one)

pub few_rise : (tags : List (LinePart × LinePart)) → length tags < 2 → rise (map tag_texts tags) ≡ true
few_rise [] few = refl
few_rise (t ∷ []) few = refl
few_rise (t ∷ u ∷ ts) few = absurd (omega arith)
