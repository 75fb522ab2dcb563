-- The laws of formats of one field.
use Rattle.std.proofs.Common.{◌≡◌, ℕ, ℤ, ◌+◌, ◌^◌, ◌<◌, ◌≤◌, Bool, true, false, cond, ltb, List, [], ◌∷◌, ◌++◌, length, take, drop, Result, Ok, Err, refl, sym, ap, subst, ◌∙◌, append_assoc, arith, inl, inr, ◌⊎◌, ⊎_elim}
use Rattle.std.specs.Int.{Width, w32, w64, byte_len, from_be_bytes, to_be_bytes, cast_signed, cast_unsigned}
use Rattle.std.specs.Prelude.{FitsSigned}
use mir.Val.{bits}
use Rattle.std.specs.List.{concat}
use Rattle.std.specs.Str.{IsUtf8, is_utf8}
use Rattle.std.proofs.lemmas.Bool.{cases_lt, ltb-false, le-ltb}
use Rattle.std.proofs.lemmas.List.{take_at, drop_at, take-append-drop, length-append, length-take, get_or-drop, get_or-take, get_or_past, append-nil}
use Rattle.std.proofs.lemmas.Int.{to_z-of_z, of_z-to_z}
use Rattle.std.proofs.Math.Facts.{sfits_to_z, Fits-of_z, Fits-of_lt, Fits-lt-pow}
use Rattle.std.proofs.lemmas.Nat.{be_bytes_4, be_bytes_8, from_be_bytes-to_be_bytes_4, from_be_bytes-to_be_bytes_8}
use Rattle.std.proofs.lemmas.Str.{IsUtf8-nil, IsUtf8-from_is_utf8, is_utf8-from_IsUtf8}
use Rattle.ts_core.specs.facts.Facts.{Text}
use Rattle.ts_core.specs.text.Steps.{◌>>=◌}
use Rattle.ts_image.specs.Formats.{Cursor, advanced, Read, Format, spelling, read_number, number, signed_number, is_text, read_text, text, nothing}
use Rattle.ts_image.specs.FormatLaws.{AreBytes, reach, IsFormat}

pub AreBytes-drop : (n : ℕ) (bytes : List ℕ) → AreBytes bytes → AreBytes (drop n bytes)
AreBytes-drop n bytes h i = rw get_or-drop (h (n + i))

pub AreBytes-take : (n : ℕ) (bytes : List ℕ) → AreBytes bytes → AreBytes (take n bytes)
AreBytes-take n bytes h i =
    elim (cases_lt i n) [
      | inl lt ↦ rw (get_or-take n bytes i 0 lt) (h i)
      | inr le ↦ rw (get_or_past (take n bytes) i 0 (omega (arith, length-take n bytes))) (omega arith)
    ]

-- the value of a step that did not fail
pub bind_ok : {A B : Type 0} (r : Read A) (f : A × Cursor → Read B) (y : B × Cursor) → (r >>= f) ≡ Ok y → (x : A × Cursor) × (r ≡ Ok x) × (f x ≡ Ok y)
bind_ok (Ok x) f y e = (x, refl, e)
bind_ok (Err d) f y e = absurd cc

abbrev pub failed : {A : Type 0} → ℕ → Result A ℕ
failed n = Err n

pub err_is : {A : Type 0} (m n : ℕ) → failed {A = A} m ≡ failed n → m ≡ n
err_is m n e = cc

-- which step failed
pub bind_err : {A B : Type 0} (r : Read A) (f : A × Cursor → Read B) (n : ℕ) → (r >>= f) ≡ Err n → (r ≡ Err n) ⊎ ((x : A × Cursor) × (r ≡ Ok x) × (f x ≡ Err n))
bind_err (Ok x) f n e = inr (x, refl, e)
bind_err {A} {B} (Err d) f n e = inl (let same : d ≡ n = err_is {A = B × Cursor} d n e in ap (λ m. Err m) same)

abbrev pub done : {A : Type 0} → A → Result A ℕ
done x = Ok x

pub ok_is : {A : Type 0} (x y : A) → done x ≡ done y → x ≡ y
ok_is x y e = cc

pub guard_ok : {A : Type 0} (b : Bool) (d : ℕ) (x y : A) → cond b (failed d) (done x) ≡ Ok y → (b ≡ false) × (x ≡ y)
guard_ok true d x y e = absurd cc
guard_ok false d x y e = (refl, cc)

pub guard_err : {A : Type 0} (b : Bool) (d n : ℕ) (x : A) → cond b (failed d) (done x) ≡ Err n → (b ≡ true) × (d ≡ n)
guard_err true d n x e = (refl, cc)
guard_err false d n x e = absurd cc

-- ---- formats of one field: where the field isn't whole, reading stops before it

pub record IsField {X : Type 0} (f : Format X) (word : X → List ℕ) : Type 0 where
  pub one : (x : X) → f.fields x ≡ word x ∷ []
  pub some : X
  pub some_fits : f.fits some
  pub reads_value : (p q : Cursor) (x : X) → AreBytes p.rest → f.read p ≡ Ok (x, q) → f.fits x × (p.rest ≡ word x ++ q.rest) × (q.at ≡ p.at + length (word x))
  pub again : (p : Cursor) (x : X) (rest : List ℕ) → f.fits x → p.rest ≡ word x ++ rest → f.read p ≡ Ok (x, record { at = p.at + length (word x); rest = rest })
  pub fails : (p : Cursor) (n : ℕ) → f.read p ≡ Err n → n ≡ p.at
  pub onward : (p : Cursor) → p.at ≤ reach (f.read p)

joined_one : (w : List ℕ) → concat (w ∷ []) ≡ w
joined_one w = append-nil w

-- the front of one field is nothing, or the field
front_of_one : (w : List ℕ) (fs gs : List (List ℕ)) → fs ++ gs ≡ w ∷ [] → (fs ≡ []) ⊎ (fs ≡ w ∷ [])
front_of_one w [] gs e = inl refl
front_of_one w (f ∷ []) gs e = inr (let h : f ≡ w = cc in ap (λ x. x ∷ []) h)
front_of_one w (f ∷ g ∷ fs) gs e = absurd cc

pub field_format : {X : Type 0} (f : Format X) (word : X → List ℕ) → IsField f word → IsFormat f
field_format {X} f word t = record {
  some = t.some;
  some_fits = t.some_fits;
  reads_value = λ p q x b e.
      let k = t.reads_value p q x b e in
      let s : spelling f x ≡ word x = ap concat (t.one x) ∙ joined_one (word x) in
      record { fits = k.0; rest = k.1 ∙ ap (λ w. w ++ q.rest) (sym s); at = k.2 ∙ ap (λ w. p.at + length w) (sym s) };
  again = λ p x rest h e.
      let s : spelling f x ≡ word x = ap concat (t.one x) ∙ joined_one (word x) in
      t.again p x rest h (e ∙ ap (λ w. w ++ rest) s) ∙ ap (λ w. done (x, record { at = p.at + length w; rest = rest })) (sym s);
  fails = λ p n b e. record {
    value = t.some;
    fits = t.some_fits;
    before = [];
    after = f.fields t.some;
    fields = refl;
    rest = p.rest;
    bytes = refl;
    at = let s = t.fails p n e in let z : p.at + 0 ≡ p.at = omega arith in s ∙ sym z;
  };
  bound = λ p n r.
      ⊎_elim {C = n ≤ reach (f.read p)}
      (λ none. let o = t.onward p in let l : length (concat r.before) ≡ 0 = ap (λ (fs : List (List ℕ)). length (concat fs)) none in let a = r.at in omega arith)
      (λ whole.
      let j : concat r.before ≡ word r.value = ap concat whole ∙ joined_one (word r.value) in
      let e = t.again p r.value r.rest r.fits (r.bytes ∙ ap (λ w. w ++ r.rest) j) in
      let a : n ≡ p.at + length (word r.value) = r.at ∙ ap (λ w. p.at + length w) j in
      let o : reach (f.read p) ≡ p.at + length (word r.value) = ap reach e in
      omega arith)
      (front_of_one (word r.value) r.before r.after (sym r.fields ∙ t.one r.value));
}

-- ---- numbers

pub record IsWide (w : Width) : Type 0 where
  pub len : (n : ℕ) → length (to_be_bytes w n) ≡ byte_len w
  pub back : (bytes : List ℕ) → length bytes ≡ byte_len w → AreBytes bytes → to_be_bytes w (from_be_bytes w bytes) ≡ bytes
  pub again : (n : ℕ) → n < 2 ^ bits w → from_be_bytes w (to_be_bytes w n) ≡ n
  pub below : (bytes : List ℕ) → AreBytes bytes → from_be_bytes w bytes < 2 ^ bits w

pub wide32 : IsWide w32
wide32 = record {
  len = λ n. refl;
  back = λ bytes len fits. be_bytes_4 bytes _ len fits refl;
  again = λ n lt. from_be_bytes-to_be_bytes_4 n lt;
  below = λ bytes fits. omega (arith, fits 0, fits 1, fits 2, fits 3);
}

pub wide64 : IsWide w64
wide64 = record {
  len = λ n. refl;
  back = λ bytes len fits. be_bytes_8 bytes _ len fits refl;
  again = λ n lt. from_be_bytes-to_be_bytes_8 n lt;
  below = λ bytes fits. omega (arith, fits 0, fits 1, fits 2, fits 3, fits 4, fits 5, fits 6, fits 7);
}

pub number_takes : (w : Width) → IsWide w → (p q : Cursor) (n : ℕ) → AreBytes p.rest → read_number w p ≡ Ok (n, q) → (n < 2 ^ bits w) × (p.rest ≡ to_be_bytes w n ++ q.rest) × (q.at ≡ p.at + length (to_be_bytes w n))
number_takes w wide p q n fits e =
    let g = guard_ok (ltb (length p.rest) (byte_len w)) p.at (from_be_bytes w (take (byte_len w) p.rest), advanced (byte_len w) p) (n, q) e in
    let long : byte_len w ≤ length p.rest = ltb-false _ _ g.0 in
    let n-is : from_be_bytes w (take (byte_len w) p.rest) ≡ n = ap (λ (r : ℕ × Cursor). r.0) g.1 in
    let rest-is : drop (byte_len w) p.rest ≡ q.rest = ap (λ (r : ℕ × Cursor). r.1.rest) g.1 in
    let at-is : p.at + byte_len w ≡ q.at = ap (λ (r : ℕ × Cursor). r.1.at) g.1 in
    let front : to_be_bytes w n ≡ take (byte_len w) p.rest = rw (← n-is) (wide.back (take (byte_len w) p.rest) (omega (arith, length-take (byte_len w) p.rest)) (AreBytes-take (byte_len w) p.rest fits)) in
    let len = wide.len n in (
      subst (λ m. m < 2 ^ bits w) n-is (wide.below (take (byte_len w) p.rest) (AreBytes-take (byte_len w) p.rest fits)),
      rw (front, ← rest-is) (sym (take-append-drop (byte_len w) p.rest)),
      sym at-is ∙ ap (λ m. p.at + m) (sym len),
    )

pub number_again : (w : Width) → IsWide w → (p : Cursor) (n : ℕ) (rest : List ℕ) → n < 2 ^ bits w → p.rest ≡ to_be_bytes w n ++ rest → read_number w p ≡ Ok (n, record { at = p.at + length (to_be_bytes w n); rest = rest })
number_again w wide p n rest lt e =
    let len = wide.len n in
    let long : ltb (length (to_be_bytes w n ++ rest)) (byte_len w) ≡ false = le-ltb _ _ (omega (arith, length-append (to_be_bytes w n) rest)) in
    ap (λ bytes. read_number w (record { at = p.at; rest = bytes })) e
    ∙ rw (long, take_at (to_be_bytes w n) rest (byte_len w) len, drop_at (to_be_bytes w n) rest (byte_len w) len, wide.again n lt, len) refl

number_fails : (w : Width) (p : Cursor) (n : ℕ) → read_number w p ≡ Err n → n ≡ p.at
number_fails w p n e = sym (guard_err (ltb (length p.rest) (byte_len w)) p.at n (from_be_bytes w (take (byte_len w) p.rest), advanced (byte_len w) p) e).1

number_onward : (w : Width) (p : Cursor) → p.at ≤ reach (read_number w p)
number_onward w p = elim (ltb (length p.rest) (byte_len w)) as (λ b. p.at ≤ reach (cond b (failed p.at) (done (from_be_bytes w (take (byte_len w) p.rest), advanced (byte_len w) p)))) [ true ↦ omega arith | false ↦ omega arith ]

pub number_format : (w : Width) → IsWide w → IsFormat (number w)
number_format w wide = field_format (number w) (to_be_bytes w) (record {
  one = λ n. refl;
  some = from_be_bytes w [];
  some_fits = wide.below [] (λ i. omega arith);
  reads_value = number_takes w wide;
  again = number_again w wide;
  fails = number_fails w;
  onward = number_onward w;
})

-- ---- signed numbers, texts, and no field

pub done_not_failed : {A : Type 0} (x : A) (n : ℕ) → done x ≡ failed n → ⊥
done_not_failed x n e = cc

nil_front : (fs gs : List (List ℕ)) → fs ++ gs ≡ [] → fs ≡ []
nil_front [] gs e = refl
nil_front (f ∷ fs) gs e = absurd cc

abbrev signed_word : Width → ℤ → List ℕ
signed_word w z = to_be_bytes w (cast_unsigned w z)

pub signed_format : (w : Width) → IsWide w → IsFormat (signed_number w)
signed_format w wide = field_format (signed_number w) (signed_word w) (record {
  one = λ z. refl;
  some = cast_signed w (from_be_bytes w []);
  some_fits = sfits_to_z {w = w} (Fits-of_lt {w = w} (wide.below [] (λ i. omega arith)));
  reads_value = λ p q z b e.
      let s = bind_ok (read_number w p) (λ n. done (cast_signed w n.0, n.1)) (z, q) e in
      let t = number_takes w wide p s.0.1 s.0.0 b s.1 in
      let z-is : cast_signed w s.0.0 ≡ z = ap (λ (r : ℤ × Cursor). r.0) (ok_is (cast_signed w s.0.0, s.0.1) (z, q) s.2) in
      let q-is : s.0.1 ≡ q = ap (λ (r : ℤ × Cursor). r.1) (ok_is (cast_signed w s.0.0, s.0.1) (z, q) s.2) in
      let n-is : s.0.0 ≡ cast_unsigned w z = sym (of_z-to_z w s.0.0 t.0) ∙ ap (cast_unsigned w) z-is in (
        subst (FitsSigned w) z-is (sfits_to_z {w = w} (Fits-of_lt {w = w} t.0)),
        subst (λ (m : ℕ). p.rest ≡ to_be_bytes w m ++ q.rest) n-is (subst (λ (x : Cursor). p.rest ≡ to_be_bytes w s.0.0 ++ x.rest) q-is t.1),
        subst (λ (m : ℕ). q.at ≡ p.at + length (to_be_bytes w m)) n-is (subst (λ (x : Cursor). x.at ≡ p.at + length (to_be_bytes w s.0.0)) q-is t.2),
      );
  again = λ p z rest h e.
      ap (λ (r : Read ℕ). ◌>>=◌ {A = ℕ × Cursor} r (λ n. done (cast_signed w n.0, n.1))) (number_again w wide p (cast_unsigned w z) rest (Fits-lt-pow {w = w} (Fits-of_z {w = w} h)) e)
      ∙ ap (λ y. done (y, record { at = p.at + length (signed_word w z); rest = rest })) (to_z-of_z w z h);
  fails = λ p n e.
      ⊎_elim {C = n ≡ p.at} (λ f. number_fails w p n f) (λ s. absurd (done_not_failed (cast_signed w s.0.0, s.0.1) n s.2)) (bind_err (read_number w p) (λ m. done (cast_signed w m.0, m.1)) n e);
  onward = λ p. elim (ltb (length p.rest) (byte_len w)) as (λ b. p.at ≤ reach (◌>>=◌ {A = ℕ × Cursor} (cond b (failed p.at) (done (from_be_bytes w (take (byte_len w) p.rest), advanced (byte_len w) p))) (λ n. done (cast_signed w n.0, n.1)))) [ true ↦ omega arith | false ↦ omega arith ];
})

abbrev text_word : Text → List ℕ
text_word t = to_be_bytes w64 (length t) ++ t

is_text-true : (n : ℕ) (bytes : List ℕ) → is_text n bytes ≡ true → (n ≤ length bytes) × IsUtf8 (take n bytes)
is_text-true n bytes e =
    elim (ltb (length bytes) n) as (λ b. ltb (length bytes) n ≡ b → cond b false (is_utf8 (take n bytes)) ≡ true → (n ≤ length bytes) × IsUtf8 (take n bytes)) [
      | true ↦ λ s q. absurd cc
      | false ↦ λ s q. (ltb-false _ _ s, IsUtf8-from_is_utf8 (take n bytes) q)
    ] refl e

is_text-made : (t rest : List ℕ) → IsUtf8 t → is_text (length t) (t ++ rest) ≡ true
is_text-made t rest u =
    let long : ltb (length (t ++ rest)) (length t) ≡ false = le-ltb _ _ (omega (arith, length-append t rest)) in
    rw (long, take_at t rest (length t) refl) (is_utf8-from_IsUtf8 t u)

text_guard : {A : Type 0} (b : Bool) (d : ℕ) (x y : A) → cond b (done x) (failed d) ≡ Ok y → (b ≡ true) × (x ≡ y)
text_guard true d x y e = (refl, cc)
text_guard false d x y e = absurd cc

text_guard_err : {A : Type 0} (b : Bool) (d n : ℕ) (x : A) → cond b (done x) (failed d) ≡ Err n → d ≡ n
text_guard_err true d n x e = absurd cc
text_guard_err false d n x e = cc

text_onward : (p : Cursor) (n : ℕ) (m : Cursor) → p.at ≤ m.at → p.at ≤ reach (read_text p (n, m))
text_onward p n m le = elim (is_text n m.rest) as (λ b. p.at ≤ reach (cond b (done (take n m.rest, advanced n m)) (failed p.at))) [ true ↦ omega arith | false ↦ omega arith ]

pub text_format : IsFormat text
text_format = field_format text text_word (record {
  one = λ t. refl;
  some = [];
  some_fits = (IsUtf8-nil, omega arith);
  reads_value = λ p q t b e.
      let s = bind_ok (read_number w64 p) (read_text p) (t, q) e in
      let n : ℕ = s.0.0 in
      let m : Cursor = s.0.1 in
      let k = number_takes w64 wide64 p m n b s.1 in
      let g = text_guard (is_text n m.rest) p.at (take n m.rest, advanced n m) (t, q) s.2 in
      let u = is_text-true n m.rest g.0 in
      let len : length (take n m.rest) ≡ n = let l = length-take n m.rest in let le = u.0 in omega (arith, l, le) in
      let made : (IsUtf8 (take n m.rest) × (length (take n m.rest) < 2 ^ 64)) × (p.rest ≡ text_word (take n m.rest) ++ drop n m.rest) × (m.at + n ≡ p.at + length (text_word (take n m.rest))) = (
        (u.1, let lt = k.0 in omega (arith, len, lt)),
        k.1 ∙ ap (λ (x : List ℕ). to_be_bytes w64 n ++ x) (sym (take-append-drop n m.rest)) ∙ sym (append_assoc (to_be_bytes w64 n) (take n m.rest) (drop n m.rest)) ∙ ap (λ (x : ℕ). (to_be_bytes w64 x ++ take n m.rest) ++ drop n m.rest) (sym len),
        let at = k.2 in let l1 = wide64.len n in let l2 = wide64.len (length (take n m.rest)) in let la = length-append (to_be_bytes w64 (length (take n m.rest))) (take n m.rest) in omega (arith, at, l1, l2, la, len),
      ) in
      subst (λ (r : List ℕ × Cursor). (IsUtf8 r.0 × (length r.0 < 2 ^ 64)) × (p.rest ≡ text_word r.0 ++ r.1.rest) × (r.1.at ≡ p.at + length (text_word r.0))) g.1 made;
  again = λ p t rest h e.
      let parts : p.rest ≡ to_be_bytes w64 (length t) ++ (t ++ rest) = e ∙ append_assoc (to_be_bytes w64 (length t)) t rest in
      let k = number_again w64 wide64 p (length t) (t ++ rest) h.1 parts in
      let at : p.at + length (to_be_bytes w64 (length t)) + length t ≡ p.at + length (text_word t) = let la = length-append (to_be_bytes w64 (length t)) t in omega (arith, la) in
      ap (λ r. r >>= read_text p) k ∙ rw (is_text-made t rest h.0, take_at t rest (length t) refl, drop_at t rest (length t) refl) (ap (λ a. done (t, record { at = a; rest = rest })) at);
  fails = λ p n e.
      ⊎_elim {C = n ≡ p.at} (λ f. number_fails w64 p n f) (λ s. sym (text_guard_err (is_text s.0.0 s.0.1.rest) p.at n (take s.0.0 s.0.1.rest, advanced s.0.0 s.0.1) s.2)) (bind_err (read_number w64 p) (read_text p) n e);
  onward = λ p. elim (ltb (length p.rest) (byte_len w64)) as (λ b. p.at ≤ reach (cond b (failed p.at) (done (from_be_bytes w64 (take (byte_len w64) p.rest), advanced (byte_len w64) p)) >>= read_text p)) [
    | true ↦ omega arith
    | false ↦ text_onward p (from_be_bytes w64 (take (byte_len w64) p.rest)) (advanced (byte_len w64) p) (omega arith)
  ];
})

pub nothing_format : {X : Type 0} (x : X) → IsFormat (nothing x)
nothing_format {X} x = record {
  some = x;
  some_fits = refl;
  reads_value = λ p q y b e. let s = ok_is (x, p) (y, q) e in record { fits = sym (ap (λ (r : X × Cursor). r.0) s); rest = ap (λ (r : X × Cursor). r.1.rest) s; at = let a : p.at ≡ q.at = ap (λ (r : X × Cursor). r.1.at) s in omega arith };
  again = λ p y rest h e. let z : p.at ≡ p.at + 0 = omega arith in ap (λ (a : X). done (a, p)) (sym h) ∙ ap (λ (bytes : List ℕ). done (y, record { at = p.at; rest = bytes })) e ∙ ap (λ (n : ℕ). done (y, record { at = n; rest = rest })) z;
  fails = λ p n b e. absurd (done_not_failed (x, p) n e);
  bound = λ p n r. let none : r.before ≡ [] = nil_front r.before r.after (sym r.fields) in let l : length (concat r.before) ≡ 0 = ap (λ (fs : List (List ℕ)). length (concat fs)) none in let a = r.at in omega arith;
}
