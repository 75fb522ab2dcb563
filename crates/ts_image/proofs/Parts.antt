-- The laws of composed formats.
use Rattle.std.proofs.Common.{◌≡◌, ℕ, zero, suc, ◌+◌, ◌≤◌, List, [], ◌∷◌, ◌++◌, length, replicate, Ok, Err, refl, sym, ap, ap₂, subst, ◌∙◌, append_assoc, arith, inl, inr, ◌⊎◌, ⊎_elim}
use Rattle.std.specs.Int.{Width}
use Rattle.std.specs.List.{concat}
use Rattle.std.proofs.lemmas.List.{length-append, length-replicate}
use Rattle.std.proofs.lemmas.List.Folds.{concat-append}
use Rattle.std.proofs.lemmas.Slice.Zip.{AllZip-long}
use Rattle.ts_core.specs.text.Steps.{◌>>=◌}
use Rattle.ts_image.specs.Formats.{Cursor, Read, Format, spelling, number, nothing, and, iso, read_along, along, times, list_of}
use Rattle.ts_image.specs.FormatLaws.{AreBytes, reach, ReadsValue, Reaches, IsFormat}
use Rattle.ts_image.proofs.Fields.{bind_ok, bind_err, done, ok_is, nothing_format, done_not_failed}

-- two ways to part one list: the first parts end one before the other
parted : (xs ys fs gs : List (List ℕ)) → xs ++ ys ≡ fs ++ gs → ((t : List (List ℕ)) × (xs ≡ fs ++ t)) ⊎ ((t : List (List ℕ)) × (fs ≡ xs ++ t) × (ys ≡ t ++ gs))
parted xs ys [] gs e = inl (xs, refl)
parted [] ys (f ∷ fs) gs e = inr (f ∷ fs, refl, e)
parted (x ∷ xs) ys (f ∷ fs) gs e =
    let h : x ≡ f = cc in
    let t : xs ++ ys ≡ fs ++ gs = cc in
    ⊎_elim {C = ((t : List (List ℕ)) × (x ∷ xs ≡ (f ∷ fs) ++ t)) ⊎ ((t : List (List ℕ)) × (f ∷ fs ≡ (x ∷ xs) ++ t) × (ys ≡ t ++ gs))}
    (λ k. inl (k.0, ap₂ (λ (a : List ℕ) (b : List (List ℕ)). a ∷ b) h k.1)) (λ k. inr (k.0, ap₂ (λ (a : List ℕ) (b : List (List ℕ)). a ∷ b) (sym h) k.1, k.2)) (parted xs ys fs gs t)

AreBytes-advanced : (a b : List ℕ) → AreBytes (a ++ b) → AreBytes b
AreBytes-advanced [] b h = h
AreBytes-advanced (x ∷ a) b h = AreBytes-advanced a b (λ i. h (suc i))

pub taken_bytes : {X : Type 0} (f : Format X) (p : Cursor) (x : X) (q : Cursor) → ReadsValue f p x q → AreBytes p.rest → AreBytes q.rest
taken_bytes f p x q t b = AreBytes-advanced (spelling f x) q.rest (subst AreBytes t.rest b)

-- reading never goes back
pub onward : {X : Type 0} (f : Format X) → IsFormat f → (p : Cursor) → p.at ≤ reach (f.read p)
onward f law p =
    let z : p.at + 0 ≡ p.at = omega arith in
    let b = law.bound p p.at (record { value = law.some; fits = law.some_fits; before = []; after = f.fields law.some; fields = refl; rest = p.rest; bytes = refl; at = sym z }) in b

reach-done : {A B : Type 0} (r : Read A) (h : A × Cursor → B) → reach (r >>= λ a. done (h a, a.1)) ≡ reach r
reach-done (Ok x) h = refl
reach-done (Err n) h = refl

reach-more : {A B : Type 0} (r : Read A) (k : A × Cursor → Read B) → ((a : A × Cursor) → a.1.at ≤ reach (k a)) → reach r ≤ reach (r >>= k)
reach-more (Ok x) k h = h x
reach-more (Err n) k h = omega arith

-- ---- a part, and then another

module _ {A B : Type 0} (f : Format A) (g : A → Format B) (lf : IsFormat f) (lg : (a : A) → IsFormat (g a)) where
  abbrev last : A → B × Cursor → Read (A × B)
  last a b = done ((a, b.0), b.1)

  abbrev paired : A → B × Cursor → A × B
  paired a b = (a, b.0)

  abbrev rest_of : A × Cursor → Read (A × B)
  rest_of a = (g a.0).read a.1 >>= last a.0

  spelled : (a : A) (b : B) → concat (f.fields a ++ (g a).fields b) ≡ spelling f a ++ spelling (g a) b
  spelled a b = concat-append (f.fields a) ((g a).fields b)

  both_take : (p : Cursor) (a : A) (m : Cursor) (b : B) (q : Cursor) → ReadsValue f p a m → ReadsValue (g a) m b q → ReadsValue (and f g) p (a, b) q
  both_take p a m b q s t = record {
    fits = (s.fits, t.fits);
    rest = s.rest ∙ ap (λ (x : List ℕ). spelling f a ++ x) t.rest ∙ sym (append_assoc (spelling f a) (spelling (g a) b) q.rest) ∙ ap (λ (x : List ℕ). x ++ q.rest) (sym (spelled a b));
    at = let e = ap length (spelled a b) in let l = length-append (spelling f a) (spelling (g a) b) in let x = s.at in let y = t.at in omega (arith, e, l, x, y);
  }

  and_takes : (p q : Cursor) (x : A × B) → AreBytes p.rest → (and f g).read p ≡ Ok (x, q) → ReadsValue (and f g) p x q
  and_takes p q x bytes e =
      let s = bind_ok (f.read p) rest_of (x, q) e in
      let t = bind_ok ((g s.0.0).read s.0.1) (last s.0.0) (x, q) s.2 in
      let first = lf.reads_value p s.0.1 s.0.0 bytes s.1 in
      let second = (lg s.0.0).reads_value s.0.1 t.0.1 t.0.0 (taken_bytes f p s.0.0 s.0.1 first bytes) t.1 in
      subst (λ (r : (A × B) × Cursor). ReadsValue (and f g) p r.0 r.1) (ok_is ((s.0.0, t.0.0), t.0.1) (x, q) t.2) (both_take p s.0.0 s.0.1 t.0.0 t.0.1 first second)

  and_again : (p : Cursor) (x : A × B) (rest : List ℕ) → (and f g).fits x → p.rest ≡ spelling (and f g) x ++ rest → (and f g).read p ≡ Ok (x, record { at = p.at + length (spelling (and f g) x); rest = rest })
  and_again p x rest h e =
      let sa : List ℕ = spelling f x.0 in
      let sb : List ℕ = spelling (g x.0) x.1 in
      let parts : p.rest ≡ sa ++ (sb ++ rest) = e ∙ ap (λ (y : List ℕ). y ++ rest) (spelled x.0 x.1) ∙ append_assoc sa sb rest in
      let m : Cursor = record { at = p.at + length sa; rest = sb ++ rest } in
      let k = lf.again p x.0 (sb ++ rest) h.0 parts in
      let j = (lg x.0).again m x.1 rest h.1 refl in
      let at : p.at + length sa + length sb ≡ p.at + length (spelling (and f g) x) = let e2 = ap length (spelled x.0 x.1) in let l = length-append sa sb in omega (arith, e2, l) in
      ap (λ r. r >>= rest_of) k ∙ ap (λ r. r >>= last x.0) j ∙ ap (λ (n : ℕ). done (x, record { at = n; rest = rest })) at

  and_fails : (p : Cursor) (n : ℕ) → AreBytes p.rest → (and f g).read p ≡ Err n → Reaches (and f g) p n
  and_fails p n bytes e =
      ⊎_elim {C = Reaches (and f g) p n}
      (λ first.
      let r = lf.fails p n bytes first in
      let more : List (List ℕ) = (g r.value).fields (lg r.value).some in
      record {
        value = (r.value, (lg r.value).some);
        fits = (r.fits, (lg r.value).some_fits);
        before = r.before;
        after = r.after ++ more;
        fields = ap (λ (x : List (List ℕ)). x ++ more) r.fields ∙ append_assoc r.before r.after more;
        rest = r.rest;
        bytes = r.bytes;
        at = r.at;
      })
      (λ s.
      let t = lf.reads_value p s.0.1 s.0.0 bytes s.1 in
      ⊎_elim {C = Reaches (and f g) p n}
      (λ second.
      let r = (lg s.0.0).fails s.0.1 n (taken_bytes f p s.0.0 s.0.1 t bytes) second in
      let j = concat-append (f.fields s.0.0) r.before in
      record {
        value = (s.0.0, r.value);
        fits = (t.fits, r.fits);
        before = f.fields s.0.0 ++ r.before;
        after = r.after;
        fields = ap (λ (x : List (List ℕ)). f.fields s.0.0 ++ x) r.fields ∙ sym (append_assoc (f.fields s.0.0) r.before r.after);
        rest = r.rest;
        bytes = t.rest ∙ ap (λ (x : List ℕ). spelling f s.0.0 ++ x) r.bytes ∙ sym (append_assoc (spelling f s.0.0) (concat r.before) r.rest) ∙ ap (λ (x : List ℕ). x ++ r.rest) (sym j);
        at = let e2 = ap length j in let l = length-append (spelling f s.0.0) (concat r.before) in let a = r.at in let b = t.at in omega (arith, e2, l, a, b);
      })
      (λ w. absurd (done_not_failed ((s.0.0, w.0.0), w.0.1) n w.2))
      (bind_err ((g s.0.0).read s.0.1) (last s.0.0) n s.2))
      (bind_err (f.read p) rest_of n e)

  and_bound : (p : Cursor) (n : ℕ) → Reaches (and f g) p n → n ≤ reach ((and f g).read p)
  and_bound p n r =
      let a : A = r.value.0 in
      let b : B = r.value.1 in
      ⊎_elim {C = n ≤ reach ((and f g).read p)}
      (λ s.
      let first = lf.bound p n (record { value = a; fits = r.fits.0; before = r.before; after = s.0; fields = s.1; rest = r.rest; bytes = r.bytes; at = r.at }) in
      let more = reach-more (f.read p) rest_of (λ x. let o = onward (g x.0) (lg x.0) x.1 in let d = reach-done ((g x.0).read x.1) (paired x.0) in omega (arith, o, d)) in
      omega (arith, first, more))
      (λ s.
      let t : List (List ℕ) = s.0 in
      let whole : concat r.before ≡ spelling f a ++ concat t = ap concat s.1 ∙ concat-append (f.fields a) t in
      let m : Cursor = record { at = p.at + length (spelling f a); rest = concat t ++ r.rest } in
      let k = lf.again p a (concat t ++ r.rest) r.fits.0 (r.bytes ∙ ap (λ (x : List ℕ). x ++ r.rest) whole ∙ append_assoc (spelling f a) (concat t) r.rest) in
      let at : n ≡ m.at + length (concat t) = let e2 = ap length whole in let l = length-append (spelling f a) (concat t) in let x = r.at in omega (arith, e2, l, x) in
      let second = (lg a).bound m n (record { value = b; fits = r.fits.1; before = t; after = r.after; fields = s.2; rest = r.rest; bytes = refl; at = at }) in
      let d = reach-done ((g a).read m) (paired a) in
      let e : reach ((and f g).read p) ≡ reach (rest_of (a, m)) = ap (λ x. reach (x >>= rest_of)) k in
      omega (arith, second, d, e))
      (parted (f.fields a) ((g a).fields b) r.before r.after r.fields)

  pub and_format : IsFormat (and f g)
  and_format = record { some = (lf.some, (lg lf.some).some); some_fits = (lf.some_fits, (lg lf.some).some_fits); reads_value = and_takes; again = and_again; fails = and_fails; bound = and_bound }

-- ---- the same fields for other values

-- the second format reads and spells as the first does, converted by a function
pub record IsMapped {A X : Type 0} (f : Format A) (h : Format X) (to : A → X) : Type 0 where
  pub read : (p : Cursor) → h.read p ≡ (f.read p >>= λ a. done (to a.0, a.1))
  pub fits : (a : A) → f.fits a → h.fits (to a)
  pub fields : (a : A) → f.fits a → h.fields (to a) ≡ f.fields a
  pub back : (x : X) → h.fits x → (a : A) × f.fits a × (to a ≡ x)

module _ {A X : Type 0} (f : Format A) (h : Format X) (to : A → X) (law : IsFormat f) (mapped : IsMapped f h to) where
  abbrev stays : A × Cursor → Read X
  stays a = done (to a.0, a.1)

  same_spelling : (a : A) → f.fits a → spelling h (to a) ≡ spelling f a
  same_spelling a k = ap concat (mapped.fields a k)

  mapped_takes : (p q : Cursor) (x : X) → AreBytes p.rest → h.read p ≡ Ok (x, q) → ReadsValue h p x q
  mapped_takes p q x bytes e =
      let s = bind_ok (f.read p) stays (x, q) (sym (mapped.read p) ∙ e) in
      let t = law.reads_value p s.0.1 s.0.0 bytes s.1 in
      let w = same_spelling s.0.0 t.fits in
      subst (λ (r : X × Cursor). ReadsValue h p r.0 r.1) (ok_is (to s.0.0, s.0.1) (x, q) s.2)
      (record { fits = mapped.fits s.0.0 t.fits; rest = t.rest ∙ ap (λ (y : List ℕ). y ++ s.0.1.rest) (sym w); at = t.at ∙ ap (λ (y : List ℕ). p.at + length y) (sym w) })

  mapped_again : (p : Cursor) (x : X) (rest : List ℕ) → h.fits x → p.rest ≡ spelling h x ++ rest → h.read p ≡ Ok (x, record { at = p.at + length (spelling h x); rest = rest })
  mapped_again p x rest k e =
      let b = mapped.back x k in
      let w : spelling h x ≡ spelling f b.0 = ap (spelling h) (sym b.2) ∙ same_spelling b.0 b.1 in
      let r = law.again p b.0 rest b.1 (e ∙ ap (λ (y : List ℕ). y ++ rest) w) in
      mapped.read p ∙ ap (λ y. y >>= stays) r ∙ ap₂ (λ (y : X) (z : List ℕ). done (y, record { at = p.at + length z; rest = rest })) b.2 (sym w)

  mapped_fails : (p : Cursor) (n : ℕ) → AreBytes p.rest → h.read p ≡ Err n → Reaches h p n
  mapped_fails p n bytes e =
      ⊎_elim {C = Reaches h p n}
      (λ s. let r = law.fails p n bytes s in
      record { value = to r.value; fits = mapped.fits r.value r.fits; before = r.before; after = r.after; fields = mapped.fields r.value r.fits ∙ r.fields; rest = r.rest; bytes = r.bytes; at = r.at })
      (λ s. absurd (done_not_failed (to s.0.0, s.0.1) n s.2))
      (bind_err (f.read p) stays n (sym (mapped.read p) ∙ e))

  mapped_bound : (p : Cursor) (n : ℕ) → Reaches h p n → n ≤ reach (h.read p)
  mapped_bound p n r =
      let b = mapped.back r.value r.fits in
      let s = law.bound p n (record { value = b.0; fits = b.1; before = r.before; after = r.after; fields = sym (mapped.fields b.0 b.1) ∙ ap (λ y. h.fields y) b.2 ∙ r.fields; rest = r.rest; bytes = r.bytes; at = r.at }) in
      let d = reach-done (f.read p) (λ y. to y.0) in
      let e = ap reach (mapped.read p) in
      omega (arith, s, d, e)

  pub mapped_format : IsFormat h
  mapped_format = record { some = to law.some; some_fits = mapped.fits law.some law.some_fits; reads_value = mapped_takes; again = mapped_again; fails = mapped_fails; bound = mapped_bound }

-- by functions there and back
pub iso_format : {A X : Type 0} (f : Format A) (to : A → X) (from : X → A) → IsFormat f → ((a : A) → f.fits a → from (to a) ≡ a) → ((x : X) → to (from x) ≡ x) → IsFormat (iso f to from)
iso_format f to from law there back = mapped_format f (iso f to from) to law (record {
  read = λ p. refl;
  fits = λ a k. subst f.fits (sym (there a k)) k;
  fields = λ a k. ap (λ y. f.fields y) (there a k);
  back = λ x k. (from x, k, back x);
})

-- ---- one for each

module _ {X Y : Type 0} (f : Y → Format X) (law : (y : Y) → IsFormat (f y)) where
  abbrev with_first : X × List X → List X
  with_first a = a.0 ∷ a.1

  after_first : (x : X × Cursor) (r : Read (List X)) → ◌>>=◌ {B = List X × Cursor} r (λ xs. done (x.0 ∷ xs.0, xs.1)) ≡ ◌>>=◌ {A = (X × List X) × Cursor} (r >>= λ xs. done ((x.0, xs.0), xs.1)) (λ a. done (with_first a.0, a.1))
  after_first x (Ok xs) = refl
  after_first x (Err n) = refl

  reassociated : (r : Read X) (k : X × Cursor → Read (List X)) → ◌>>=◌ {B = List X × Cursor} r (λ x. k x >>= λ xs. done (x.0 ∷ xs.0, xs.1)) ≡ ◌>>=◌ {A = (X × List X) × Cursor} (r >>= λ x. k x >>= λ xs. done ((x.0, xs.0), xs.1)) (λ a. done (with_first a.0, a.1))
  reassociated (Ok x) k = after_first x (k x)
  reassociated (Err n) k = refl

  abbrev nil : List X
  nil = []

  none_back : (xs : List X) → (along f []).fits xs → nil ≡ xs
  none_back [] k = refl
  none_back (x ∷ xs) k = absurd k

  none_format : IsFormat (along f [])
  none_format = mapped_format (nothing zero) (along f []) (λ (u : ℕ). nil) (nothing_format zero) (record {
    read = λ p. refl;
    fits = λ a k. tt;
    fields = λ a k. refl;
    back = λ xs k. (zero, refl, none_back xs k);
  })

  uncons : (y : Y) (ys : List Y) (xs : List X) → (along f (y ∷ ys)).fits xs → (a : X × List X) × ((f y).fits a.0 × (along f ys).fits a.1) × (with_first a ≡ xs)
  uncons y ys [] k = absurd k
  uncons y ys (x ∷ xs) k = ((x, xs), k, refl)

  pub along_format : (ys : List Y) → IsFormat (along f ys)
  along_format [] = none_format
  along_format (y ∷ ys) = mapped_format (and (f y) (λ (x : X). along f ys)) (along f (y ∷ ys)) with_first (and_format (f y) (λ (x : X). along f ys) (law y) (λ x. along_format ys)) (record {
    read = λ p. reassociated ((f y).read p) (λ x. read_along f ys x.1);
    fits = λ a k. k;
    fields = λ a k. refl;
    back = λ xs k. uncons y ys xs k;
  })

-- n values, and their number

pub times_format : {X : Type 0} (f : Format X) → IsFormat f → (n : ℕ) → IsFormat (times n f)
times_format f law n = along_format (λ (i : ℕ). f) (λ i. law) (replicate n 0)

pub counted_format : {X : Type 0} (w : Width) (f : Format X) → IsFormat (number w) → IsFormat f → IsFormat (list_of w f)
counted_format {X} w f wide law =
    iso_format (and (number w) (λ n. times n f)) (λ (a : ℕ × List X). a.1) (λ (xs : List X). (length xs, xs)) (and_format (number w) (λ n. times n f) wide (λ n. times_format f law n))
    (λ a k. let e : length a.1 ≡ a.0 = AllZip-long (λ (i : ℕ). f.fits) (replicate a.0 0) a.1 k.1 ∙ length-replicate a.0 0 in ap (λ (n : ℕ). (n, a.1)) e) (λ xs. refl)
