-- An image without contradictions: it has no fault and is of only one data.
use Rattle.std.proofs.Common.{◌≡◌, ◌+◌, ℕ, List, [], ◌∷◌, ◌++◌, length, take, refl, sym, ap, subst, ◌∙◌, ⊎_elim, arith}
use Rattle.std.specs.Prelude.{◌≢◌}
use Rattle.std.proofs.lemmas.List.{append-nil}
use Rattle.ts_image.specs.declared.load_fault.LoadFault.{LoadFault}
use Rattle.ts_image.specs.declared.load_fault.LoadFault.TheVariants.{NotAnImage, OtherVersion, Misshapen, Contradiction, Device, TooManyReads, OutOfMemory}
use Rattle.ts_image.specs.Formats.{Cursor, Format, spelling}
use Rattle.ts_image.specs.FormatLaws.{IsMisshapen, IsFormat}
use Rattle.ts_image.specs.declared.version.Version.{Version}
use Rattle.ts_image.specs.declared.version.Version.TheVariants.{V1, V2}
use Rattle.ts_image.specs.Images.{ImageData, image, image_mark, version_byte, body}
use Rattle.ts_image.specs.ImageTests.{IsPossible}
use Rattle.ts_image.specs.ImageFaults.{IsImageOf, IsFaultOf, IsOfBytes, AreUnambiguous}
use Rattle.ts_image.proofs.Fields.{ok_is}
use Rattle.ts_image.proofs.ImageForms.{image_format}

same_byte : (b c : ℕ) (bs cs : List ℕ) → image_mark ++ (b ∷ bs) ≡ image_mark ++ (c ∷ cs) → (b ≡ c) × (bs ≡ cs)
same_byte b c bs cs e = (cc, cc)

not_short : (b : ℕ) (bs : List ℕ) → image_mark ≡ image_mark ++ (b ∷ bs) → ⊥
not_short b bs e = cc

same_version : (v w : Version) → version_byte v ≡ version_byte w → v ≡ w
same_version V1 V1 e = refl
same_version V2 V2 e = refl
same_version V1 V2 e = absurd (omega arith)
same_version V2 V1 e = absurd (omega arith)

-- a spelling is one value's
one_value : {X : Type 0} (f : Format X) → IsFormat f → (x y : X) → f.fits x → f.fits y → spelling f x ≡ spelling f y → x ≡ y
one_value {X} f law x y p q e =
    let here : Cursor = record { at = 0; rest = spelling f x } in
    let a = law.again here x [] p (sym (append-nil (spelling f x))) in
    let b = law.again here y [] q (e ∙ sym (append-nil (spelling f y))) in
    ap (λ (r : X × Cursor). r.0) (ok_is (x, record { at = 0 + length (spelling f x); rest = [] }) (y, record { at = 0 + length (spelling f y); rest = [] }) (sym a ∙ b))

never_other : (v : Version) → version_byte v ≢ 1 → version_byte v ≢ 2 → ⊥
never_other V1 a b = a refl
never_other V2 a b = b refl

same_image : (v w : Version) (d e : ImageData) (bytes : List ℕ) → IsImageOf v d bytes → IsImageOf w e bytes → (w ≡ v) × (spelling (image w) e ≡ spelling (image v) d)
same_image v w d e bytes p q =
    let s = same_byte (version_byte w) (version_byte v) (spelling (image w) e) (spelling (image v) d) (sym q.text ∙ p.text) in (same_version w v s.0, s.1)

same_data : (v w : Version) (d e : ImageData) → w ≡ v → (image v).fits d → (image w).fits e → spelling (image w) e ≡ spelling (image v) d → e ≡ d
same_data V1 V1 d e s p q h = one_value (image V1) (image_format V1) e d q p h
same_data V2 V2 d e s p q h = one_value (image V2) (image_format V2) e d q p h
same_data V1 V2 d e s p q h = absurd (let n : 2 ≡ 1 = ap version_byte s in omega arith)
same_data V2 V1 d e s p q h = absurd (let n : 1 ≡ 2 = ap version_byte s in omega arith)

misshapen_not : (v w : Version) (d : ImageData) (rest : List ℕ) (n : ℕ) → w ≡ v → (image v).fits d → rest ≡ spelling (image v) d → IsMisshapen (image w) (body rest) n → ⊥
misshapen_not V1 V1 d rest n s p h m = m.none d p h
misshapen_not V2 V2 d rest n s p h m = m.none d p h
misshapen_not V1 V2 d rest n s p h m = absurd (let k : 2 ≡ 1 = ap version_byte s in omega arith)
misshapen_not V2 V1 d rest n s p h m = absurd (let k : 1 ≡ 2 = ap version_byte s in omega arith)

possible_as : (v w : Version) (d e : ImageData) → w ≡ v → e ≡ d → IsPossible v d → IsPossible w e
possible_as v w d e s t p = subst (λ (x : Version). IsPossible x e) (sym s) (subst (λ (x : ImageData). IsPossible v x) (sym t) p)

no_fault : (v : Version) (d : ImageData) (bytes : List ℕ) → IsImageOf v d bytes → IsPossible v d → (fault : LoadFault) → IsOfBytes fault → IsFaultOf bytes fault → ⊥
no_fault v d bytes p q NotAnImage o f = f (ap (take 4) p.text)
no_fault v d bytes p q OtherVersion o f =
    let s = same_byte f.0 (version_byte v) f.1 (spelling (image v) d) (sym f.2 ∙ p.text) in
    never_other v (λ e. f.3 (s.0 ∙ e)) (λ e. f.4 (s.0 ∙ e))
no_fault v d bytes p q (Misshapen n) o f =
    ⊎_elim {C = ⊥} (λ short. not_short (version_byte v) (spelling (image v) d) (sym short.0 ∙ p.text))
    (λ m.
    let s = same_byte (version_byte m.0) (version_byte v) m.1 (spelling (image v) d) (sym m.2 ∙ p.text) in
    misshapen_not v m.0 d m.1 n (same_version m.0 v s.0) p.fits s.1 m.3) f
no_fault v d bytes p q Contradiction o f =
    let s = same_image v f.0 d f.1 bytes p f.2 in
    f.3 (possible_as v f.0 d f.1 s.0 (same_data v f.0 d f.1 s.0 p.fits f.2.fits s.1) q)
no_fault v d bytes p q Device o f = o
no_fault v d bytes p q TooManyReads o f = o
no_fault v d bytes p q OutOfMemory o f = o

pub are_unambiguous : AreUnambiguous
are_unambiguous v d bytes p q = (
  no_fault v d bytes p q,
  λ w e r. let s = same_image v w d e bytes p r in (s.0, same_data v w d e s.0 p.fits r.fits s.1),
)
