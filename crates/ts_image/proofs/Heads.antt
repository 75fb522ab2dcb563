-- The first bytes of an input, one after another.
use Rattle.std.proofs.Common.{◌≡◌, ℕ, ◌+◌, true, false, not, ltb, List, [], ◌∷◌, ◌++◌, length, take, Ok, Err, refl, sym, ap, ap₂, ◌∙◌, arith, w8}
use Rattle.std.specs.Prelude.{◌≢◌}
use Rattle.std.specs.Int.{from_be_bytes}
use Rattle.std.specs.Str.{bytes_eq}
use Rattle.std.proofs.lemmas.Bool.{le-ltb}
use Rattle.std.proofs.lemmas.List.{take_at, append-nil}
use Rattle.ts_core.proofs.facts.Ids.{same_text-eq}
use Rattle.ts_core.proofs.lists.Comparisons.{same_text-from_eq}
use Rattle.ts_core.specs.io.Devices.{Input}
use Rattle.ts_image.specs.declared.version.Version.{Version}
use Rattle.ts_image.specs.declared.read.image.Head.{Head}
use Rattle.ts_image.specs.declared.read.image.Head.TheVariants as head
use Rattle.ts_image.specs.declared.field_fault.FieldFault.{FieldFault}
use Rattle.ts_image.specs.declared.field_fault.FieldFault.TheVariants.{Misshapen, Device, TooManyReads, OutOfMemory}
use Rattle.ts_image.specs.Formats.{Cursor, read_number, number}
use Rattle.ts_image.specs.Images.{image_mark, version_byte}
use Rattle.ts_image.specs.FieldReading.{FieldsRead, cursor_of, IsKnown, CallsSource, UsesBytes, GivesReading, ReadsField}
use Rattle.ts_image.specs.HeadReading.{GivesHead, ReadsImageHead}
use Rattle.ts_image.proofs.Fields.{done, failed, err_is, ok_is, done_not_failed}
use Rattle.ts_image.proofs.Reading.{fine, faulty, nothing_yet, front_of, stays_known, calls_more, calls_ok, calls_on}

pub not_same : (xs ys : List ℕ) → true ≡ not (bytes_eq xs ys) → xs ≡ ys → ⊥
not_same xs ys h e = let r = same_text-from_eq xs ys e in let z : true ≡ false = h ∙ ap not r in absurd cc

pub same_bytes : (xs ys : List ℕ) → false ≡ not (bytes_eq xs ys) → xs ≡ ys
same_bytes xs ys h = same_text-eq xs ys (elim (bytes_eq xs ys) as (λ b. false ≡ not b → b ≡ true) [ true ↦ λ k. refl | false ↦ λ k. absurd cc ] h)

failed_not_done : {A : Type 0} (n : ℕ) (x : A) → failed n ≡ done x → ⊥
failed_not_done n x e = cc

-- a number of one byte is that byte
read_first : (b : ℕ) (bs : List ℕ) (at : ℕ) → read_number w8 (record { at = at; rest = b ∷ bs }) ≡ done (b, record { at = at + 1; rest = bs })
read_first b bs at =
    let long : ltb (length (b ∷ bs)) 1 ≡ false = le-ltb _ _ (omega arith) in
    let e : from_be_bytes w8 (b ∷ []) ≡ b = omega arith in
    rw long (ap (λ (x : ℕ). done (x, record { at = at + 1; rest = bs })) e)

byte_there : (bytes : List ℕ) (at n : ℕ) (q : Cursor) → read_number w8 (record { at = at; rest = bytes }) ≡ Ok (n, q) → (bytes ≡ n ∷ q.rest) × (q.at ≡ at + 1)
byte_there [] at n q e = absurd (failed_not_done at (n, q) e)
byte_there (b ∷ bs) at n q e =
    let r : (b, record { at = at + 1; rest = bs }) ≡ (n, q) = ok_is (b, record { at = at + 1; rest = bs }) (n, q) (sym (read_first b bs at) ∙ e) in
    (ap (λ (x : ℕ × Cursor). x.0 ∷ x.1.rest) r, sym (ap (λ (x : ℕ × Cursor). x.1.at) r))

no_byte : (bytes : List ℕ) (at n : ℕ) → read_number w8 (record { at = at; rest = bytes }) ≡ Err n → (bytes ≡ []) × (n ≡ at)
no_byte [] at n e = (refl, sym (err_is {A = ℕ × Cursor} at n e))
no_byte (b ∷ bs) at n e = absurd (done_not_failed (b, record { at = at + 1; rest = bs }) n (sym (read_first b bs at) ∙ e))

module _ (a b : FieldsRead) (s t : Input) (buffer : List ℕ) (len : length buffer ≡ 4) (uses : UsesBytes a s buffer b t) (calls : CallsSource a.ahead s nothing_yet b.ahead t) where
  first_four : IsKnown a s → take 4 (cursor_of a s).rest ≡ buffer
  first_four k = ap (take 4) (front_of a b s t buffer uses k) ∙ take_at buffer (cursor_of b t).rest 4 len

  pub no_head : (buffer ≡ image_mark → ⊥) → ReadsImageHead a s (fine head.None) b t
  no_head other = record { stays = λ k. tt; value = λ k e. other (sym (first_four k) ∙ e); calls = calls_ok a.ahead b.ahead s t tt head.None calls }

  module _ (mark : buffer ≡ image_mark) (c : FieldsRead) (u : Input) where
    version_here : (n : ℕ) → ReadsField (number w8) (λ (m : ℕ). m) b t (fine n) c u → IsKnown a s → ((cursor_of a s).rest ≡ image_mark ++ (n ∷ (cursor_of c u).rest)) × ((cursor_of c u).at ≡ (cursor_of a s).at + 5)
    version_here n r k =
        let d = byte_there (cursor_of b t).rest b.at n (cursor_of c u) (r.value (stays_known a b s t buffer uses k)) in
        let e = uses.at in (
          front_of a b s t buffer uses k ∙ ap₂ (λ (x : List ℕ) (y : List ℕ). x ++ y) mark d.0,
          let f = d.1 in omega (arith, f, e, len),
        )

    pub head_of : (v : Version) (n : ℕ) → ReadsField (number w8) (λ (m : ℕ). m) b t (fine n) c u → n ≡ version_byte v → ReadsImageHead a s (fine (head.Of v)) c u
    head_of v n r e = record {
      stays = λ k. r.stays (stays_known a b s t buffer uses k);
      value = λ k. let h = version_here n r k in (h.0 ∙ ap (λ (x : ℕ). image_mark ++ (x ∷ (cursor_of c u).rest)) e, h.1);
      calls = calls_more a.ahead b.ahead c.ahead s t u tt (fine (head.Of v)) calls (calls_ok b.ahead c.ahead t u n (head.Of v) r.calls);
    }

    pub other_head : (n : ℕ) → ReadsField (number w8) (λ (m : ℕ). m) b t (fine n) c u → n ≢ 1 → n ≢ 2 → ReadsImageHead a s (fine head.Other) c u
    other_head n r e f = record {
      stays = λ k. tt;
      value = λ k. (n, (cursor_of c u).rest, (version_here n r k).0, e, f);
      calls = calls_more a.ahead b.ahead c.ahead s t u tt (fine head.Other) calls (calls_ok b.ahead c.ahead t u n head.Other r.calls);
    }

    cut_here : (e : FieldFault) → IsKnown a s → GivesReading (λ (m : ℕ). m) (faulty ℕ e) (cursor_of c u) (read_number w8 (cursor_of b t)) → GivesHead (faulty Head e) (cursor_of a s) (cursor_of c u)
    cut_here (Misshapen n) k g =
        let d = no_byte (cursor_of b t).rest b.at n g in
        let x = uses.at in
        let y = d.1 in
        (front_of a b s t buffer uses k ∙ ap₂ (λ (x : List ℕ) (y : List ℕ). x ++ y) mark d.0 ∙ append-nil image_mark, omega (arith, x, y, len))
    cut_here Device k g = tt
    cut_here TooManyReads k g = tt
    cut_here OutOfMemory k g = tt

    pub cut_head : (e : FieldFault) → ReadsField (number w8) (λ (m : ℕ). m) b t (faulty ℕ e) c u → ReadsImageHead a s (faulty Head e) c u
    cut_head e r = record {
      stays = λ k. tt;
      value = λ k. cut_here e k (r.value (stays_known a b s t buffer uses k));
      calls = calls_more a.ahead b.ahead c.ahead s t u tt (faulty Head e) calls (calls_on ℕ Head b.ahead c.ahead t u e r.calls);
    }
