-- Bytes that are consumed one after another, and the counts of a source over several calls.
use Rattle.std.proofs.Common.{◌≡◌, ℕ, ℤ, ◌+◌, ◌<◌, true, false, ltb, List, [], ◌++◌, length, Option, Some, None, Result, Ok, Err, refl, sym, ap, ap₂, ◌∙◌, append_assoc, arith, length-append}
use Rattle.std.specs.Prelude.{IsSome}
use Rattle.std.specs.Int.{Width, w64, byte_len, from_be_bytes, cast_signed}
use Rattle.std.specs.Str.{IsUtf8, is_utf8}
use Rattle.std.proofs.lemmas.Str.{IsUtf8-from_is_utf8, is_utf8-from_IsUtf8}
use Rattle.ts_core.specs.facts.Facts.{Text}
use Rattle.std.proofs.lemmas.Bool.{lt-ltb, le-ltb}
use Rattle.std.proofs.lemmas.List.{take_at, drop_at}
use Rattle.std.specs.Io.KnownBytes.{Consumes}
use Rattle.ts_core.specs.io.Devices.{Input}
use Rattle.ts_core.specs.io.ReadingAhead.{Ahead, EndIsEnd}
use Rattle.ts_core.proofs.io.ReadCounts.{no_read_counts, reads_count_on}
use Rattle.ts_image.specs.declared.field_fault.FieldFault.{FieldFault}
use Rattle.ts_image.specs.declared.field_fault.FieldFault.TheVariants.{Misshapen, Device, TooManyReads, OutOfMemory}
use Rattle.ts_core.specs.text.Steps.{◌>>=◌}
use Rattle.ts_image.specs.Formats.{Cursor, read_number, number, signed_number, read_text, text}
use Rattle.ts_image.specs.FieldReading.{FieldsRead, bytes_to_come, known_bytes, cursor_of, IsKnown, one_if_failed, CallsSource, UsesBytes, ReadsField}
use Rattle.ts_image.proofs.Fields.{done, failed}

consumes_more : (a b c : Option (List ℕ)) (xs ys : List ℕ) → Consumes a b xs → Consumes b c ys → Consumes a c (xs ++ ys)
consumes_more None b c xs ys p q = tt
consumes_more (Some x) None c xs ys p q = absurd p
consumes_more (Some x) (Some y) None xs ys p q = absurd q
consumes_more (Some x) (Some y) (Some z) xs ys p q = p ∙ ap (λ (t : List ℕ). xs ++ t) q ∙ sym (append_assoc xs ys z)

pub uses_more : (a b c : FieldsRead) (s t u : Input) (xs ys : List ℕ) → UsesBytes a s xs b t → UsesBytes b t ys c u → UsesBytes a s (xs ++ ys) c u
uses_more a b c s t u xs ys p q = record {
  used = consumes_more (bytes_to_come a s) (bytes_to_come b t) (bytes_to_come c u) xs ys p.used q.used;
  at = let x = p.at in let y = q.at in let l = length-append xs ys in omega (arith, x, y, l);
}

consumes_none : (a : Option (List ℕ)) → Consumes a a []
consumes_none None = tt
consumes_none (Some x) = refl

pub uses_none : (a : FieldsRead) (s : Input) → UsesBytes a s [] a s
uses_none a s = record { used = consumes_none (bytes_to_come a s); at = let e : a.at ≡ a.at + 0 = omega arith in e }

-- known bytes stay known
known_after : (a b : Option (List ℕ)) (xs : List ℕ) → Consumes a b xs → IsSome a → IsSome b
known_after None b xs p k = absurd cc
known_after (Some x) None xs p k = absurd p
known_after (Some x) (Some y) xs p k = refl

pub stays_known : (a b : FieldsRead) (s t : Input) (xs : List ℕ) → UsesBytes a s xs b t → IsKnown a s → IsKnown b t
stays_known a b s t xs p k = known_after (bytes_to_come a s) (bytes_to_come b t) xs p.used k

front_known : (a b : Option (List ℕ)) (xs : List ℕ) → Consumes a b xs → IsSome a → known_bytes a ≡ xs ++ known_bytes b
front_known None b xs p k = absurd cc
front_known (Some x) None xs p k = absurd p
front_known (Some x) (Some y) xs p k = p

pub front_of : (a b : FieldsRead) (s t : Input) (xs : List ℕ) → UsesBytes a s xs b t → IsKnown a s → (cursor_of a s).rest ≡ xs ++ (cursor_of b t).rest
front_of a b s t xs p k = front_known (bytes_to_come a s) (bytes_to_come b t) xs p.used k

-- ---- the counts of a source

-- a call that has gone well so far
abbrev pub nothing_yet : Result (Unit {0}) FieldFault
nothing_yet = Ok tt

pub calls_nothing : (a : Ahead) (s : Input) → EndIsEnd a s → CallsSource a s nothing_yet a s
calls_nothing a s end = record { end = end; allowed = refl; within = λ h. h; spent = λ h. cc; failures = omega arith; reads = omega arith; ends = refl; each = no_read_counts s }

abbrev pub fine : {X : Type 0} → X → Result X FieldFault
fine x = Ok x

abbrev pub faulty : (X : Type 0) → FieldFault → Result X FieldFault
faulty X e = Err e

module _ {X Y : Type 0} where
  pub calls_more : (a b c : Ahead) (s t u : Input) (x : X) (r : Result Y FieldFault) → CallsSource a s (fine x) b t → CallsSource b t r c u → CallsSource a s r c u
  calls_more a b c s t u x r p q = record {
    end = q.end;
    allowed = q.allowed ∙ p.allowed;
    within = λ h. q.within (p.within h);
    spent = q.spent;
    failures = let f = p.failures in let g = q.failures in omega (arith, f, g);
    reads = let f = p.reads in let g = q.reads in omega (arith, f, g);
    ends = let f = p.ends in let g = q.ends in omega (arith, f, g);
    each = reads_count_on s t u p.each q.each;
  }

module _ (X Y : Type 0) where
  err_same : (e d : FieldFault) → faulty Y e ≡ Err d → faulty X e ≡ Err d
  err_same e d h = let k : e ≡ d = cc in ap (faulty X) k

  failures_same : (e : FieldFault) → one_if_failed (faulty X e) ≡ one_if_failed (faulty Y e)
  failures_same (Misshapen n) = refl
  failures_same Device = refl
  failures_same TooManyReads = refl
  failures_same OutOfMemory = refl

  -- a fault that is passed on
  pub calls_on : (a b : Ahead) (s t : Input) (e : FieldFault) → CallsSource a s (faulty X e) b t → CallsSource a s (faulty Y e) b t
  calls_on a b s t e p = record {
    end = p.end;
    allowed = p.allowed;
    within = p.within;
    spent = λ h. p.spent (err_same e TooManyReads h);
    failures = p.failures ∙ ap (λ n. s.failures + n) (failures_same e);
    reads = p.reads;
    ends = p.ends;
    each = p.each;
  }

not_turns : {X : Type 0} (n : ℕ) → faulty X (Misshapen n) ≡ Err TooManyReads → ⊥
not_turns n h = cc

no_memory_not_turns : {X : Type 0} → faulty X OutOfMemory ≡ Err TooManyReads → ⊥
no_memory_not_turns h = cc

fine_not : {X : Type 0} (x : X) → fine x ≡ Err TooManyReads → ⊥
fine_not x h = cc

-- another end of a call that went well so far
pub calls_as : {X : Type 0} (Y : Type 0) (a b : Ahead) (s t : Input) (x : X) (n : ℕ) → CallsSource a s (fine x) b t → CallsSource a s (faulty Y (Misshapen n)) b t
calls_as Y a b s t x n p = record { end = p.end; allowed = p.allowed; within = p.within; spent = λ h. absurd (not_turns n h); failures = p.failures; reads = p.reads; ends = p.ends; each = p.each }

pub calls_unless : {X : Type 0} (Y : Type 0) (a b : Ahead) (s t : Input) (x : X) → CallsSource a s (fine x) b t → CallsSource a s (faulty Y OutOfMemory) b t
calls_unless Y a b s t x p = record { end = p.end; allowed = p.allowed; within = p.within; spent = λ h. absurd (no_memory_not_turns h); failures = p.failures; reads = p.reads; ends = p.ends; each = p.each }

pub calls_ok : {X Y : Type 0} (a b : Ahead) (s t : Input) (x : X) (y : Y) → CallsSource a s (fine x) b t → CallsSource a s (fine y) b t
calls_ok a b s t x y p = record { end = p.end; allowed = p.allowed; within = p.within; spent = λ h. absurd (fine_not y h); failures = p.failures; reads = p.reads; ends = p.ends; each = p.each }

-- ---- numbers

-- bytes that were used are read as a number
pub number_read : (w : Width) (a b : FieldsRead) (s t : Input) (bytes : List ℕ) → length bytes ≡ byte_len w → UsesBytes a s bytes b t → IsKnown a s → read_number w (cursor_of a s) ≡ Ok (from_be_bytes w bytes, cursor_of b t)
number_read w a b s t bytes len u k =
    let rest : List ℕ = (cursor_of b t).rest in
    let front = front_of a b s t bytes u k in
    let long : ltb (length (bytes ++ rest)) (byte_len w) ≡ false = le-ltb _ _ (omega (arith, length-append bytes rest)) in
    let at : a.at + byte_len w ≡ b.at = let e = u.at in omega (arith, e, len) in
    ap (λ (x : List ℕ). read_number w (record { at = a.at; rest = x })) front
    ∙ rw (long, take_at bytes rest (byte_len w) len, drop_at bytes rest (byte_len w) len, at) refl

pub number_short : (w : Width) (p : Cursor) (buffer : List ℕ) (n : ℕ) → length buffer ≡ byte_len w → n ≡ p.at → length p.rest < length buffer → read_number w p ≡ Err n
number_short w p buffer n len e short =
    let less : ltb (length p.rest) (byte_len w) ≡ true = lt-ltb _ _ (omega (arith, short, len)) in
    rw less (ap (λ (m : ℕ). failed m) (sym e))

pub signed_reads : (w : Width) (a b : FieldsRead) (s t : Input) (bytes : List ℕ) → length bytes ≡ byte_len w → UsesBytes a s bytes b t → CallsSource a.ahead s nothing_yet b.ahead t → ReadsField (signed_number w) (λ (z : ℤ). z) a s (fine (cast_signed w (from_be_bytes w bytes))) b t
signed_reads w a b s t bytes len u q = record { stays = λ k. stays_known a b s t bytes u k; value = λ k. ap (λ r. r >>= λ n. done (cast_signed w n.0, n.1)) (number_read w a b s t bytes len u k); calls = calls_ok a.ahead b.ahead s t tt (cast_signed w (from_be_bytes w bytes)) q }

-- ---- texts

text_made : (p m q : Cursor) (n : ℕ) (bytes : List ℕ) → read_number w64 p ≡ Ok (n, m) → m.rest ≡ bytes ++ q.rest → length bytes ≡ n → q.at ≡ m.at + length bytes → IsUtf8 bytes → text.read p ≡ Ok (bytes, q)
text_made p m q n bytes e rest len at u =
    let long : ltb (length (bytes ++ q.rest)) (length bytes) ≡ false = le-ltb _ _ (omega (arith, length-append bytes q.rest)) in
    let here : m ≡ record { at = m.at; rest = bytes ++ q.rest } = ap (λ (x : List ℕ). record { at = m.at; rest = x }) rest in
    let there : read_text p (length bytes, record { at = m.at; rest = bytes ++ q.rest }) ≡ Ok (bytes, q) =
    rw (long, take_at bytes q.rest (length bytes) refl, drop_at bytes q.rest (length bytes) refl, is_utf8-from_IsUtf8 bytes u) (ap (λ (x : ℕ). done (bytes, record { at = x; rest = q.rest })) (sym at)) in
    ap (λ r. r >>= read_text p) e ∙ ap₂ (λ (x : ℕ) (y : Cursor). read_text p (x, y)) (sym len) here ∙ there

text_bad : (p m q : Cursor) (n : ℕ) (bytes : List ℕ) → read_number w64 p ≡ Ok (n, m) → m.rest ≡ bytes ++ q.rest → length bytes ≡ n → (IsUtf8 bytes → ⊥) → text.read p ≡ Err p.at
text_bad p m q n bytes e rest len not_text =
    let long : ltb (length (bytes ++ q.rest)) (length bytes) ≡ false = le-ltb _ _ (omega (arith, length-append bytes q.rest)) in
    let here : m ≡ record { at = m.at; rest = bytes ++ q.rest } = ap (λ (x : List ℕ). record { at = m.at; rest = x }) rest in
    let bad : is_utf8 bytes ≡ false = elim (is_utf8 bytes) as (λ b. is_utf8 bytes ≡ b → b ≡ false) [ true ↦ λ y. absurd (not_text (IsUtf8-from_is_utf8 bytes y)) | false ↦ λ y. refl ] refl in
    let there : read_text p (length bytes, record { at = m.at; rest = bytes ++ q.rest }) ≡ Err p.at = rw (long, take_at bytes q.rest (length bytes) refl, bad) refl in
    ap (λ r. r >>= read_text p) e ∙ ap₂ (λ (x : ℕ) (y : Cursor). read_text p (x, y)) (sym len) here ∙ there

text_cut : (p m : Cursor) (n : ℕ) → read_number w64 p ≡ Ok (n, m) → length m.rest < n → text.read p ≡ Err p.at
text_cut p m n e short =
    let less : ltb (length m.rest) n ≡ true = lt-ltb _ _ short in
    let there : read_text p (n, m) ≡ Err p.at = rw less refl in
    ap (λ r. r >>= read_text p) e ∙ there

module _ {X : Type 0} (view : X → Text) (a b c : FieldsRead) (s t u : Input) (n : ℕ) (first : ReadsField (number w64) (λ (m : ℕ). m) a s (fine n) b t) where
  pub text_reads : (bytes : List ℕ) (x : X) → UsesBytes b t bytes c u → length bytes ≡ n → IsUtf8 bytes → view x ≡ bytes → CallsSource b.ahead t (fine true) c.ahead u → ReadsField text view a s (fine x) c u
  text_reads bytes x uses len ok e q = record {
    stays = λ k. stays_known b c t u bytes uses (first.stays k);
    value = λ k. text_made (cursor_of a s) (cursor_of b t) (cursor_of c u) n bytes (first.value k) (front_of b c t u bytes uses (first.stays k)) len uses.at ok ∙ ap (λ (y : Text). done (y, cursor_of c u)) (sym e);
    calls = calls_more a.ahead b.ahead c.ahead s t u n (fine x) first.calls (calls_ok b.ahead c.ahead t u true x q);
  }

  pub text_is_none : (bytes : List ℕ) → UsesBytes b t bytes c u → length bytes ≡ n → (IsUtf8 bytes → ⊥) → CallsSource b.ahead t (fine true) c.ahead u → (at : ℕ) → at ≡ a.at → ReadsField text view a s (faulty X (Misshapen at)) c u
  text_is_none bytes uses len not_text q at same = record {
    stays = λ k. tt;
    value = λ k. text_bad (cursor_of a s) (cursor_of b t) (cursor_of c u) n bytes (first.value k) (front_of b c t u bytes uses (first.stays k)) len not_text ∙ ap (λ (m : ℕ). failed m) (sym same);
    calls = calls_more a.ahead b.ahead c.ahead s t u n (faulty X (Misshapen at)) first.calls (calls_as X b.ahead c.ahead t u true at q);
  }
