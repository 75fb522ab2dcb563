-- All bytes of a source, read as an image.
use Rattle.std.proofs.Common.{◌≡◌, ◌≢◌, ℕ, ◌+◌, ◌≤◌, ◌<◌, Bool, true, false, cond, List, [], ◌∷◌, ◌++◌, length, take, drop, Option, Some, None, Result, Ok, Err, refl, sym, ap, subst, ◌∙◌, inl, inr, arith}
use Rattle.std.proofs.Math.Dec.{eqb-suc-zero}
use Rattle.std.specs.Prelude.{IsSome, IfSome, IfOk, IfErr}
use Rattle.std.specs.Io.KnownBytes.{prepend_known, IsAtEnd}
use Rattle.ts_core.specs.io.Devices.{Input}
use Rattle.ts_core.specs.io.ReadingAhead.{nothing_ahead, bit}
use Rattle.ts_core.proofs.io.ReadCounts.{no_read_counts}
use Rattle.ts_image.specs.declared.version.Version.{Version}
use Rattle.ts_image.specs.declared.field_fault.FieldFault.{FieldFault}
use Rattle.ts_image.specs.declared.field_fault.FieldFault.TheVariants as field
use Rattle.ts_image.specs.declared.load_fault.LoadFault.{LoadFault}
use Rattle.ts_image.specs.declared.load_fault.LoadFault.TheVariants.{NotAnImage, OtherVersion, Misshapen, Device, TooManyReads, OutOfMemory}
use Rattle.ts_image.specs.declared.read.image.Head.{Head}
use Rattle.ts_image.specs.declared.read.image.Head.TheVariants as head
use Rattle.ts_image.specs.declared.read.image.ImageParts.{ImageParts}
use Rattle.ts_image.specs.Formats.{Format, spelling, whole_reading, at_end, read_whole}
use Rattle.ts_image.specs.FormatLaws.{AreBytes, IsMisshapen, IsExact}
use Rattle.ts_image.specs.Images.{ImageData, image, image_mark, version_byte, body}
use Rattle.ts_image.specs.FieldReading.{FieldsRead, cursor_of, known_bytes, IsKnown, CallsSource, one_if_failed, GivesEnd, ReadsField}
use Rattle.ts_image.specs.HeadReading.{ReadsImageHead}
use Rattle.ts_image.specs.LoadFaults.{load_fault_of}
use Rattle.ts_image.specs.ImageFaults.{IsImageOf, IsFaultOf}
use Rattle.ts_image.specs.ImageReading.{image_of, GivesWhole, ReadsWhole, one_if_device_failed, LoadsParts}
use Rattle.ts_image.proofs.Fields.{done, failed, AreBytes-drop}
use Rattle.ts_image.proofs.Reading.{fine, faulty, calls_more, calls_on}
use Rattle.ts_image.proofs.Wholes.{exact}
use Rattle.ts_image.proofs.ImageForms.{image_format}

-- ---- up to the end

more_behind : {Y : Type 0} (y : Y) (at : ℕ) (rest : List ℕ) → 0 < length rest → at_end (y, record { at = at; rest = rest }) ≡ failed at
more_behind y at [] lt = absurd (omega arith)
more_behind {Y} y at (b ∷ bs) lt = ap (λ (x : Bool). cond x (done y) (failed at)) (eqb-suc-zero (length bs))

module _ {X Y : Type 0} (f : Format Y) (view : X → Y) (a b c : FieldsRead) (s t u : Input) (x : X) (r : ReadsField f view a s (fine x) b t) where
  goes_on_behind : (e : FieldFault) → IsKnown a s → GivesEnd (faulty (Unit {0}) e) (cursor_of b t) → GivesWhole view (faulty X e) (read_whole f (cursor_of a s))
  goes_on_behind (field.Misshapen n) k g = ap whole_reading (r.value k) ∙ more_behind (view x) b.at (cursor_of b t).rest g.1 ∙ ap (λ (m : ℕ). failed m) (sym g.0)
  goes_on_behind field.Device k g = tt
  goes_on_behind field.TooManyReads k g = tt
  goes_on_behind field.OutOfMemory k g = tt

  pub end_stops : (e : FieldFault) → (IsKnown b t → GivesEnd (faulty (Unit {0}) e) (cursor_of b t)) → CallsSource b.ahead t (faulty (Unit {0}) e) c.ahead u → ReadsWhole f view a s (faulty X e) c u
  end_stops e g q = record {
    value = λ k. goes_on_behind e k (g (r.stays k));
    ended = tt;
    calls = calls_more a.ahead b.ahead c.ahead s t u x (faulty X e) r.calls (calls_on (Unit {0}) X b.ahead c.ahead t u e q);
  }

-- ---- what a source's bytes are

out_not_turns : {T : Type 0} → (let r : Result T LoadFault = Err OutOfMemory in r ≡ Err TooManyReads) → ⊥
out_not_turns h = cc

none_not_turns : {T : Type 0} → (let r : Result T LoadFault = Err NotAnImage in r ≡ Err TooManyReads) → ⊥
none_not_turns h = cc

other_not_turns : {T : Type 0} → (let r : Result T LoadFault = Err OtherVersion in r ≡ Err TooManyReads) → ⊥
other_not_turns h = cc

fine_not_turns : {T : Type 0} (x : T) → (let r : Result T LoadFault = Ok x in r ≡ Err TooManyReads) → ⊥
fine_not_turns x h = cc

if_known : (o : Option (List ℕ)) (P : List ℕ → Type 0) → ((bytes : List ℕ) → o ≡ Some bytes → P bytes) → IfSome o P
if_known (Some bytes) P h = h bytes refl
if_known None P h = tt

rest_at_end : (buffered : List ℕ) (left : Option (List ℕ)) → IsAtEnd (prepend_known buffered left) → IsAtEnd left
rest_at_end buffered None h = tt
rest_at_end [] (Some y) h = h
rest_at_end (b ∷ bs) (Some y) h = cc

ended_of : (ended : Bool) → (bit ended ≡ 0 → ⊥) → ended ≡ true
ended_of true h = refl
ended_of false h = absurd (h refl)

abbrev pub before_all : ℕ → FieldsRead
before_all reads = record { ahead = nothing_ahead reads; at = 0 }

module _ (reads : ℕ) (s : Input) where
  known_all : (bytes : List ℕ) → s.remaining ≡ Some bytes → IsKnown (before_all reads) s
  known_all bytes e = subst (λ (o : Option (List ℕ)). IsSome (prepend_known [] o)) (sym e) refl

  all_rest : (bytes : List ℕ) → s.remaining ≡ Some bytes → bytes ≡ (cursor_of (before_all reads) s).rest
  all_rest bytes e = ap (λ (o : Option (List ℕ)). known_bytes (prepend_known [] o)) (sym e)

  module _ {T : Type 0} (r : Result T FieldFault) (c : FieldsRead) (u : Input) (q : CallsSource (nothing_ahead reads) s r c.ahead u) where
    turns_within : u.reads ≤ s.reads + reads
    turns_within = let w = q.within (omega arith) in let a = q.allowed in let t = q.reads in omega (arith, w, a, t)

    -- the end was read if the counts of ends differ
    rest_of : u.ends ≢ s.ends → IsAtEnd u.remaining
    rest_of h = rest_at_end c.ahead.buffered u.remaining (q.end (ended_of c.ahead.ended (let n = q.ends in λ z. h (omega (arith, n, z)))))

    all_spent : r ≡ Err field.TooManyReads → (u.reads ≡ s.reads + reads) × (u.ends ≡ s.ends)
    all_spent e =
        let w = q.spent e in
        let a = q.allowed in
        let t = q.reads in
        let n = q.ends in
        let z : bit c.ahead.ended ≡ 0 = ap bit w.1 in
        (let x = w.0 in omega (arith, x, a, t), omega (arith, n, z))

  same_failures : (X Y : Type 0) (e : FieldFault) → one_if_failed (faulty X e) ≡ one_if_device_failed {T = Y} (Err (load_fault_of e))
  same_failures X Y (field.Misshapen n) = refl
  same_failures X Y field.Device = refl
  same_failures X Y field.TooManyReads = refl
  same_failures X Y field.OutOfMemory = refl

  turns_alone : (X Y : Type 0) (e : FieldFault) → (let r : Result Y LoadFault = Err (load_fault_of e) in r ≡ Err TooManyReads) → faulty X e ≡ Err field.TooManyReads
  turns_alone X Y (field.Misshapen n) h = absurd cc
  turns_alone X Y field.Device h = absurd cc
  turns_alone X Y field.TooManyReads h = refl
  turns_alone X Y field.OutOfMemory h = absurd cc

  -- a fault of the bytes that was found there
  abbrev IsFoundAs : LoadFault → Type 0
  IsFoundAs e = IfSome s.remaining (λ bytes. AreBytes bytes → IsFaultOf bytes e)

  of_none : (e : LoadFault) → ((bytes : List ℕ) → IsFaultOf bytes e) → IsFoundAs e
  of_none e h = if_known s.remaining (λ bytes. AreBytes bytes → IsFaultOf bytes e) (λ bytes k w. h bytes)

  pub no_memory : {A : Type 0} → LoadsParts {A = A} s reads (Err OutOfMemory) s
  no_memory {A} = record {
    ok = tt;
    err = of_none OutOfMemory (λ bytes. tt);
    rest = λ h. absurd (h refl);
    failures = omega arith;
    ends = tt;
    within = omega arith;
    each = no_read_counts s;
    spent = λ h. absurd (out_not_turns {T = Version × ImageParts A} h);
  }

  module _ (A : Type 0) (b : FieldsRead) (t : Input) where
    loads_fault : (X : Type 0) (e : FieldFault) → IsFoundAs (load_fault_of e) → CallsSource (nothing_ahead reads) s (faulty X e) b.ahead t → LoadsParts {A = A} s reads (Err (load_fault_of e)) t
    loads_fault X e found q = record {
      ok = tt;
      err = found;
      rest = rest_of (faulty X e) b t q;
      failures = q.failures ∙ ap (λ (n : ℕ). s.failures + n) (same_failures X (Version × ImageParts A) e);
      ends = tt;
      within = turns_within (faulty X e) b t q;
      each = q.each;
      spent = λ h. all_spent (faulty X e) b t q (turns_alone X (Version × ImageParts A) e h);
    }

    head_found : (e : FieldFault) → ReadsImageHead (before_all reads) s (faulty Head e) b t → IsFoundAs (load_fault_of e)
    head_found (field.Misshapen n) h = if_known s.remaining (λ bytes. AreBytes bytes → IsFaultOf bytes (Misshapen n)) (λ bytes k w. let v = h.value (known_all bytes k) in inl (all_rest bytes k ∙ v.0, v.1))
    head_found field.Device h = of_none Device (λ bytes. tt)
    head_found field.TooManyReads h = of_none TooManyReads (λ bytes. tt)
    head_found field.OutOfMemory h = of_none OutOfMemory (λ bytes. tt)

    pub head_faults : (e : FieldFault) → ReadsImageHead (before_all reads) s (faulty Head e) b t → LoadsParts {A = A} s reads (Err (load_fault_of e)) t
    head_faults e h = loads_fault Head e (head_found e h) h.calls

    pub not_an_image : ReadsImageHead (before_all reads) s (fine head.None) b t → LoadsParts {A = A} s reads (Err NotAnImage) t
    not_an_image h = record {
      ok = tt;
      err = if_known s.remaining (λ bytes. AreBytes bytes → IsFaultOf bytes NotAnImage) (λ bytes k w e. h.value (known_all bytes k) (ap (take 4) (sym (all_rest bytes k)) ∙ e));
      rest = rest_of (fine head.None) b t h.calls;
      failures = h.calls.failures;
      ends = tt;
      within = turns_within (fine head.None) b t h.calls;
      each = h.calls.each;
      spent = λ z. absurd (none_not_turns {T = Version × ImageParts A} z);
    }

    pub other_version : ReadsImageHead (before_all reads) s (fine head.Other) b t → LoadsParts {A = A} s reads (Err OtherVersion) t
    other_version h = record {
      ok = tt;
      err = if_known s.remaining (λ bytes. AreBytes bytes → IsFaultOf bytes OtherVersion) (λ bytes k w. let v = h.value (known_all bytes k) in (v.0, v.1, all_rest bytes k ∙ v.2, v.3, v.4));
      rest = rest_of (fine head.Other) b t h.calls;
      failures = h.calls.failures;
      ends = tt;
      within = turns_within (fine head.Other) b t h.calls;
      each = h.calls.each;
      spent = λ z. absurd (other_not_turns {T = Version × ImageParts A} z);
    }

    module _ (v : Version) (h : ReadsImageHead (before_all reads) s (fine (head.Of v)) b t) (bytes : List ℕ) (known : s.remaining ≡ Some bytes) (are : AreBytes bytes) where
      abbrev left : List ℕ
      left = (cursor_of b t).rest

      known_here : IsKnown b t
      known_here = h.stays (known_all bytes known)

      text_is : bytes ≡ image_mark ++ (version_byte v ∷ left)
      text_is = all_rest bytes known ∙ (h.value (known_all bytes known)).0

      cursor_is : cursor_of b t ≡ body left
      cursor_is = ap (λ (n : ℕ). record { at = n; rest = left }) (h.value (known_all bytes known)).1

      left_bytes : AreBytes left
      left_bytes = subst AreBytes (ap (drop 5) text_is) (AreBytes-drop 5 bytes are)

      whole : IsExact (image v) (body left) (read_whole (image v) (body left))
      whole = exact (image v) (image_format v) (body left) left_bytes

      image_found : (d : ImageData) → read_whole (image v) (cursor_of b t) ≡ Ok d → IsImageOf v d bytes
      image_found d e =
          let read : read_whole (image v) (body left) ≡ Ok d = ap (read_whole (image v)) (sym cursor_is) ∙ e in
          let found = subst (λ (r : Result ImageData ℕ). IfOk r (λ x. (image v).fits x × (left ≡ spelling (image v) x))) read whole.found in
          record { fits = found.0; text = text_is ∙ ap (λ (x : List ℕ). image_mark ++ (version_byte v ∷ x)) found.1 }

      misshapen_found : (n : ℕ) → read_whole (image v) (cursor_of b t) ≡ Err n → IsFaultOf bytes (Misshapen n)
      misshapen_found n e =
          let read : read_whole (image v) (body left) ≡ Err n = ap (read_whole (image v)) (sym cursor_is) ∙ e in
          inr (v, left, text_is, subst (λ (r : Result ImageData ℕ). IfErr r (IsMisshapen (image v) (body left))) read whole.fault)

    module _ (c : FieldsRead) (u : Input) (v : Version) (h : ReadsImageHead (before_all reads) s (fine (head.Of v)) b t) where
      pub loads : (parts : ImageParts A) → ReadsWhole (image v) image_of b t (fine parts) c u → LoadsParts s reads (Ok (v, parts)) u
      loads parts w =
          let q = calls_more (nothing_ahead reads) b.ahead c.ahead s t u (head.Of v) (fine parts) h.calls w.calls in
          record {
            ok = if_known s.remaining (λ bytes. AreBytes bytes → IsImageOf v (image_of parts) bytes) (λ bytes k are. image_found v h bytes k are (image_of parts) (w.value (known_here v h bytes k are)));
            err = tt;
            rest = rest_of (fine parts) c u q;
            failures = q.failures;
            ends = let e = q.ends in let z : bit c.ahead.ended ≡ 1 = ap bit w.ended in omega (arith, e, z);
            within = turns_within (fine parts) c u q;
            each = q.each;
            spent = λ z. absurd (fine_not_turns (v, parts) z);
          }

      body_found : (e : FieldFault) → ReadsWhole (image v) (image_of {A = A}) b t (faulty (ImageParts A) e) c u → IsFoundAs (load_fault_of e)
      body_found (field.Misshapen n) w = if_known s.remaining (λ bytes. AreBytes bytes → IsFaultOf bytes (Misshapen n)) (λ bytes k are. misshapen_found v h bytes k are n (w.value (known_here v h bytes k are)))
      body_found field.Device w = of_none Device (λ bytes. tt)
      body_found field.TooManyReads w = of_none TooManyReads (λ bytes. tt)
      body_found field.OutOfMemory w = of_none OutOfMemory (λ bytes. tt)

  pub body_faults : {A : Type 0} (b c : FieldsRead) (t u : Input) (v : Version) → ReadsImageHead (before_all reads) s (fine (head.Of v)) b t → (e : FieldFault) → ReadsWhole (image v) (image_of {A = A}) b t (faulty (ImageParts A) e) c u → LoadsParts {A = A} s reads (Err (load_fault_of e)) u
  body_faults {A} b c t u v h e w =
      loads_fault A c u (ImageParts A) e (body_found A b t c u v h e w) (calls_more (nothing_ahead reads) b.ahead c.ahead s t u (head.Of v) (faulty (ImageParts A) e) h.calls w.calls)
