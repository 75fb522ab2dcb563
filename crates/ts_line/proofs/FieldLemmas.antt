-- Steps of the loop over fields, and the meaning of all fields together.
use Rattle.std.proofs.Common.{◌≡◌, ℕ, ℤ, zero, suc, ◌+◌, ◌-◌, ◌≤◌, ◌<◌, Bool, true, false, eqb, List, [], ◌∷◌, ◌++◌, length, map, slice_index, get_or, set, bytes_eq, Some, None, Result, Ok, Err, refl, sym, ap, subst, ◌∙◌, arith, inl, inr, ◌⊎◌, ⊎_elim}
use Rattle.std.proofs.lemmas.Bool.{both_ways}
use Rattle.std.proofs.lemmas.Bool.Decides.{nat_tests}
use Rattle.std.proofs.lemmas.Slice.Eq.{bytes_eq-Decides}
use Rattle.ts_core.specs.facts.Facts.{Text}
use Rattle.ts_line.specs.declared.fault.LineFault.{LineFault}
use Rattle.ts_line.specs.declared.fault.LineFaultKind.TheVariants.{OverLimit}
use Rattle.ts_line.specs.FaultText.{fault_at}
use Rattle.ts_core.specs.lists.Members.{Among, AllDistinct}
use Rattle.ts_line.specs.Parts.{LinePart, AreFields, field_text}
use Rattle.ts_line.specs.declared.fault.ReadLineError.{ReadLineError}
use Rattle.ts_line.specs.declared.fault.ReadLineError.TheVariants as errors
use Rattle.ts_line.specs.ReadSteps.{FailsIfMemory}
use Rattle.ts_line.specs.Fields.{next_field, offset_from, with_field, fields_at}

pub field_taken : (n : ℕ) (before : List (LinePart × ℤ)) (line : Text) (at : ℕ) (f : LinePart × ℤ) (end : ℕ) (total : Result (List (LinePart × ℤ) × ℕ) LineFault) → n < 256 → slice_index line end ≡ 44
    → next_field line at ≡ Ok (f, end) → fields_at (256 - n) before line at ≡ total → fields_at (256 - (n + 1)) (with_field before f) line (end + 1) ≡ total
unfolding fields_at
field_taken n before line at f end total lt comma read so_far =
    let k : 256 - n ≡ suc (256 - (n + 1)) = omega arith in
    let one : fields_at (256 - n) before line at ≡ fields_at (256 - (n + 1)) (with_field before f) line (end + 1) = rw (k, read, comma) refl in
    sym one ∙ so_far

pub field_failed : (n : ℕ) (before : List (LinePart × ℤ)) (line : Text) (at : ℕ) (e : LineFault) (total : Result (List (LinePart × ℤ) × ℕ) LineFault) → n < 256
    → next_field line at ≡ Err e → fields_at (256 - n) before line at ≡ total → total ≡ Err e
unfolding fields_at
field_failed n before line at e total lt read so_far =
    let k : 256 - n ≡ suc (256 - (n + 1)) = omega arith in
    let one : fields_at (256 - n) before line at ≡ Err e = rw (k, read) refl in
    sym so_far ∙ one

pub fields_ended : (n : ℕ) (before : List (LinePart × ℤ)) (line : Text) (at : ℕ) (f : LinePart × ℤ) (end : ℕ) (total : Result (List (LinePart × ℤ) × ℕ) LineFault) → n < 256 → (slice_index line end ≡ 44 → ⊥)
    → next_field line at ≡ Ok (f, end) → fields_at (256 - n) before line at ≡ total → total ≡ Ok (with_field before f, end)
unfolding fields_at
fields_ended n before line at f end total lt comma read so_far =
    let k : 256 - n ≡ suc (256 - (n + 1)) = omega arith in
    let no : eqb (slice_index line end) 44 ≡ false = grind (arith, nat_tests) in
    let one : fields_at (256 - n) before line at ≡ Ok (with_field before f, end) = rw (k, read, no) refl in
    sym so_far ∙ one

pub too_many : (n : ℕ) (before : List (LinePart × ℤ)) (line : Text) (at : ℕ) (total : Result (List (LinePart × ℤ) × ℕ) LineFault) → 256 ≤ n → fields_at (256 - n) before line at ≡ total → total ≡ Err (fault_at OverLimit at)
unfolding fields_at
too_many n before line at total le so_far =
    let k : 256 - n ≡ 0 = omega arith in
    let one : fields_at (256 - n) before line at ≡ Err (fault_at OverLimit at) = rw k refl in
    sym so_far ∙ one

pub field_fails : (n : ℕ) (before : List (LinePart × ℤ)) (line : Text) (at : ℕ) (e : ReadLineError) (total : Result (List (LinePart × ℤ) × ℕ) LineFault) → n < 256
    → FailsIfMemory e (next_field line at) → fields_at (256 - n) before line at ≡ total → FailsIfMemory e total
field_fails n before line at errors.OutOfMemory total lt read so_far = tt
field_fails n before line at (errors.Fault f) total lt read so_far = field_failed n before line at f total lt read so_far

-- ---- one field put among others

set_by : (b : Bool) (g f : LinePart × ℤ) (gs : List (LinePart × ℤ)) (at i : ℕ) (d : LinePart × ℤ) → bytes_eq g.0.text f.0.text ≡ b
    → (offset_from (at + 1) f.0.text gs ≡ Some i → (j : ℕ) × (i ≡ (at + 1) + j) × (set gs j ((get_or gs j d).0, f.1) ≡ with_field gs f))
    → offset_from at f.0.text (g ∷ gs) ≡ Some i → (j : ℕ) × (i ≡ at + j) × (set (g ∷ gs) j ((get_or (g ∷ gs) j d).0, f.1) ≡ with_field (g ∷ gs) f)
set_by true g f gs at i d e ih found =
    let here : Some at ≡ Some i = rw e at found in
    let is : at ≡ i = cc in
    (0, omega arith, rw e refl)
set_by false g f gs at i d e ih found =
    let later : offset_from (at + 1) f.0.text gs ≡ Some i = rw e at found in
    let h = ih later in
    (suc h.0, omega (arith, h.1), rw e (ap (λ (xs : List (LinePart × ℤ)). g ∷ xs) h.2))

set_in : (f : LinePart × ℤ) (fields : List (LinePart × ℤ)) (at i : ℕ) (d : LinePart × ℤ)
    → offset_from at f.0.text fields ≡ Some i → (j : ℕ) × (i ≡ at + j) × (set fields j ((get_or fields j d).0, f.1) ≡ with_field fields f)
set_in f [] at i d found = absurd cc
set_in f (g ∷ gs) at i d found = set_by (bytes_eq g.0.text f.0.text) g f gs at i d refl (set_in f gs (at + 1) i d) found

-- a name that is there gets the value
pub field_set : (f : LinePart × ℤ) (fields : List (LinePart × ℤ)) (i : ℕ) (d : LinePart × ℤ) → Some i ≡ offset_from 0 f.0.text fields → set fields i ((get_or fields i d).0, f.1) ≡ with_field fields f
field_set f fields i d found =
    let p = set_in f fields 0 i d (sym found) in
    let same : i ≡ p.0 = omega (arith, p.1) in
    rw same p.2

push_by : (b : Bool) (f g : LinePart × ℤ) (gs : List (LinePart × ℤ)) (at : ℕ) → bytes_eq g.0.text f.0.text ≡ b
    → (offset_from (at + 1) f.0.text gs ≡ None → gs ++ f ∷ [] ≡ with_field gs f)
    → offset_from at f.0.text (g ∷ gs) ≡ None → (g ∷ gs) ++ f ∷ [] ≡ with_field (g ∷ gs) f
push_by true f g gs at e ih found = let no : Some at ≡ None = rw e at found in absurd cc
push_by false f g gs at e ih found =
    let later : offset_from (at + 1) f.0.text gs ≡ None = rw e at found in
    rw e (ap (λ (xs : List (LinePart × ℤ)). g ∷ xs) (ih later))

push_in : (f : LinePart × ℤ) (fields : List (LinePart × ℤ)) (at : ℕ) → offset_from at f.0.text fields ≡ None → fields ++ f ∷ [] ≡ with_field fields f
push_in f [] at found = refl
push_in f (g ∷ gs) at found = push_by (bytes_eq g.0.text f.0.text) f g gs at refl (push_in f gs (at + 1)) found

-- a new name comes last
pub field_pushed : (f : LinePart × ℤ) (fields : List (LinePart × ℤ)) → None ≡ offset_from 0 f.0.text fields → fields ++ f ∷ [] ≡ with_field fields f
field_pushed f fields found = push_in f fields 0 (sym found)

-- ---- the fields that are read are some, few and of different names

length_by : (b : Bool) (g f : LinePart × ℤ) (gs : List (LinePart × ℤ)) → bytes_eq g.0.text f.0.text ≡ b → length (with_field gs f) ≤ length gs + 1 → length (with_field (g ∷ gs) f) ≤ length (g ∷ gs) + 1
length_by true g f gs e ih = rw e (omega arith)
length_by false g f gs e ih = rw e (omega arith)

length_with : (fields : List (LinePart × ℤ)) (f : LinePart × ℤ) → length (with_field fields f) ≤ length fields + 1
length_with [] f = omega arith
length_with (g ∷ gs) f = length_by (bytes_eq g.0.text f.0.text) g f gs refl (length_with gs f)

some_by : (b : Bool) (g f : LinePart × ℤ) (gs : List (LinePart × ℤ)) → bytes_eq g.0.text f.0.text ≡ b → 1 ≤ length (with_field (g ∷ gs) f)
some_by true g f gs e = rw e (omega arith)
some_by false g f gs e = rw e (omega arith)

some_with : (fields : List (LinePart × ℤ)) (f : LinePart × ℤ) → 1 ≤ length (with_field fields f)
some_with [] f = omega arith
some_with (g ∷ gs) f = some_by (bytes_eq g.0.text f.0.text) g f gs refl

among_by : (b : Bool) (name : Text) (g f : LinePart × ℤ) (gs : List (LinePart × ℤ)) → bytes_eq g.0.text f.0.text ≡ b
    → (Among name (map field_text (with_field gs f)) → (name ≡ f.0.text) ⊎ Among name (map field_text gs))
    → Among name (map field_text (with_field (g ∷ gs) f)) → (name ≡ f.0.text) ⊎ Among name (map field_text (g ∷ gs))
among_by true name g f gs e ih a = let here : Among name (map field_text (g ∷ gs)) = rw e at a in inr here
among_by false name g f gs e ih a =
    let here : (name ≡ g.0.text) ⊎ Among name (map field_text (with_field gs f)) = rw e at a in
    ⊎_elim (λ is. inr (inl is)) (λ later. ⊎_elim (λ is. inl is) (λ old. inr (inr old)) (ih later)) here

among_with : (name : Text) (fields : List (LinePart × ℤ)) (f : LinePart × ℤ) → Among name (map field_text (with_field fields f)) → (name ≡ f.0.text) ⊎ Among name (map field_text fields)
among_with name [] f a = ⊎_elim (λ is. inl is) (λ no. absurd no) a
among_with name (g ∷ gs) f a = among_by (bytes_eq g.0.text f.0.text) name g f gs refl (among_with name gs f) a

once_by : (b : Bool) (g f : LinePart × ℤ) (gs : List (LinePart × ℤ)) → bytes_eq g.0.text f.0.text ≡ b → AllDistinct (map field_text (g ∷ gs)) → AllDistinct (map field_text (with_field gs f))
    → AllDistinct (map field_text (with_field (g ∷ gs) f))
once_by true g f gs e once ih = rw e once
once_by false g f gs e once ih =
    let other : g.0.text ≡ f.0.text → ⊥ = λ is. both_ways (bytes_eq g.0.text f.0.text) e ((bytes_eq-Decides g.0.text f.0.text).1 is) in
    rw e (λ a. ⊎_elim (λ is. other is) (λ old. once.0 old) (among_with g.0.text gs f a), ih)

once_with : (fields : List (LinePart × ℤ)) (f : LinePart × ℤ) → AllDistinct (map field_text fields) → AllDistinct (map field_text (with_field fields f))
once_with [] f once = (λ a. a, tt)
once_with (g ∷ gs) f once = once_by (bytes_eq g.0.text f.0.text) g f gs refl once (once_with gs f once.1)

are_by : (n : ℕ) (before : List (LinePart × ℤ)) (line : Text) (at : ℕ) (q : Result ((LinePart × ℤ) × ℕ) LineFault) (b : Bool) (r : List (LinePart × ℤ) × ℕ)
    → ((f : LinePart × ℤ) (end : ℕ) → q ≡ Ok (f, end) → eqb (slice_index line end) 44 ≡ b)
    → next_field line at ≡ q
    → ((before' : List (LinePart × ℤ)) (at' : ℕ) → fields_at n before' line at' ≡ Ok r → AllDistinct (map field_text before') → length before' + n ≤ 256 → AreFields r.0)
    → fields_at (suc n) before line at ≡ Ok r → AllDistinct (map field_text before) → length before + suc n ≤ 256 → AreFields r.0
unfolding fields_at
are_by n before line at (Err e) b r comma read ih all once few = let no : Err e ≡ Ok r = rw read at all in absurd cc
are_by n before line at (Ok f) true r comma read ih all once few =
    let on : fields_at n (with_field before f.0) line (f.1 + 1) ≡ Ok r = rw (read, comma f.0 f.1 refl) at all in
    ih (with_field before f.0) (f.1 + 1) on (once_with before f.0 once) (omega (arith, length_with before f.0))
are_by n before line at (Ok f) false r comma read ih all once few =
    let done : Ok (with_field before f.0, f.1) ≡ Ok r = rw (read, comma f.0 f.1 refl) at all in
    let is : (with_field before f.0, f.1) ≡ r = cc in
    subst (λ (x : List (LinePart × ℤ) × ℕ). AreFields x.0) is (record { some = some_with before f.0; few = omega (arith, length_with before f.0); once = once_with before f.0 once })

comma_after : Text → Result ((LinePart × ℤ) × ℕ) LineFault → Bool
comma_after line (Ok f) = eqb (slice_index line f.1) 44
comma_after line (Err e) = false

comma_is : (line : Text) (q : Result ((LinePart × ℤ) × ℕ) LineFault) (f : LinePart × ℤ) (end : ℕ) → q ≡ Ok (f, end) → eqb (slice_index line end) 44 ≡ comma_after line q
unfolding comma_after
comma_is line q f end e = rw e refl

are_fields : (n : ℕ) (before : List (LinePart × ℤ)) (line : Text) (at : ℕ) (r : List (LinePart × ℤ) × ℕ) → fields_at n before line at ≡ Ok r → AllDistinct (map field_text before) → length before + n ≤ 256 → AreFields r.0
unfolding fields_at
are_fields zero before line at r all once few = absurd cc
are_fields (suc n) before line at r all once few =
    are_by n before line at (next_field line at) (comma_after line (next_field line at)) r (comma_is line (next_field line at)) refl (λ before' at'. are_fields n before' line at' r) all once few

pub read_fields : (line : Text) (at : ℕ) (fields : List (LinePart × ℤ)) (end : ℕ) → fields_at 256 [] line at ≡ Ok (fields, end) → AreFields fields
read_fields line at fields end all = are_fields 256 [] line at (fields, end) all tt (omega arith)
