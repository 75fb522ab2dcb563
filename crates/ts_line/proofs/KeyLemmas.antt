-- A tag whose key is refused or valid.
use Rattle.std.proofs.Common.{◌≡◌, ℕ, ◌<◌, Bool, true, false, cond, nat_le, List, length, bytes_eq, codes, Result, Ok, Err, refl, sym, ap, ◌∙◌, arith}
use Rattle.std.specs.Bool.{⊤}
use Rattle.std.proofs.lemmas.Bool.Decides.{nat_tests}
use Rattle.ts_core.specs.facts.Facts.{Text}
use Rattle.ts_line.specs.declared.fault.LineFault.{LineFault}
use Rattle.ts_line.specs.declared.fault.LineFaultKind.TheVariants.{RepeatedTagKey, ReservedKey}
use Rattle.ts_line.specs.FaultText.{fault_at}
use Rattle.ts_line.specs.Parts.{LinePart}
use Rattle.ts_line.specs.TagParts.{pair_at, has_key, checked_key, next_tag}

failed_if : (fault : LineFault) (b : Bool) (x : LineFault) (r : Result ⊤ LineFault) (s : Result ((LinePart × LinePart) × ℕ) LineFault) → (r ≡ Err x → s ≡ Err x)
    → cond b (Err fault) r ≡ Err x → cond b (Err fault) s ≡ Err x
failed_if fault true x r s rest e = cc
failed_if fault false x r s rest e = rest e

pub key_refused : (before : List (LinePart × LinePart)) (line : Text) (start : ℕ) (t : (LinePart × LinePart) × ℕ) (key : LinePart) (text : Text) (fault : LineFault)
    → pair_at line start ≡ Ok t → length before < 64 → key ≡ t.0.0 → text ≡ key.text → Err fault ≡ checked_key before text start → next_tag before line start ≡ Err fault
unfolding next_tag
key_refused before line start t key text fault read few k x e =
    let spare : nat_le 64 (length before) ≡ false = grind (arith, nat_tests) in
    let own : checked_key before t.0.0.text start ≡ Err fault = rw (← k, ← x) (sym e) in
    rw (read, spare) (failed_if (fault_at ReservedKey start) (bytes_eq t.0.0.text (codes "time")) fault _ _ (failed_if (fault_at RepeatedTagKey start) (has_key before t.0.0.text) fault (Ok tt) (Ok t) (λ e. absurd cc)) own)

taken_if : (fault : LineFault) (b : Bool) (t : (LinePart × LinePart) × ℕ) (r : Result ⊤ LineFault) (s : Result ((LinePart × LinePart) × ℕ) LineFault) → (r ≡ Ok tt → s ≡ Ok t)
    → cond b (Err fault) r ≡ Ok tt → cond b (Err fault) s ≡ Ok t
taken_if fault true t r s rest e = absurd cc
taken_if fault false t r s rest e = rest e

pub key_taken : (before : List (LinePart × LinePart)) (line : Text) (start : ℕ) (t : (LinePart × LinePart) × ℕ) (key value : LinePart) (text : Text) (tag : LinePart × LinePart)
    → pair_at line start ≡ Ok t → length before < 64 → key ≡ t.0.0 → value ≡ t.0.1 → text ≡ key.text → Ok tt ≡ checked_key before text start → tag ≡ (key, value)
    → next_tag before line start ≡ Ok (tag, t.1)
unfolding next_tag
key_taken before line start t key value text tag read few k v x e made =
    let spare : nat_le 64 (length before) ≡ false = grind (arith, nat_tests) in
    let own : checked_key before t.0.0.text start ≡ Ok tt = rw (← k, ← x) (sym e) in
    let same : (t.0.0, t.0.1) ≡ tag = cc in
    rw (read, spare) (taken_if (fault_at ReservedKey start) (bytes_eq t.0.0.text (codes "time")) t _ _ (taken_if (fault_at RepeatedTagKey start) (has_key before t.0.0.text) t (Ok tt) (Ok t) (λ e. refl)) own ∙ ap (λ (p : LinePart × LinePart). Ok (p, t.1)) same)
