-- Bytes that are read into a buffer, after those already in it.
use Rattle.std.proofs.Common.{◌≡◌, ℕ, ◌+◌, ◌-◌, ◌<◌, ◌≤◌, ◌==◌, cond, ◌++◌, length, take, Option, refl, sym, ap, ◌∙◌, subst, arith, add-zero}
use Rattle.std.proofs.KnownBytes.{Consumes-trans}
use Rattle.std.specs.Io.KnownBytes.{Consumes}
use Rattle.std.proofs.lemmas.List.{take-take, length-take-le}
use Rattle.std.proofs.Math.Seq.{take-append-add}
use Rattle.std.proofs.lemmas.Slice.{take-put_mid, overwrites}
use Rattle.std.proofs.lemmas.Grind.{common_steps}
use Rattle.std.proofs.lemmas.Bool.Decides.{nat_tests}
use borrow.Rule.Slice.PartMut.{put_mid}
use Rattle.ts_core.specs.facts.Facts.{Text}

not_zero : (n x : ℕ) → 0 < n → cond (n == 0) x 0 ≡ 0
not_zero n x some = grind (arith, nat_tests)

-- a read that gave some bytes met no end
pub no_end : (n x old new : ℕ) → new ≡ old + cond (n == 0) x 0 → 0 < n → new ≡ old
no_end n x old new e some = omega (arith, e, not_zero n x some)

-- the bytes that a read gave follow those that were there
pub stands_behind : (buffer buf : Text) (count n : ℕ) → count ≤ length buffer → length buf ≡ length buffer - count → n ≤ length buf
    → take (count + n) (put_mid count (length buffer - count) buffer buf) ≡ take count buffer ++ take n buf
stands_behind buffer buf count n there size some =
    sym (take-take (count + n) (count + length buf) (put_mid count (length buffer - count) buffer buf) (omega (arith, some)))
    ∙ ap (take (count + n)) (take-put_mid count (length buffer - count) buffer buf (count + length buf) refl there)
    ∙ ap (λ (k : ℕ). take (k + n) (take count buffer ++ buf)) (sym (length-take-le count buffer there))
    ∙ take-append-add (take count buffer) buf n

pub same_size : (buffer buf : Text) (count : ℕ) → count ≤ length buffer → length buf ≡ length buffer - count → length (put_mid count (length buffer - count) buffer buf) ≡ length buffer
same_size buffer buf count there size = grind (arith, common_steps, overwrites, size, there)

-- the bytes so far, and those of a read
pub more_came : (old mid new : Option Text) (count n : ℕ) (buffer buffer' : Text) → Consumes old mid (take count buffer)
    → ((got : Text) × (take (count + n) buffer' ≡ take count buffer ++ got) × (length got ≡ n) × Consumes mid new got) → Consumes old new (take (count + n) buffer')
more_came old mid new count n buffer buffer' before came = subst (Consumes old new) (sym came.1) (Consumes-trans old mid new (take count buffer) came.0 before came.3)

-- a read that gave nothing
pub none_came : (old mid new : Option Text) (count n : ℕ) (buffer buffer' : Text) → n ≡ 0 → Consumes old mid (take count buffer)
    → ((got : Text) × (take (count + n) buffer' ≡ take count buffer ++ got) × (length got ≡ n) × Consumes mid new got) → Consumes old new (take count buffer')
none_came old mid new count n buffer buffer' none before came =
    subst (λ (k : ℕ). Consumes old new (take k buffer')) (ap (λ (k : ℕ). count + k) none ∙ add-zero count) (more_came old mid new count n buffer buffer' before came)
