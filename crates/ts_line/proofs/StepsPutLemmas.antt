-- Parts that are read and inserted among others.
use Rattle.std.proofs.Common.{◌≡◌, ℕ, Result, Ok, Err, refl, sym, ap}
use Rattle.ts_line.specs.declared.fault.LineFault.{LineFault}
use Rattle.ts_line.specs.declared.fault.ReadLineError.{ReadLineError}
use Rattle.ts_line.specs.declared.fault.ReadLineError.TheVariants as errors
use Rattle.ts_line.specs.ReadSteps.{FailsIfMemory}
use Rattle.ts_line.specs.StepsPut.{put_by}

-- each inserted part was read
pub was_read : {X Y : Type 0} (put : X → Y) (q : Result (X × ℕ) LineFault) (y : Y) (end : ℕ) → put_by put q ≡ Ok (y, end) → (x : X) × (q ≡ Ok (x, end)) × (y ≡ put x)
was_read {X} {Y} put (Ok read) y end e =
    let is : (put read.0, read.1) ≡ (y, end) = cc in
    (read.0, ap (λ (r : Y × ℕ). Ok (read.0, r.1)) is, ap (λ (r : Y × ℕ). r.0) (sym is))
was_read put (Err fault) y end e = absurd cc

pub put_read : {X Y : Type 0} (put : X → Y) (q : Result (X × ℕ) LineFault) (x : X) (end : ℕ) → q ≡ Ok (x, end) → put_by put q ≡ Ok (put x, end)
put_read put q x end e = rw e refl

pub put_fails : {X Y : Type 0} (put : X → Y) (q : Result (X × ℕ) LineFault) (f : LineFault) → q ≡ Err f → put_by put q ≡ Err f
put_fails put q f e = rw e refl

fault_is : {X Y : Type 0} (put : X → Y) (q : Result (X × ℕ) LineFault) (f : LineFault) → put_by put q ≡ Err f → q ≡ Err f
fault_is put (Ok read) f e = absurd cc
fault_is put (Err g) f e = let is : g ≡ f = cc in ap Err is

-- a fault of the one is a fault of the other
pub was_fault : {X Y : Type 0} (put : X → Y) (q : Result (X × ℕ) LineFault) (e : ReadLineError) → FailsIfMemory e (put_by put q) → FailsIfMemory e q
was_fault put q errors.OutOfMemory h = tt
was_fault put q (errors.Fault f) h = fault_is put q f h
