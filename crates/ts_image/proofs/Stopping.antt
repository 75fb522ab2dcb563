-- A field that can't be read, and the values that it is part of, which can't be read either.
use Rattle.std.proofs.Common.{◌≡◌, Err, ap, ◌∙◌}
use Rattle.ts_core.specs.io.Devices.{Input}
use Rattle.ts_image.specs.declared.field_fault.FieldFault.{FieldFault}
use Rattle.ts_image.specs.declared.field_fault.FieldFault.TheVariants.{Misshapen, Device, TooManyReads, OutOfMemory}
use Rattle.ts_core.specs.text.Steps.{◌>>=◌}
use Rattle.ts_image.specs.Formats.{Read, Format, and, iso}
use Rattle.ts_image.specs.FieldReading.{FieldsRead, cursor_of, IsKnown, CallsSource, GivesReading, ReadsField}
use Rattle.ts_image.proofs.Fields.{done}
use Rattle.ts_image.proofs.Reading.{fine, faulty, calls_more, calls_on}

abbrev pub Stopped : {Y : Type 0} → FieldFault → Read Y → Type 0
Stopped (Misshapen n) read = read ≡ Err n
Stopped Device read = Unit {0}
Stopped TooManyReads read = Unit {0}
Stopped OutOfMemory read = Unit {0}

pub record Stops {Y : Type 0} (f : Format Y) (a : FieldsRead) (s : Input) (e : FieldFault) (b : FieldsRead) (t : Input) : Type 0 where
  pub value : IsKnown a s → Stopped e (f.read (cursor_of a s))
  pub calls : CallsSource a.ahead s (faulty (Unit {0}) e) b.ahead t

module _ {X Y : Type 0} (f : Format Y) (view : X → Y) (a b : FieldsRead) (s t : Input) where
  stopped_of : (e : FieldFault) → GivesReading view (faulty X e) (cursor_of b t) (f.read (cursor_of a s)) → Stopped e (f.read (cursor_of a s))
  stopped_of (Misshapen n) g = g
  stopped_of Device g = tt
  stopped_of TooManyReads g = tt
  stopped_of OutOfMemory g = tt

  gives_of : (e : FieldFault) → Stopped e (f.read (cursor_of a s)) → GivesReading view (faulty X e) (cursor_of b t) (f.read (cursor_of a s))
  gives_of (Misshapen n) g = g
  gives_of Device g = tt
  gives_of TooManyReads g = tt
  gives_of OutOfMemory g = tt

  pub stops_of : (e : FieldFault) → ReadsField f view a s (faulty X e) b t → Stops f a s e b t
  stops_of e r = record { value = λ k. stopped_of e (r.value k); calls = calls_on X (Unit {0}) a.ahead b.ahead s t e r.calls }

  pub reads_of : (e : FieldFault) → Stops f a s e b t → ReadsField f view a s (faulty X e) b t
  reads_of e r = record { stays = λ k. tt; value = λ k. gives_of e (r.value k); calls = calls_on (Unit {0}) X a.ahead b.ahead s t e r.calls }

module _ {A B : Type 0} (f : Format A) (g : A → Format B) (a : FieldsRead) (s : Input) where
  first_stopped : (e : FieldFault) → Stopped e (f.read (cursor_of a s)) → Stopped e ((and f g).read (cursor_of a s))
  first_stopped (Misshapen n) p = ap (λ r. r >>= λ z. (g z.0).read z.1 >>= λ w. done ((z.0, w.0), w.1)) p
  first_stopped Device p = tt
  first_stopped TooManyReads p = tt
  first_stopped OutOfMemory p = tt

  pub first_stops : (b : FieldsRead) (t : Input) (e : FieldFault) → Stops f a s e b t → Stops (and f g) a s e b t
  first_stops b t e p = record { value = λ k. first_stopped e (p.value k); calls = p.calls }

  module _ {X : Type 0} (va : X → A) (b c : FieldsRead) (t u : Input) where
    then_stopped : (e : FieldFault) (x : X) → f.read (cursor_of a s) ≡ done (va x, cursor_of b t) → Stopped e ((g (va x)).read (cursor_of b t)) → Stopped e ((and f g).read (cursor_of a s))
    then_stopped (Misshapen n) x p q = ap (λ r. r >>= λ z. (g z.0).read z.1 >>= λ w. done ((z.0, w.0), w.1)) p ∙ ap (λ r. r >>= λ w. done ((va x, w.0), w.1)) q
    then_stopped Device x p q = tt
    then_stopped TooManyReads x p q = tt
    then_stopped OutOfMemory x p q = tt

    pub then_stops : (x : X) (e : FieldFault) → ReadsField f va a s (fine x) b t → Stops (g (va x)) b t e c u → Stops (and f g) a s e c u
    then_stops x e p q = record {
      value = λ k. then_stopped e x (p.value k) (q.value (p.stays k));
      calls = calls_more a.ahead b.ahead c.ahead s t u x (faulty (Unit {0}) e) p.calls q.calls;
    }

module _ {A B : Type 0} (f : Format A) (to : A → B) (from : B → A) (a b : FieldsRead) (s t : Input) where
  whole_stopped : (e : FieldFault) → Stopped e (f.read (cursor_of a s)) → Stopped e ((iso f to from).read (cursor_of a s))
  whole_stopped (Misshapen n) p = ap (λ r. r >>= λ y. done (to y.0, y.1)) p
  whole_stopped Device p = tt
  whole_stopped TooManyReads p = tt
  whole_stopped OutOfMemory p = tt

  pub whole_stops : (e : FieldFault) → Stops f a s e b t → Stops (iso f to from) a s e b t
  whole_stops e p = record { value = λ k. whole_stopped e (p.value k); calls = p.calls }
