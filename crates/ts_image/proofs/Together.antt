-- Parts that are read one after another: they are read as the whole.
use Rattle.std.proofs.Common.{◌≡◌, ap, ◌∙◌}
use Rattle.ts_core.specs.io.Devices.{Input}
use Rattle.ts_core.specs.text.Steps.{◌>>=◌}
use Rattle.ts_image.specs.Formats.{Format, and, also, iso}
use Rattle.ts_image.specs.declared.field_fault.FieldFault.{FieldFault}
use Rattle.ts_image.specs.declared.field_fault.FieldFault.TheVariants.{Misshapen, Device, TooManyReads, OutOfMemory}
use Rattle.ts_image.specs.FieldReading.{FieldsRead, cursor_of, GivesReading, ReadsField}
use Rattle.ts_image.proofs.Fields.{done}
use Rattle.ts_image.proofs.Reading.{fine, faulty, calls_more, calls_on, calls_ok}

module _ {X Y A B : Type 0} (f : Format A) (g : Format B) (va : X → A) (vb : Y → B) where
  abbrev pub both : X × Y → A × B
  both z = (va z.0, vb z.1)

  pub also_reads : (a b c : FieldsRead) (s t u : Input) (x : X) (y : Y) → ReadsField f va a s (fine x) b t → ReadsField g vb b t (fine y) c u → ReadsField (also f g) both a s (fine (x, y)) c u
  also_reads a b c s t u x y p q = record {
    stays = λ k. q.stays (p.stays k);
    value = λ k. ap (λ r. r >>= λ z. g.read z.1 >>= λ w. done ((z.0, w.0), w.1)) (p.value k) ∙ ap (λ r. r >>= λ w. done ((va x, w.0), w.1)) (q.value (p.stays k));
    calls = calls_more a.ahead b.ahead c.ahead s t u x (fine (x, y)) p.calls (calls_ok b.ahead c.ahead t u y (x, y) q.calls);
  }

pub iso_reads : {X Z A B : Type 0} (f : Format A) (to : A → B) (from : B → A) (va : X → A) (v : Z → B) (a b : FieldsRead) (s t : Input) (x : X) (z : Z) → to (va x) ≡ v z → ReadsField f va a s (fine x) b t → ReadsField (iso f to from) v a s (fine z) b t
iso_reads f to from va v a b s t x z e p = record {
  stays = p.stays;
  value = λ k. ap (λ r. r >>= λ y. done (to y.0, y.1)) (p.value k) ∙ ap (λ y. done (y, cursor_of b t)) e;
  calls = calls_ok a.ahead b.ahead s t x z p.calls;
}

-- a part can't be read, the first or the second, and so the whole can't

module _ {X Y A B Z : Type 0} (f : Format A) (g : Format B) (va : X → A) (vb : Y → B) (v : Z → A × B) (a b c : FieldsRead) (s t u : Input) where
  second_stops : (e : FieldFault) (x : X) → f.read (cursor_of a s) ≡ done (va x, cursor_of b t) → GivesReading vb (faulty Y e) (cursor_of c u) (g.read (cursor_of b t)) → GivesReading v (faulty Z e) (cursor_of c u) ((also f g).read (cursor_of a s))
  second_stops (Misshapen n) x p q = ap (λ r. r >>= λ z. g.read z.1 >>= λ w. done ((z.0, w.0), w.1)) p ∙ ap (λ r. r >>= λ w. done ((va x, w.0), w.1)) q
  second_stops Device x p q = tt
  second_stops TooManyReads x p q = tt
  second_stops OutOfMemory x p q = tt

  pub also_stops : (x : X) (e : FieldFault) → ReadsField f va a s (fine x) b t → ReadsField g vb b t (faulty Y e) c u → ReadsField (also f g) v a s (faulty Z e) c u
  also_stops x e p q = record {
    stays = λ k. tt;
    value = λ k. second_stops e x (p.value k) (q.value (p.stays k));
    calls = calls_more a.ahead b.ahead c.ahead s t u x (faulty Z e) p.calls (calls_on Y Z b.ahead c.ahead t u e q.calls);
  }

module _ {X Z A B : Type 0} (f : Format A) (to : A → B) (from : B → A) (va : X → A) (v : Z → B) (a b : FieldsRead) (s t : Input) where
  whole_stops : (e : FieldFault) → GivesReading va (faulty X e) (cursor_of b t) (f.read (cursor_of a s)) → GivesReading v (faulty Z e) (cursor_of b t) ((iso f to from).read (cursor_of a s))
  whole_stops (Misshapen n) p = ap (λ r. r >>= λ y. done (to y.0, y.1)) p
  whole_stops Device p = tt
  whole_stops TooManyReads p = tt
  whole_stops OutOfMemory p = tt

  pub iso_stops : (e : FieldFault) → ReadsField f va a s (faulty X e) b t → ReadsField (iso f to from) v a s (faulty Z e) b t
  iso_stops e p = record { stays = λ k. tt; value = λ k. whole_stops e (p.value k); calls = calls_on X Z a.ahead b.ahead s t e p.calls }

-- the same where the second part's format goes by the first

module _ {X Y A B : Type 0} (f : Format A) (g : A → Format B) (va : X → A) (vb : Y → B) where
  pub and_reads : (a b c : FieldsRead) (s t u : Input) (x : X) (y : Y) → ReadsField f va a s (fine x) b t → ReadsField (g (va x)) vb b t (fine y) c u → ReadsField (and f g) (λ (z : X × Y). (va z.0, vb z.1)) a s (fine (x, y)) c u
  and_reads a b c s t u x y p q = record {
    stays = λ k. q.stays (p.stays k);
    value = λ k. ap (λ r. r >>= λ z. (g z.0).read z.1 >>= λ w. done ((z.0, w.0), w.1)) (p.value k) ∙ ap (λ r. r >>= λ w. done ((va x, w.0), w.1)) (q.value (p.stays k));
    calls = calls_more a.ahead b.ahead c.ahead s t u x (fine (x, y)) p.calls (calls_ok b.ahead c.ahead t u y (x, y) q.calls);
  }

module _ {X Y A B Z : Type 0} (f : Format A) (g : A → Format B) (va : X → A) (vb : Y → B) (v : Z → A × B) (a b c : FieldsRead) (s t u : Input) where
  second_of_stops : (e : FieldFault) (x : X) → f.read (cursor_of a s) ≡ done (va x, cursor_of b t) → GivesReading vb (faulty Y e) (cursor_of c u) ((g (va x)).read (cursor_of b t)) → GivesReading v (faulty Z e) (cursor_of c u) ((and f g).read (cursor_of a s))
  second_of_stops (Misshapen n) x p q = ap (λ r. r >>= λ z. (g z.0).read z.1 >>= λ w. done ((z.0, w.0), w.1)) p ∙ ap (λ r. r >>= λ w. done ((va x, w.0), w.1)) q
  second_of_stops Device x p q = tt
  second_of_stops TooManyReads x p q = tt
  second_of_stops OutOfMemory x p q = tt

  pub and_stops : (x : X) (e : FieldFault) → ReadsField f va a s (fine x) b t → ReadsField (g (va x)) vb b t (faulty Y e) c u → ReadsField (and f g) v a s (faulty Z e) c u
  and_stops x e p q = record {
    stays = λ k. tt;
    value = λ k. second_of_stops e x (p.value k) (q.value (p.stays k));
    calls = calls_more a.ahead b.ahead c.ahead s t u x (faulty Z e) p.calls (calls_on Y Z b.ahead c.ahead t u e q.calls);
  }
