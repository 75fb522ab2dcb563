-- Values that are read one after another, as a loop does: one per item of another list.
use Rattle.std.proofs.Common.{◌≡◌, ℕ, List, [], ◌∷◌, ◌++◌, length, replicate, Result, Ok, Err, refl, sym, ap, subst, ◌∙◌, append_assoc}
use Rattle.std.proofs.lemmas.List.{append-nil}
use Rattle.ts_core.specs.io.Devices.{Input}
use Rattle.ts_core.specs.io.ReadingAhead.{EndIsEnd}
use Rattle.ts_image.specs.declared.field_fault.FieldFault.{FieldFault}
use Rattle.ts_image.specs.declared.field_fault.FieldFault.TheVariants.{Misshapen, Device, TooManyReads, OutOfMemory}
use Rattle.ts_core.specs.text.Steps.{◌>>=◌}
use Rattle.ts_image.specs.Formats.{Cursor, Read, Format, read_along, along, times}
use Rattle.ts_image.specs.FieldReading.{FieldsRead, cursor_of, IsKnown, CallsSource, GivesReading, ReadsField}
use Rattle.ts_image.proofs.Fields.{done}
use Rattle.ts_image.proofs.Reading.{fine, faulty, nothing_yet, calls_nothing, calls_more, calls_on, calls_ok, calls_unless}

abbrev pub with_front : {X : Type 0} → List X → Read (List X) → Read (List X)
with_front xs r = r >>= λ ys. done (xs ++ ys.0, ys.1)

pub front_nil : {X : Type 0} (r : Read (List X)) → with_front [] r ≡ r
front_nil (Ok x) = refl
front_nil (Err n) = refl

pub regroup : {X : Type 0} (xs : List X) (x : X) (r : Read (List X)) → with_front xs (r >>= λ ys. done (x ∷ ys.0, ys.1)) ≡ with_front (xs ++ x ∷ []) r
regroup {X} xs x (Ok ys) = ap (λ (zs : List X). done (zs, ys.1)) (sym (append_assoc xs (x ∷ []) ys.0))
regroup xs x (Err n) = refl

-- some were read, and those of some are left: these together are those of all
pub record HasReadAlong {X Y : Type 0} (f : Y → Format X) (ys left : List Y) (xs : List X) (a : FieldsRead) (s : Input) (b : FieldsRead) (t : Input) : Type 0 where
  pub stays : IsKnown a s → IsKnown b t
  pub value : IsKnown a s → with_front xs (read_along f left (cursor_of b t)) ≡ read_along f ys (cursor_of a s)
  pub calls : CallsSource a.ahead s nothing_yet b.ahead t

module _ {X Y : Type 0} (f : Y → Format X) (ys : List Y) (a : FieldsRead) (s : Input) where
  pub along_starts : EndIsEnd a.ahead s → HasReadAlong f ys ys [] a s a s
  along_starts end = record { stays = λ k. k; value = λ k. front_nil (read_along f ys (cursor_of a s)); calls = calls_nothing a.ahead s end }

  abbrev then_along : List Y → X × Cursor → Read (List X)
  then_along left x = read_along f left x.1 >>= λ xs. done (x.0 ∷ xs.0, xs.1)

  module _ {Z : Type 0} (view : Z → X) (y : Y) (left : List Y) (xs : List X) (b c : FieldsRead) (t u : Input) (so_far : HasReadAlong f ys (y ∷ left) xs a s b t) where
    pub along_goes_on : (z : Z) → ReadsField (f y) view b t (fine z) c u → HasReadAlong f ys left (xs ++ view z ∷ []) a s c u
    along_goes_on z r = record {
      stays = λ k. r.stays (so_far.stays k);
      value = λ k.
          sym (regroup xs (view z) (read_along f left (cursor_of c u))) ∙ ap (λ q. with_front xs (q >>= then_along left)) (sym (r.value (so_far.stays k))) ∙ so_far.value k;
      calls = calls_more a.ahead b.ahead c.ahead s t u tt nothing_yet so_far.calls (calls_ok b.ahead c.ahead t u z tt r.calls);
    }

    along_stopped : {W : Type 0} (e : FieldFault) (views : W → List X) → GivesReading view (faulty Z e) (cursor_of c u) ((f y).read (cursor_of b t)) → with_front xs (read_along f (y ∷ left) (cursor_of b t)) ≡ read_along f ys (cursor_of a s) → GivesReading views (faulty W e) (cursor_of c u) (read_along f ys (cursor_of a s))
    along_stopped (Misshapen n) views g e = sym e ∙ ap (λ q. with_front xs (q >>= then_along left)) g
    along_stopped Device views g e = tt
    along_stopped TooManyReads views g e = tt
    along_stopped OutOfMemory views g e = tt

    pub along_breaks : {W : Type 0} (views : W → List X) (e : FieldFault) → ReadsField (f y) view b t (faulty Z e) c u → ReadsField (along f ys) views a s (faulty W e) c u
    along_breaks {W} views e r = record {
      stays = λ k. tt;
      value = λ k. along_stopped e views (r.value (so_far.stays k)) (so_far.value k);
      calls = calls_more a.ahead b.ahead c.ahead s t u tt (faulty W e) so_far.calls (calls_on Z W b.ahead c.ahead t u e r.calls);
    }

    pub along_no_memory : {W : Type 0} (views : W → List X) (z : Z) → ReadsField (f y) view b t (fine z) c u → ReadsField (along f ys) views a s (faulty W OutOfMemory) c u
    along_no_memory {W} views z r = record {
      stays = λ k. tt;
      value = λ k. tt;
      calls = calls_more a.ahead b.ahead c.ahead s t u tt (faulty W OutOfMemory) so_far.calls (calls_unless W b.ahead c.ahead t u z r.calls);
    }

  pub along_finishes : {W : Type 0} (xs : List X) (b : FieldsRead) (t : Input) (views : W → List X) (w : W) → HasReadAlong f ys [] xs a s b t → views w ≡ xs → ReadsField (along f ys) views a s (fine w) b t
  along_finishes xs b t views w so_far e = record {
    stays = so_far.stays;
    value = λ k. sym (so_far.value k) ∙ ap (λ (zs : List X). done (zs, cursor_of b t)) (append-nil xs ∙ sym e);
    calls = calls_ok a.ahead b.ahead s t tt w so_far.calls;
  }

-- ---- values of one format, one per item of another list

module _ {X Y : Type 0} (f : Format X) where
  same_rest : (ys : List Y) (r : Read X) → ((p : Cursor) → read_along (λ (y : Y). f) ys p ≡ read_along (λ (i : ℕ). f) (replicate (length ys) 0) p) → ◌>>=◌ {B = List X × Cursor} r (λ x. read_along (λ (y : Y). f) ys x.1 >>= λ xs. done (x.0 ∷ xs.0, xs.1)) ≡ ◌>>=◌ {B = List X × Cursor} r (λ x. read_along (λ (i : ℕ). f) (replicate (length ys) 0) x.1 >>= λ xs. done (x.0 ∷ xs.0, xs.1))
  same_rest ys (Ok x) h = ap (λ (q : Read (List X)). ◌>>=◌ {B = List X × Cursor} q (λ xs. done (x.0 ∷ xs.0, xs.1))) (h x.1)
  same_rest ys (Err n) h = refl

  pub same_along : (ys : List Y) (p : Cursor) → read_along (λ (y : Y). f) ys p ≡ read_along (λ (i : ℕ). f) (replicate (length ys) 0) p
  same_along [] p = refl
  same_along (y ∷ ys) p = same_rest ys (f.read p) (same_along ys)

  pub reads_along : {Z : Type 0} (views : Z → List X) (ys : List Y) (n : ℕ) (a b : FieldsRead) (s t : Input) (r : Result Z FieldFault) → n ≡ length ys → ReadsField (times n f) views a s r b t → ReadsField (along (λ (y : Y). f) ys) views a s r b t
  reads_along views ys n a b s t r e p = record {
    stays = p.stays;
    value = λ k. subst (λ (x : Read (List X)). GivesReading views r (cursor_of b t) x) (ap (λ (m : ℕ). read_along (λ (i : ℕ). f) (replicate m 0) (cursor_of a s)) e ∙ sym (same_along ys (cursor_of a s))) (p.value k);
    calls = p.calls;
  }
