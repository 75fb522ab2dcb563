-- LineTexts: the outcome of a text, by the result of parsing it and the store's answer.
use Rattle.std.proofs.Common.{◌≡◌, ◌⊎◌, ⊎_elim, ℤ, int_le, ◌+◌, ◌^◌, nat_le, length, List, Bool, true, not, Option, Some, None, Result, Ok, Err, IfSome, IsNone, refl, sym, ap, ◌∙◌, subst}
use Rattle.ts_core.specs.facts.Facts.{Text, Series}
use Rattle.ts_core.specs.settings.SettingsFaults.{unless}
use Rattle.ts_core.specs.lists.Numbered.{Gains}
use Rattle.ts_core.specs.store.StoreData.{StoreData}
use Rattle.ts_core.specs.declared.facts.time_unit.TimeUnit.{TimeUnit}
use Rattle.ts_line.specs.Parts.{Parts, series_of, line_facts}
use Rattle.ts_store.specs.write.LinesPut.{Accepts, Leaves}
use Rattle.ts_store.specs.write.LineTexts.{LineState, IsStateOf, WritesText, RunsOutOfMemory, refusal_in, parts_in, with_line, with_series}
use Rattle.ts_store.specs.write.Refusals.{is_too_many, write_fault}
use Rattle.ts_store.specs.write.Registered.{MayGain}
use Rattle.ts_store.specs.declared.write.fault.WriteFault.{WriteFault}
use Rattle.ts_store.specs.declared.write.fault.WriteFault.TheVariants as write
use Rattle.ts_store.specs.declared.write.write_text.LineOutcome.TheVariants.{Accepted, Refused}
use Rattle.ts_store.specs.declared.write.write_text.LineRefusal.TheVariants.{Write}

-- ---- the store's answer

abbrev pub Written : Type 0
Written = Result (Unit {0}) WriteFault

abbrev pub refused_by : WriteFault → Written
refused_by f = Err f

abbrev pub accepted_by : Written
accepted_by = Ok tt

err_same : (f g : WriteFault) → refused_by f ≡ refused_by g → f ≡ g
err_same f g e = cc

-- an error other than out of memory is the line's refusal, and nothing has changed
refused_now : (o : Option WriteFault) (old new : StoreData) (parts : Parts) (fault : WriteFault)
    → IfSome o (λ f. (refused_by fault ≡ Err f) × (new ≡ old)) → (IsNone o → (refused_by fault ≡ Ok tt) ⊎ ((refused_by fault ≡ Err write.OutOfMemory) × Leaves old new parts))
    → (fault ≡ write.OutOfMemory → ⊥) → (o ≡ Some fault) × (new ≡ old)
refused_now (Some f) old new parts fault refused taken other = (ap Some (sym (err_same fault f refused.0)), refused.1)
refused_now None old new parts fault refused taken other =
    ⊎_elim {C = (None ≡ Some fault) × (new ≡ old)} (λ done. absurd cc) (λ want. absurd (other (err_same fault write.OutOfMemory want.0))) (taken refl)

-- the fault that the store finds is the one of its state
same_refusal : (s : LineState) (parts : Parts) (k : StoreData) → IsStateOf s k → write_fault k.raw_mark k.series k.accepted parts ≡ refusal_in s parts
same_refusal s parts k i = λ j. write_fault (i.stands.marks j).raw (i.series j) (i.stands.accepted j) parts

module _ (parts : Parts) (old new : StoreData) (fault : WriteFault) (refused : IfSome (write_fault old.raw_mark old.series old.accepted parts) (λ f. (refused_by fault ≡ Err f) × (new ≡ old)))
    (taken : IsNone (write_fault old.raw_mark old.series old.accepted parts) → (refused_by fault ≡ Ok tt) ⊎ ((refused_by fault ≡ Err write.OutOfMemory) × Leaves old new parts)) (other : fault ≡ write.OutOfMemory → ⊥) where
  pub refused_same : new ≡ old
  refused_same = (refused_now (write_fault old.raw_mark old.series old.accepted parts) old new parts fault refused taken other).1

  pub wrote_refused : (precision : TimeUnit) (now : ℤ) (text : Text) → parts_in precision now text ≡ Ok (Some parts) → (s : LineState) → IsStateOf s old → (x : LineState) × WritesText precision now s text (Refused (Write fault)) x × IsStateOf x new
  wrote_refused precision now text reads s i =
      let found = refused_now (write_fault old.raw_mark old.series old.accepted parts) old new parts fault refused taken other in
      (s, WritesText.refuses parts fault reads (sym (same_refusal s parts old i) ∙ found.0), subst (IsStateOf s) (sym found.1) i)

-- ---- a line that is accepted

none_found : (o : Option WriteFault) (old new : StoreData) → IfSome o (λ f. (accepted_by ≡ Err f) × (new ≡ old)) → o ≡ None
none_found None old new h = refl
none_found (Some f) old new h = absurd (let e : accepted_by ≡ Err f = h.0 in cc)

pub wrote_accepted : (precision : TimeUnit) (now : ℤ) (text : Text) (parts : Parts) (old new : StoreData) → parts_in precision now text ≡ Ok (Some parts) → Accepts old new parts
    → IfSome (write_fault old.raw_mark old.series old.accepted parts) (λ f. (accepted_by ≡ Err f) × (new ≡ old)) → (s : LineState) → IsStateOf s old → (x : LineState) × WritesText precision now s text Accepted x × IsStateOf x new
wrote_accepted precision now text parts old new reads a refused s i = (
  with_line parts new.series s,
  WritesText.accepts parts new.series reads (sym (same_refusal s parts old i) ∙ none_found (write_fault old.raw_mark old.series old.accepted parts) old new refused)
      (subst (λ (before : List Series). Gains before new.series (series_of parts)) i.series a.series),
  record { stands = a.history s.opening s.history i.stands; series = refl },
)

-- ---- out of memory

-- a line is never refused as out of memory
never_memory : (a b c : Bool) (mark : ℤ) → unless a (write.BelowRawMark mark) (unless b write.TooManySeries (unless c write.TooManyFacts None)) ≡ Some write.OutOfMemory → ⊥
never_memory true true true mark e = cc
never_memory _ _ _ mark e = cc

module _ (parts : Parts) (old new : StoreData) (fault : WriteFault) (refused : IfSome (write_fault old.raw_mark old.series old.accepted parts) (λ f. (refused_by fault ≡ Err f) × (new ≡ old)))
    (taken : IsNone (write_fault old.raw_mark old.series old.accepted parts) → (refused_by fault ≡ Ok tt) ⊎ ((refused_by fault ≡ Err write.OutOfMemory) × Leaves old new parts)) (memory : fault ≡ write.OutOfMemory) where
  left_by_cases : (o : Option WriteFault) → write_fault old.raw_mark old.series old.accepted parts ≡ o → (write_fault old.raw_mark old.series old.accepted parts ≡ None) × Leaves old new parts
  left_by_cases (Some f) e =
      let same : f ≡ write.OutOfMemory = sym (err_same fault f (subst (λ (p : Option WriteFault). IfSome p (λ g. (refused_by fault ≡ Err g) × (new ≡ old))) e refused).0) ∙ memory in
      absurd (never_memory (int_le old.raw_mark parts.time) (not (is_too_many old.series (series_of parts))) (nat_le (old.accepted + length (line_facts parts)) (2 ^ 62)) old.raw_mark (e ∙ ap Some same))
  left_by_cases None e = (
    e,
    ⊎_elim {C = Leaves old new parts} (λ done. absurd (let p : refused_by fault ≡ Ok tt = done in cc)) (λ want. want.1) (subst (λ (p : Option WriteFault). IsNone p → (refused_by fault ≡ Ok tt) ⊎ ((refused_by fault ≡ Err write.OutOfMemory) × Leaves old new parts)) e taken refl),
  )

  pub left_without_memory : Leaves old new parts
  left_without_memory = (left_by_cases (write_fault old.raw_mark old.series old.accepted parts) refl).1

  pub wrote_without_memory : (precision : TimeUnit) (now : ℤ) (text : Text) → parts_in precision now text ≡ Ok (Some parts) → (s : LineState) → IsStateOf s old → (x : LineState) × RunsOutOfMemory precision now s text x × IsStateOf x new
  wrote_without_memory precision now text reads s i =
      let none = (left_by_cases (write_fault old.raw_mark old.series old.accepted parts) refl).0 in (
        with_series new.series s,
        RunsOutOfMemory.in_writing parts new.series reads (sym (same_refusal s parts old i) ∙ none) (subst (λ (before : List Series). MayGain before new.series (series_of parts)) i.series left_without_memory.series),
        record { stands = left_without_memory.history s.opening s.history i.stands; series = refl },
      )
