-- The rows of the table of faults, one by one.
use Rattle.std.proofs.Common.{◌≡◌, ◌∙◌, ◌+◌, ℕ, Bool, true, false, cond, List, [], ◌∷◌, ◌++◌, map, filter, append_assoc, append-nil, zero-add, Result, Ok, Err, OnOk, refl, ap, sym}
use Rattle.std.specs.Fmt.{decimal}
use Rattle.std.specs.List.{concat, range_with_len}
use Rattle.std.proofs.lemmas.List.Folds.{concat-append}
use Rattle.std.proofs.lemmas.List.FromFn.{map-range_with_len_more}
use Rattle.ts_core.specs.facts.Facts.{Text}
use Rattle.ts_core.specs.text.FaultCodes.{code_number, code_message, all_codes}
use Rattle.ts_core.specs.declared.text.fault_code.FaultCode.{FaultCode}
use Rattle.tsdb.specs.FaultNumbers.{row_where, requested_row}
use Rattle.tsdb.specs.FaultTables.{fault_row}

-- a requested row is appended
pub row_put : {T E : Type 0} (r : Result T E) (requested : FaultCode → Bool) (code : FaultCode) (old new digits words : Text) → requested code ≡ true → digits ≡ decimal (code_number code) → words ≡ code_message code
    → OnOk r (new ≡ old ++ (digits ++ (32 ∷ (words ++ (10 ∷ []))))) → OnOk r (new ≡ old ++ row_where requested code)
row_put {T} {E} (Err x) requested code old new digits words a d w e = tt
row_put {T} {E} (Ok x) requested code old new digits words a d w e =
    e ∙ (λ j. old ++ (d j ++ (32 ∷ (w j ++ (10 ∷ []))))) ∙ ap (λ (t : Text). old ++ t) (sym (append_assoc (decimal (code_number code)) (32 ∷ code_message code) (10 ∷ [])))
    ∙ ap (λ b. old ++ cond b (fault_row code) []) (sym a)

-- and any other is left out
pub row_left : (requested : FaultCode → Bool) (code : FaultCode) (old : Text) → requested code ≡ false → old ≡ old ++ row_where requested code
row_left requested code old a = sym (append-nil old) ∙ ap (λ b. old ++ cond b (fault_row code) []) (sym a)

-- one number more
pub rows_more : (requested : FaultCode → Bool) (number : ℕ) (old new : Text) → old ≡ concat (map (requested_row requested) (range_with_len 0 number)) → new ≡ old ++ requested_row requested number → new ≡ concat (map (requested_row requested) (range_with_len 0 (number + 1)))
rows_more requested number old new before e =
    e ∙ ap (λ (t : Text). t ++ requested_row requested number) before
    ∙ sym (ap concat (map-range_with_len_more (requested_row requested) 0 number number (zero-add number)) ∙ concat-append (map (requested_row requested) (range_with_len 0 number)) (requested_row requested number ∷ [])
    ∙ ap (λ (t : Text). concat (map (requested_row requested) (range_with_len 0 number)) ++ t) (append-nil (requested_row requested number)))

rows_where : (requested : FaultCode → Bool) (codes : List FaultCode) → concat (map (row_where requested) codes) ≡ concat (map fault_row (filter requested codes))
rows_where requested [] = refl
rows_where requested (c ∷ cs) =
    elim (requested c) as (λ b. cond b (fault_row c) [] ++ concat (map (row_where requested) cs) ≡ concat (map fault_row (cond b (c ∷ filter requested cs) (filter requested cs)))) [
      | true ↦ ap (λ (t : Text). fault_row c ++ t) (rows_where requested cs)
      | false ↦ rows_where requested cs
    ]

-- the numbers below 128 have all faults, in their order
all_there : (requested : FaultCode → Bool) → concat (map (requested_row requested) (range_with_len 0 128)) ≡ concat (map (row_where requested) all_codes)
all_there requested = refl

pub table_whole : (requested : FaultCode → Bool) → concat (map (requested_row requested) (range_with_len 0 128)) ≡ concat (map fault_row (filter requested all_codes))
table_whole requested = all_there requested ∙ rows_where requested all_codes
