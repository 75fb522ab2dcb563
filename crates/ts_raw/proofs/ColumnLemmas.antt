-- Columns by their indices: look-ups, one more field, one more column.
use Rattle.std.proofs.Common.{◌≡◌, ℕ, ◌<◌, ◌≤◌, true, false, cond, nat_eq, List, [], ◌∷◌, ◌++◌, length, get_or, set, Option, Some, None, refl, sym, ◌∙◌, ap, subst, ⊎_elim, arith, true≢false, eq-eqb, eqb-true}
use Rattle.std.proofs.Math.Nat.{eq-or-lt_of_le}
use Rattle.std.proofs.lemmas.Bool.{cases_eq, and_parts}
use Rattle.std.proofs.lemmas.List.{length_push, get_or_push, get_or_append_left, get_or-set_same, get_or-set_other, length-set, append-nil}
use Rattle.std.proofs.lemmas.Option.{slice_get-get_or, get_or_from_slice_get}
use Rattle.std.specs.Cmp.Derive.{both_true}
use Rattle.ts_core.specs.lists.Members.{Among}
use Rattle.ts_core.proofs.lists.MembersLemmas.{Among-append}
use Rattle.ts_raw.specs.ColumnTables.{same_numbers, is_of_field, IsColumnTable}
use Rattle.ts_core.specs.lists.LastBelow.{last_below, last_with}
use Rattle.ts_core.specs.lists.Numbered.{IsAt, numbers_where}
use Rattle.ts_core.proofs.lists.LastBelows.{last_below-some, last_below-none, last_with-push}
use Rattle.ts_core.proofs.lists.NumberedLemmas.{among_at, at_within, at_among, once_more, numbers_where-push, numbers_from-none}

same_numbers-eq : (x y : ℕ × ℕ) → same_numbers x y ≡ true → x ≡ y
same_numbers-eq x y h =
    let s = and_parts (nat_eq x.0 y.0) (nat_eq x.1 y.1) h in
    let a = eqb-true x.0 y.0 s.0 in
    let b = eqb-true x.1 y.1 s.1 in
    λ i. (a i, b i)

same_numbers-refl : (x : ℕ × ℕ) → same_numbers x x ≡ true
same_numbers-refl x = both_true (eq-eqb x.0 x.0 refl) (eq-eqb x.1 x.1 refl)

other_number : (m n : ℕ) → (m ≡ n → ⊥) → nat_eq m n ≡ false
other_number m n apart = elim (nat_eq m n) as (λ b. nat_eq m n ≡ b → b ≡ false) [ true ↦ λ e. absurd (apart (eqb-true m n e)) | false ↦ λ e. refl ] refl

pub columns_none : (index : ℕ × ℕ → Option ℕ) → ((x : ℕ × ℕ) → index x ≡ None) → IsColumnTable index [] []
unfolding last_below
columns_none index none = record {
  once = tt;
  found = none;
  grouped = λ f l. absurd (omega arith);
  made = λ n x h. absurd (cc);
}

module _ (index : ℕ × ℕ → Option ℕ) (columns : List (ℕ × ℕ)) (members : List (List ℕ)) (table : IsColumnTable index columns members) where
  pub column_found : (x : ℕ × ℕ) (n : ℕ) → index x ≡ Some n → IsAt columns n x
  column_found x n h =
      let s = last_below-some (λ i. same_numbers (get_or columns i (0, 0)) x) (length columns) n (sym (table.found x) ∙ h) in
      let same : get_or columns n (0, 0) ≡ x = same_numbers-eq (get_or columns n (0, 0)) x s.1 in
      subst (λ y. IsAt columns n y) same (slice_get-get_or columns n (0, 0) s.0)

  pub column_absent : (x : ℕ × ℕ) → index x ≡ None → Among x columns → ⊥
  column_absent x h a =
      let at = among_at columns x a in
      let other = last_below-none (λ i. same_numbers (get_or columns i (0, 0)) x) (length columns) (sym (table.found x) ∙ h) at.0 (at_within columns at.0 x at.1) in
      true≢false (sym (ap (λ y. same_numbers y x) (get_or_from_slice_get columns at.0 x (0, 0) at.1) ∙ same_numbers-refl x) ∙ other)

  field_made : (x : ℕ × ℕ) → Among x columns → x.1 < length members
  field_made x a = let at = among_at columns x a in table.made at.0 x at.1

  -- another look at the same columns
  pub columns_same : (index' : ℕ × ℕ → Option ℕ) (columns' : List (ℕ × ℕ)) (members' : List (List ℕ)) → ((x : ℕ × ℕ) → index' x ≡ index x) → columns' ≡ columns → members' ≡ members
      → IsColumnTable index' columns' members'
  columns_same index' columns' members' indices same_columns same_members =
      subst (λ ms. IsColumnTable index' columns' ms) (sym same_members)
      (subst (λ cs. IsColumnTable index' cs members) (sym same_columns)
      record { once = table.once; found = λ x. indices x ∙ table.found x; grouped = table.grouped; made = table.made })

  -- a field without columns
  pub columns_more_fields : IsColumnTable index columns (members ++ [] ∷ [])
  columns_more_fields = record {
    once = table.once;
    found = table.found;
    grouped = λ field l.
        let most : field ≤ length members = omega (arith, length_push members []) in
        ⊎_elim {C = get_or (members ++ [] ∷ []) field [] ≡ numbers_where (is_of_field field) columns}
        (λ (e : field ≡ length members).
        get_or_push members [] [] field (sym e)
        ∙ sym (numbers_from-none (is_of_field field) 0 columns (λ x a. let made = field_made x a in other_number x.1 field (omega arith))))
        (λ (k : field < length members). get_or_append_left members ([] ∷ []) [] field k ∙ table.grouped field k) (eq-or-lt_of_le most);
    made = λ n x h. omega (arith, length_push members [], table.made n x h);
  }

  -- one more column
  pub columns_push : (index' : ℕ × ℕ → Option ℕ) (x : ℕ × ℕ) → x.1 < length members → (Among x columns → ⊥) → ((y : ℕ × ℕ) → index' y ≡ cond (same_numbers x y) (Some (length columns)) (index y))
      → IsColumnTable index' (columns ++ x ∷ []) (set members x.1 (get_or members x.1 [] ++ length columns ∷ []))
  columns_push index' x made absent indices =
      let more : List ℕ = get_or members x.1 [] ++ length columns ∷ [] in
      let long : length (set members x.1 more) ≡ length members = length-set members x.1 more in
      record {
        once = once_more columns x table.once absent;
        found = λ y.
            indices y ∙ ap (λ o. cond (same_numbers x y) (Some (length columns)) o) (table.found y)
            ∙ sym (last_with-push (0, 0) (λ z. same_numbers z y) columns x) ∙ ap (λ n. last_with (0, 0) (λ z. same_numbers z y) (columns ++ x ∷ []) n) (sym (length_push columns x));
        grouped = λ field l.
            ⊎_elim {C = get_or (set members x.1 more) field [] ≡ numbers_where (is_of_field field) (columns ++ x ∷ [])}
            (λ (e : field ≡ x.1).
            ap (λ f. get_or (set members x.1 more) f []) e ∙ get_or-set_same members x.1 more [] made
            ∙ ap (λ ns. ns ++ length columns ∷ []) (table.grouped x.1 made)
            ∙ ap (λ f. numbers_where (is_of_field f) columns ++ length columns ∷ []) (sym e)
            ∙ ap (λ b. numbers_where (is_of_field field) columns ++ cond b (length columns ∷ []) []) (sym (eq-eqb x.1 field (sym e)))
            ∙ sym (numbers_where-push (is_of_field field) columns x))
            (λ (apart : field ≡ x.1 → ⊥).
            get_or-set_other members x.1 field more [] apart ∙ table.grouped field (subst (λ n. field < n) long l)
            ∙ sym (append-nil (numbers_where (is_of_field field) columns))
            ∙ ap (λ b. numbers_where (is_of_field field) columns ++ cond b (length columns ∷ []) []) (sym (other_number x.1 field (λ e. apart (sym e))))
            ∙ sym (numbers_where-push (is_of_field field) columns x))
            (cases_eq field x.1);
        made = λ n y h.
            let within : y.1 < length members =
            ⊎_elim {C = y.1 < length members} (λ a. field_made y a) (λ a. ⊎_elim {C = y.1 < length members} (λ (e : y ≡ x). subst (λ z. z.1 < length members) (sym e) made) (λ k. absurd k) a)
            (Among-append y columns (x ∷ []) (at_among (columns ++ x ∷ []) n y h)) in
            subst (λ m. y.1 < m) (sym long) within;
      }
