-- Filling: a row with data stays, and each other row gets the value of the fill option.
use Rattle.std.proofs.lemmas.Bool.{not-false}
use Rattle.std.proofs.Common.{◌≡◌, ℕ, ℤ, suc, zero, true, false, cond, List, [], ◌∷◌, ◌++◌, map, filter, length, refl, sym, ◌∙◌, ap, subst, inl, inr, Option, Some, None, arith}
use Rattle.std.specs.Prelude.{slice_get}
use Rattle.std.proofs.lemmas.Bool.Decides.{Decides-eqb}
use Rattle.std.specs.List.{AllByRecursion}
use Rattle.ts_core.specs.lists.Members.{Among}
use Rattle.ts_core.specs.facts.Facts.{Fact}
use Rattle.ts_core.specs.aggregates.Aggregates.{Aggregate, aggregate_of, aggregate_of_one, empty_aggregate}
use Rattle.ts_core.specs.aggregates.MergeLaws.{aggregate_laws}
use Rattle.ts_core.specs.queries.Answers.{Row}
use Rattle.ts_core.specs.declared.queries.value.Function.{Function}
use Rattle.ts_core.specs.declared.queries.fill.Fill.{Fill}
use Rattle.ts_core.specs.declared.queries.fill.Fill.TheVariants.{Null as NullFill, None as NoneFill, Previous as PreviousFill, Number as NumberFill}
use Rattle.ts_core.specs.queries.Fills.{value_of, number_value, has_data, shown, numbered, repeated, last_data, with_previous, filled_rows, FilledRow}
use Rattle.ts_core.proofs.lists.MembersLemmas.{Among-filter_passes, Among-filter_was, Among-filter_stays, Among-map, map_back, at_map_of}
use Rattle.ts_core.proofs.aggregates.Folds.{fold-count}

-- ---- rows with data

numbered_data : (fs : List Function) (n : ℤ) (r : Row) → has_data r ≡ true → numbered fs n r ≡ shown fs r
numbered_data fs n r h = ap (λ b. cond b (shown fs r) (record { start = r.start; values = map (number_value n) fs })) h

last_of_data : (e : Option Aggregate) (r : Row) → has_data r ≡ true → last_data e r ≡ Some r.aggregate
last_of_data e r h = ap (λ b. cond b (Some r.aggregate) e) h

last_of_none : (e : Option Aggregate) (r : Row) → has_data r ≡ false → last_data e r ≡ e
last_of_none e r h = ap (λ b. cond b (Some r.aggregate) e) h

previous_data : (fs : List Function) (e : Option Aggregate) (r : Row) (rows : List Row) → Among r rows → has_data r ≡ true → Among (shown fs r) (with_previous fs e rows)
previous_data fs e r [] h d = absurd h
previous_data fs e r (x ∷ rows) (inl p) d = inl (sym (ap (λ a. repeated fs a r.start) (last_of_data e r d)) ∙ ap (λ (y : Row). repeated fs (last_data e y) y.start) p)
previous_data fs e r (x ∷ rows) (inr h) d = inr (previous_data fs (last_data e x) r rows h d)

-- a row with data is shown as it is, whatever the fill
pub filled_rows-data : (fill : Fill) (fs : List Function) (r : Row) (rows : List Row) → Among r rows → has_data r ≡ true → Among (shown fs r) (filled_rows fill fs rows)
filled_rows-data NullFill fs r rows h d = Among-map (shown fs) r rows h
filled_rows-data NoneFill fs r rows h d = Among-map (shown fs) r (filter has_data rows) (Among-filter_stays has_data r rows h d)
filled_rows-data PreviousFill fs r rows h d = previous_data fs None r rows h d
filled_rows-data (NumberFill n) fs r rows h d = subst (λ x. Among x (map (numbered fs n) rows)) (numbered_data fs n r d) (Among-map (numbered fs n) r rows h)

-- ---- and at its index, unless rows are left out

place_previous : (fs : List Function) (e : Option Aggregate) (rows : List Row) (i : ℕ) (r : Row) → slice_get rows i ≡ Some r → has_data r ≡ true → slice_get (with_previous fs e rows) i ≡ Some (shown fs r)
place_previous fs e [] i r h d = absurd (let q : None ≡ Some r = h in cc)
place_previous fs e (x ∷ rows) zero r h d =
    let q : Some x ≡ Some r = h in
    let p : x ≡ r = cc in
    ap (λ (y : Row). Some (repeated fs (last_data e y) y.start)) p ∙ ap (λ a. Some (repeated fs a r.start)) (last_of_data e r d)
place_previous fs e (x ∷ rows) (suc i) r h d = place_previous fs (last_data e x) rows i r h d

pub null_fill-index : (fs : List Function) (rows : List Row) (i : ℕ) (r : Row) → slice_get rows i ≡ Some r → slice_get (filled_rows NullFill fs rows) i ≡ Some (shown fs r)
null_fill-index fs rows i r h = at_map_of (shown fs) rows i r h

pub previous_fill-index : (fs : List Function) (rows : List Row) (i : ℕ) (r : Row) → slice_get rows i ≡ Some r → has_data r ≡ true → slice_get (filled_rows PreviousFill fs rows) i ≡ Some (shown fs r)
previous_fill-index fs rows i r h d = place_previous fs None rows i r h d

pub number_fill-index : (n : ℤ) (fs : List Function) (rows : List Row) (i : ℕ) (r : Row) → slice_get rows i ≡ Some r → has_data r ≡ true → slice_get (filled_rows (NumberFill n) fs rows) i ≡ Some (shown fs r)
number_fill-index n fs rows i r h d = at_map_of (numbered fs n) rows i r h ∙ ap Some (numbered_data fs n r d)

-- ---- rows without data

-- a number fills each
pub number_fill-none : (n : ℤ) (fs : List Function) (rows : List Row) (i : ℕ) (r : Row) → slice_get rows i ≡ Some r → has_data r ≡ false → slice_get (filled_rows (NumberFill n) fs rows) i ≡ Some (record { start = r.start; values = map (number_value n) fs })
number_fill-none n fs rows i r h d = at_map_of (numbered fs n) rows i r h ∙ ap (λ b. Some (cond b (shown fs r) (record { start = r.start; values = map (number_value n) fs }))) d

-- `none` shows rows with data alone
pub none_fill-shown : (fs : List Function) (rows : List Row) (x : FilledRow) → Among x (filled_rows NoneFill fs rows) → (r : Row) × Among r rows × (has_data r ≡ true) × (x ≡ shown fs r)
none_fill-shown fs rows x h = let k = map_back (shown fs) (filter has_data rows) x h in (k.0, Among-filter_was has_data k.0 rows k.1, Among-filter_passes has_data k.0 rows k.1, sym k.2)

-- the data of the last row with data, after rows
abbrev carried : Option Aggregate → List Row → Option Aggregate
carried e [] = e
carried e (r ∷ rows) = carried (last_data e r) rows

previous_append : (fs : List Function) (e : Option Aggregate) (us vs : List Row) → with_previous fs e (us ++ vs) ≡ with_previous fs e us ++ with_previous fs (carried e us) vs
previous_append fs e [] vs = refl
previous_append fs e (u ∷ us) vs = ap (λ xs. repeated fs (last_data e u) u.start ∷ xs) (previous_append fs (last_data e u) us vs)

carried_none : (e : Option Aggregate) (us : List Row) → AllByRecursion (λ r. has_data r ≡ false) us → carried e us ≡ e
carried_none e [] h = refl
carried_none e (u ∷ us) h = carried_none (last_data e u) us h.1 ∙ last_of_none e u h.0

carried_data : (e : Option Aggregate) (us : List Row) (a : Row) (vs : List Row) → has_data a ≡ true → AllByRecursion (λ r. has_data r ≡ false) vs → carried e (us ++ a ∷ vs) ≡ Some a.aggregate
carried_data e [] a vs d h = carried_none (last_data e a) vs h ∙ last_of_data e a d
carried_data e (u ∷ us) a vs d h = carried_data (last_data e u) us a vs d h

-- `previous` repeats the nearest earlier row with data
pub previous_fill-nearest : (fs : List Function) (us : List Row) (a : Row) (vs : List Row) (r : Row) (ws : List Row)
    → has_data a ≡ true → AllByRecursion (λ x. has_data x ≡ false) vs → has_data r ≡ false
    → filled_rows PreviousFill fs ((us ++ a ∷ vs) ++ r ∷ ws) ≡ filled_rows PreviousFill fs (us ++ a ∷ vs) ++ record { start = r.start; values = map (value_of a.aggregate) fs } ∷ with_previous fs (Some a.aggregate) ws
previous_fill-nearest fs us a vs r ws d h n =
    let e : last_data (carried None (us ++ a ∷ vs)) r ≡ Some a.aggregate = last_of_none _ r n ∙ carried_data None us a vs d h in
    previous_append fs None (us ++ a ∷ vs) (r ∷ ws) ∙ ap (λ x. with_previous fs None (us ++ a ∷ vs) ++ repeated fs x r.start ∷ with_previous fs x ws) e

-- and gives nulls where there is none
pub previous_fill-first : (fs : List Function) (us : List Row) (r : Row) (ws : List Row)
    → AllByRecursion (λ x. has_data x ≡ false) us → has_data r ≡ false
    → filled_rows PreviousFill fs (us ++ r ∷ ws) ≡ filled_rows PreviousFill fs us ++ repeated fs None r.start ∷ with_previous fs None ws
previous_fill-first fs us r ws h n =
    let e : last_data (carried None us) r ≡ None = last_of_none _ r n ∙ carried_none None us h in
    previous_append fs None us (r ∷ ws) ∙ ap (λ x. with_previous fs None us ++ repeated fs x r.start ∷ with_previous fs x ws) e

-- ---- no data

none_counted : (fs : List Fact) → length fs ≡ 0 → aggregate_of fs ≡ empty_aggregate
none_counted [] h = refl
none_counted (f ∷ fs) h = absurd (omega arith)

-- facts without data are none: what is shown of them under `null` is null, and 0 for COUNT
pub no_data-empty : (start : ℤ) (fs : List Fact) → has_data (record { start = start; aggregate = aggregate_of fs }) ≡ false → aggregate_of fs ≡ empty_aggregate
no_data-empty start fs h = none_counted fs (sym (fold-count aggregate_laws (λ (f : Fact). aggregate_of_one f.time f.value) (λ f. refl) fs) ∙ (Decides-eqb (aggregate_of fs).count 0).0 (not-false _ h))
