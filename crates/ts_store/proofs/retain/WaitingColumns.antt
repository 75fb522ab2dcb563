-- The waiting columns of an open run, and the first of them.
use Rattle.std.proofs.Common.{rules, ◌≡◌, ℕ, zero, suc, ◌+◌, ◌-◌, ◌<◌, ◌≤◌, Bool, true, false, true≢false, List, [], ◌∷◌, ◌++◌, length, map, take, drop, refl, sym, ◌∙◌, ap, arith, Option, Some, None, add-one, get_or, if◌then◌else◌}
use Rattle.std.specs.List.{slice_get}
use Rattle.std.specs.Option.{is_some}
use Rattle.std.proofs.lemmas.List.{length-take, length-map, length-append, drop-map, take-map, take-append-le, take_all}
use Rattle.std.proofs.Math.ListN.{drop_of_length-le}
use Rattle.std.proofs.Math.Seq.{drop-nil}
use Rattle.std.proofs.lemmas.Option.{same_Some}
use Rattle.ts_core.specs.facts.Facts.{Column}
use Rattle.ts_core.specs.lists.Numbered.{IsAt}
use Rattle.ts_core.specs.store.StoreStates.{ColumnPoints, column_of}
use Rattle.ts_store.specs.retain.OpenRuns.{Run, run_over, unflagged, waiting_in, IsWithin, TakesFirst, ArePassed, run_of}

-- ---- elements without a flag

unflagged-none : {X : Type 0} (bs : List Bool) → unflagged {X = X} bs [] ≡ []
unflagged-none [] = refl
unflagged-none (b ∷ bs) = refl

-- the next element is flagged
flagged_next : {X : Type 0} (n : ℕ) (bs : List Bool) (x : X) (xs : List X) → get_or bs n false ≡ true → unflagged (drop n bs) (x ∷ xs) ≡ unflagged (drop (suc n) bs) xs
flagged_next zero (b ∷ bs) x xs e = ap (λ c. if c then unflagged bs xs else x ∷ unflagged bs xs) e
flagged_next (suc n) (b ∷ bs) x xs e = flagged_next n bs x xs e
flagged_next _ _ x xs e = absurd (true≢false (sym e))

-- or it isn't
unflagged_next : {X : Type 0} (n : ℕ) (bs : List Bool) (x : X) (xs : List X) → get_or bs n false ≡ false → unflagged (drop n bs) (x ∷ xs) ≡ x ∷ unflagged (drop (suc n) bs) xs
unflagged_next zero (b ∷ bs) x xs e = ap (λ c. if c then unflagged bs xs else x ∷ unflagged bs xs) e
unflagged_next (suc n) (b ∷ bs) x xs e = unflagged_next n bs x xs e
unflagged_next _ _ x xs e = refl

-- all that are left from an index on
left_from : {X : Type 0} → List Bool → List X → ℕ → List X
left_from bs xs n = unflagged (drop n bs) (drop n xs)

-- a flagged one is skipped
flagged_step : {X : Type 0} (n : ℕ) (bs : List Bool) (xs : List X) → get_or bs n false ≡ true → left_from bs xs n ≡ left_from bs xs (suc n)
unfolding left_from
flagged_step n bs [] e = ap (unflagged (drop n bs)) (drop-nil n) ∙ unflagged-none (drop n bs) ∙ sym (unflagged-none (drop (suc n) bs))
flagged_step zero bs (x ∷ xs) e = flagged_next zero bs x xs e
flagged_step (suc n) [] (x ∷ xs) e = absurd (true≢false (sym e))
flagged_step (suc n) (b ∷ bs) (x ∷ xs) e = flagged_step n bs xs e

-- each of these is flagged, and skipped
flagged_steps : {X : Type 0} (d from : ℕ) (bs : List Bool) (xs : List X) → ArePassed bs from (from + d) → left_from bs xs from ≡ left_from bs xs (from + d)
flagged_steps zero from bs xs all = ap (left_from bs xs) (omega arith)
flagged_steps (suc d) from bs xs all =
    flagged_steps d from bs xs (λ k low high. all k low (omega (arith, high)))
    ∙ flagged_step (from + d) bs xs (all (from + d) (omega arith) (omega arith))
    ∙ ap (left_from bs xs) (omega arith)

-- ---- the columns of a run

first_left : {X : Type 0} (n e : ℕ) (xs : List X) (x : X) → n < e → slice_get xs n ≡ Some x → drop n (take e xs) ≡ x ∷ drop (suc n) (take e xs)
first_left zero (suc e) (y ∷ xs) x l at = ap (λ z. z ∷ take e xs) (same_Some y x at)
first_left (suc n) (suc e) (y ∷ xs) x l at = first_left n e xs x (omega arith) at
first_left _ _ _ x l at = search rules

abbrev run_at : ℕ → ℕ → List Bool → Run
run_at next end passed = record { next = next; end = end; passed = passed }

waiting_left : (next end : ℕ) (bs : List Bool) (cs : List ColumnPoints) → waiting_in (Some (run_at next end bs)) cs ≡ left_from bs (map column_of (take end cs)) next
unfolding left_from
waiting_left next end bs cs = ap (unflagged (drop next bs)) (sym (drop-map column_of next (take end cs)))

-- the run goes over passed columns
passed_over : (d next end : ℕ) (bs : List Bool) (cs : List ColumnPoints) → ArePassed bs next (next + d) → waiting_in (Some (run_at next end bs)) cs ≡ waiting_in (Some (run_at (next + d) end bs)) cs
passed_over d next end bs cs all = waiting_left next end bs cs ∙ flagged_steps d next bs (map column_of (take end cs)) all ∙ sym (waiting_left (next + d) end bs cs)

-- the next one waits
pub next_waits : (n end : ℕ) (bs : List Bool) (cs : List ColumnPoints) (s : ColumnPoints) → n < end → get_or bs n false ≡ false → IsAt cs n s → waiting_in (Some (run_at n end bs)) cs ≡ s.column ∷ waiting_in (Some (run_at (n + 1) end bs)) cs
next_waits n end bs cs s l flag at =
    ap (λ ds. unflagged (drop n bs) (map column_of ds)) (first_left n end cs s l at)
    ∙ unflagged_next n bs s.column (map column_of (drop (suc n) (take end cs))) flag
    ∙ ap (λ m. s.column ∷ waiting_in (Some (run_at m end bs)) cs) (sym (add-one n))

-- none waits from the end on
pub none_waits : (next end : ℕ) (bs : List Bool) (cs : List ColumnPoints) → end ≤ next → waiting_in (Some (run_at next end bs)) cs ≡ []
none_waits next end bs cs l =
    ap (λ ds. unflagged (drop next bs) (map column_of ds)) (drop_of_length-le (take end cs) (let e = length-take end cs in omega arith))
    ∙ unflagged-none (drop next bs)

-- ---- the first is taken

pub is_open : (running : Bool) (next end : ℕ) (bs : List Bool) → is_some (run_of running next end bs) ≡ true → running ≡ true
is_open true next end bs e = refl
is_open false next end bs e = e

pub takes_one : (running : Bool) (next end : ℕ) (bs : List Bool) (n : ℕ) → running ≡ true → next ≤ n → n < end → get_or bs n false ≡ false → ArePassed bs next n → TakesFirst (run_of running next end bs) (run_of running (n + 1) end bs) (Some n)
takes_one false next end bs n runs low high flag all = absurd (true≢false (sym runs))
takes_one true next end bs n runs low high flag all =
    let to : next + (n - next) ≡ n = omega (arith, low) in
    record {
      first = λ cs s at.
          passed_over (n - next) next end bs cs (λ k from below. all k from (omega (arith, to, below)))
          ∙ ap (λ m. waiting_in (Some (run_at m end bs)) cs) to
          ∙ next_waits n end bs cs s high flag at;
      none = tt;
      within = λ cs was. ((omega (arith, high), was.1), omega (arith, high, was.1));
      running = refl;
    }

pub takes_none : (running : Bool) (next end : ℕ) (bs : List Bool) → running ≡ true → ArePassed bs next end → TakesFirst (run_of running next end bs) (run_of running end end bs) None
takes_none false next end bs runs all = absurd (true≢false (sym runs))
takes_none true next end bs runs all = record {
  first = tt;
  none = λ cs. (
    passed_over (end - next) next end bs cs (λ k from below. all k from (omega (arith, from, below)))
        ∙ none_waits (next + (end - next)) end bs cs (omega arith),
    none_waits end end bs cs (omega arith),
  );
  within = λ cs was. ((omega arith, was.1), tt);
  running = refl;
}

-- ---- by the names of the columns

abbrev names_waiting : Option Run → List Column → List Column
names_waiting None names = []
names_waiting (Some run) names = unflagged (drop run.next run.passed) (drop run.next (take run.end names))

waiting_names : (run : Option Run) (columns : List ColumnPoints) → waiting_in run columns ≡ names_waiting run (map column_of columns)
waiting_names None columns = refl
waiting_names (Some run) columns =
    ap (unflagged (drop run.next run.passed)) (sym (drop-map column_of run.next (take run.end columns)) ∙ ap (drop run.next) (sym (take-map column_of run.end columns)))

pub same_waiting : (run : Option Run) (before after : List ColumnPoints) → map column_of before ≡ map column_of after → waiting_in run before ≡ waiting_in run after
same_waiting run before after e = waiting_names run before ∙ ap (names_waiting run) e ∙ sym (waiting_names run after)

-- more columns after the others
abbrev pub NamesMore : List ColumnPoints → List ColumnPoints → List Column → Type 0
NamesMore before after made = map column_of after ≡ map column_of before ++ made

length_more : (before after : List ColumnPoints) (made : List Column) → NamesMore before after made → length before ≤ length after
length_more before after made more =
    let a = length-map before column_of in
    let b = length-map after column_of in
    let c = ap length more in
    omega (arith, a, b, c, length-append (map column_of before) made)

pub within_more : (run : Option Run) (before after : List ColumnPoints) (made : List Column) → NamesMore before after made → IsWithin run before → IsWithin run after
within_more None before after made more within = within
within_more (Some run) before after made more within = (within.0, (let l = length_more before after made more in omega (arith, l, within.1)))

-- none of them waits
pub waiting_more : (run : Option Run) (before after : List ColumnPoints) (made : List Column) → NamesMore before after made → IsWithin run before → waiting_in run after ≡ waiting_in run before
waiting_more None before after made more within = refl
waiting_more (Some run) before after made more within =
    let end : run.end ≤ length (map column_of before) = let l = length-map before column_of in omega (arith, l, within.1) in
    waiting_names (Some run) after
    ∙ ap (names_waiting (Some run)) more
    ∙ ap (λ names. unflagged (drop run.next run.passed) (drop run.next names)) (take-append-le run.end (map column_of before) made end)
    ∙ sym (waiting_names (Some run) before)

-- each column waits when a run begins
pub all_wait : (cs : List ColumnPoints) (n : ℕ) → n ≡ length cs → waiting_in (Some (run_over n)) cs ≡ map column_of cs
all_wait cs n e = ap (map column_of) (take_all n cs (omega arith))
