-- Waiting columns, exactly those that the run hasn't moved.
use Rattle.std.proofs.Common.{◌≡◌, ◌↔◌, ⊎_elim, ℕ, zero, suc, ◌+◌, ◌-◌, ◌<◌, Option, None, ap, ◌∙◌, Bool, true, false, true≢false, List, [], ◌∷◌, map, take, drop, get_or, refl, sym, subst, inl, inr, arith, slice_get, Some}
use Rattle.std.specs.List.{take-map, drop-map}
use Rattle.std.proofs.lemmas.List.{get_or-drop, length-take}
use Rattle.std.proofs.lemmas.Option.{none-some, same_Some, slice_get_within}
use Rattle.ts_core.specs.lists.Members.{Among, AllDistinct}
use Rattle.ts_core.specs.lists.Numbered.{IsAt}
use Rattle.ts_core.specs.facts.Facts.{Column}
use Rattle.ts_core.specs.store.StoreStates.{ColumnPoints, column_of}
use Rattle.ts_core.proofs.lists.MembersLemmas.{at_map_of}
use Rattle.ts_core.proofs.lists.NumberedLemmas.{at_among, among_at}
use Rattle.ts_store.specs.retain.OpenRuns.{Run, unflagged, waiting_in, IsToMove}
use Rattle.ts_store.proofs.image.ListedColumns.{one_index}

module _ {X : Type 0} where
  -- one that isn't flagged is left, and the other way round
  left_at : (bs : List Bool) (xs : List X) (n : ℕ) (x : X) → IsAt xs n x → get_or bs n false ≡ false → Among x (unflagged bs xs)
  left_at [] xs n x at free = at_among xs n x at
  left_at (b ∷ bs) [] n x at free = absurd (none-some x at)
  left_at (true ∷ bs) (y ∷ xs) zero x at free = absurd (true≢false free)
  left_at (false ∷ bs) (y ∷ xs) zero x at free = inl (sym (same_Some y x at))
  left_at (true ∷ bs) (y ∷ xs) (suc n) x at free = left_at bs xs n x at free
  left_at (false ∷ bs) (y ∷ xs) (suc n) x at free = inr (left_at bs xs n x at free)

  unflagged_at : (bs : List Bool) (xs : List X) (x : X) → Among x (unflagged bs xs) → (n : ℕ) × IsAt xs n x × (get_or bs n false ≡ false)
  unflagged_at [] xs x h = let a = among_at xs x h in (a.0, a.1, refl)
  unflagged_at (b ∷ bs) [] x h = absurd h
  unflagged_at (true ∷ bs) (y ∷ xs) x h = let a = unflagged_at bs xs x h in (suc a.0, a.1, a.2)
  unflagged_at (false ∷ bs) (y ∷ xs) x h =
      ⊎_elim {C = (n : ℕ) × IsAt (y ∷ xs) n x × (get_or (false ∷ bs) n false ≡ false)} (λ e. (zero, ap Some (sym e), refl)) (λ k. let a = unflagged_at bs xs x k in (suc a.0, a.1, a.2)) h

  drop_get : (xs : List X) (a m k : ℕ) → k ≡ a + m → slice_get (drop a xs) m ≡ slice_get xs k
  drop_get [] zero m k e = refl
  drop_get [] (suc a) m k e = refl
  drop_get (y ∷ xs) zero m k e = let same : m ≡ k = omega arith in ap (slice_get (y ∷ xs)) same
  drop_get (y ∷ xs) (suc a) m zero e = absurd (omega (arith, e))
  drop_get (y ∷ xs) (suc a) m (suc k) e = drop_get xs a m k (omega (arith, e))

  take_get : (xs : List X) (b k : ℕ) → k < b → slice_get (take b xs) k ≡ slice_get xs k
  take_get [] zero k l = refl
  take_get [] (suc b) k l = refl
  take_get (y ∷ xs) zero k l = absurd (omega (arith, l))
  take_get (y ∷ xs) (suc b) zero l = refl
  take_get (y ∷ xs) (suc b) (suc k) l = take_get xs b k (omega (arith, l))

  take_below : (xs : List X) (b k : ℕ) (x : X) → IsAt (take b xs) k x → k < b
  take_below xs b k x at = let l = slice_get_within (take b xs) k x at in let m = length-take b xs in omega (arith, l, m)

pub waits_at : (run : Option Run) (columns : List ColumnPoints) (n : ℕ) (c : ColumnPoints) → AllDistinct (map column_of columns) → IsAt columns n c → IsToMove run n ↔ Among c.column (waiting_in run columns)
waits_at None columns n c once at = (λ h. h, λ h. h)
waits_at (Some run) columns n c once at =
    let cs : List Column = map column_of columns in
    let bs : List Bool = drop run.next run.passed in
    let here : IsAt cs n c.column = at_map_of column_of columns n c at in
    let names : drop run.next (take run.end cs) ≡ map column_of (drop run.next (take run.end columns)) = ap (drop run.next) (take-map column_of run.end columns) ∙ drop-map column_of run.next (take run.end columns) in
    subst (λ (xs : List Column). IsToMove (Some run) n ↔ Among c.column (unflagged bs xs)) names (
      λ h.
          let low = h.0 in
          let e : n ≡ run.next + (n - run.next) = omega (arith, low) in
          left_at bs (drop run.next (take run.end cs)) (n - run.next) c.column (drop_get (take run.end cs) run.next (n - run.next) n e ∙ take_get cs run.end n h.1 ∙ here)
          (get_or-drop run.next run.passed (n - run.next) false ∙ ap (λ k. get_or run.passed k false) (sym e) ∙ h.2),
      λ h.
          let w = unflagged_at bs (drop run.next (take run.end cs)) c.column h in
          let whole : IsAt (take run.end cs) (run.next + w.0) c.column = sym (drop_get (take run.end cs) run.next w.0 (run.next + w.0) refl) ∙ w.1 in
          let below = take_below cs run.end (run.next + w.0) c.column whole in
          let same : n ≡ run.next + w.0 = one_index cs n (run.next + w.0) c.column once here (sym (take_get cs run.end (run.next + w.0) below) ∙ whole) in
          (omega (arith, same), omega (arith, same, below), ap (λ k. get_or run.passed k false) same ∙ sym (get_or-drop run.next run.passed w.0 false) ∙ w.2),
    )
