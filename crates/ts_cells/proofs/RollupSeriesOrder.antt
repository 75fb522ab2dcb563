-- The indices of rollup series in the rollup series' order: the index at which to insert one more.
use Rattle.std.proofs.Common.{◌≡◌, ◌↔◌, IsTrue, Bool, Ordering, is_lt, true≢false, ℕ, zero, suc, ◌<◌, ◌≤◌, true, false, cond, T, List, [], ◌∷◌, ◌++◌, length, length-append, get_or, insert, refl, sym, ◌∙◌, ap, ap₂, subst, Some, ⊎_elim, is_eq, arith, Less, Equal, Greater}
use Rattle.std.specs.Ordering.{ordering_index, eq_by_cmp}
use Rattle.std.specs.Cmp.{IsTotalOrder}
use Rattle.std.specs.Cmp.Lexicographic.{slice_cmp}
use Rattle.std.specs.List.{slice_get}
use Rattle.std.specs.List.Sorted.{IsPartitionPoint, IsPartitionedBy, IsNonDecreasingBy}
use Rattle.std.specs.FinMap.{find, put, is_sorted, slice_cmp-IsAntisymmetric}
use Rattle.std.specs.FinMap.Entries.{is_sorted-put, find-put}
use Rattle.std.proofs.lemmas.Cmp.{on_total, then_total, lists_total, nat_list_cmp_total, tied_itself}
use Rattle.std.proofs.lemmas.Map.Lookups.{CmpEqualImpliesEq, exact_pairs, exact_bytes}
use Rattle.std.proofs.lemmas.List.{get_or_append_left}
use Rattle.std.proofs.lemmas.Option.{slice_get-get_or}
use Rattle.std.proofs.lemmas.Bool.{cases_lt}
use Rattle.std.proofs.Math.Seq.{get_or-append_seam}
use Rattle.ts_core.specs.lists.Members.{Among}
use Rattle.ts_core.specs.facts.Facts.{Text, text_cmp}
use Rattle.ts_core.proofs.facts.Ids.{equal_of}
use Rattle.ts_core.proofs.lists.Places.{rises, put_between}
use Rattle.ts_cells.specs.Grids.{RollupSeries, no_rollup_series}
use Rattle.ts_cells.specs.RollupSeriesTable.{rollup_series_cmp, found_cmp, series_numbered, AreInside, IsOrdered}
use Rattle.ts_cells.proofs.GridLemmas.{get_among}
use Rattle.ts_cells.proofs.GridMoves.{all_at, all_insert}

pub rollup_series_total : IsTotalOrder rollup_series_cmp
rollup_series_total = then_total (on_total (λ (l : RollupSeries). l.field) nat_list_cmp_total) (on_total (λ (l : RollupSeries). l.group) (lists_total nat_list_cmp_total))

pub exact_rollup_series : CmpEqualImpliesEq rollup_series_cmp
exact_rollup_series a b h =
    let parts = exact_pairs {A = Text} {B = List Text} text_cmp (slice_cmp text_cmp) exact_bytes (slice_cmp-IsAntisymmetric exact_bytes) (a.field, a.group) (b.field, b.group) h in
    λ i. record { field = (parts i).0; group = (parts i).1 }

found_inside : (ls : List RollupSeries) (n : ℕ) (l : RollupSeries) → n < length ls → found_cmp (slice_get ls n) l ≡ rollup_series_cmp (get_or ls n no_rollup_series) l
found_inside ls n l h = ap (λ o. found_cmp o l) (slice_get-get_or ls n no_rollup_series h)

-- the rollup series at an index of the order
entry_at : (ls : List RollupSeries) (order : List ℕ) (i d : ℕ) (e : RollupSeries × ℕ) → i < length order → get_or (series_numbered ls order) i e ≡ (get_or ls (get_or order i d) no_rollup_series, get_or order i d)
entry_at ls [] i d e h = absurd (omega arith)
entry_at ls (n ∷ ns) zero d e h = refl
entry_at ls (n ∷ ns) (suc i) d e h = entry_at ls ns i d e (omega arith)

lt_below : (a b : Ordering) → ordering_index a ≤ ordering_index b → is_lt b ≡ true → is_lt a ≡ true
lt_below Less b h e = refl
lt_below Equal Less h e = absurd (omega arith)
lt_below Greater Less h e = absurd (omega arith)
lt_below Equal Equal h e = e
lt_below Equal Greater h e = e
lt_below Greater Equal h e = e
lt_below Greater Greater h e = e

less_of : (o : Ordering) → is_lt o ≡ true → o ≡ Less
less_of Less e = refl
less_of Equal e = absurd (true≢false (sym e))
less_of Greater e = absurd (true≢false (sym e))

greater_of : (o : Ordering) → is_lt o ≡ false → (o ≡ Equal → ⊥) → o ≡ Greater
greater_of Less e n = absurd (true≢false e)
greater_of Equal e n = absurd (n refl)
greater_of Greater e n = refl

-- rollup series are the same where they compare as equal
pub same_rollup_series : (a b : RollupSeries) (r : Bool) → r ≡ is_eq (rollup_series_cmp a b) → IsTrue r ↔ (a ≡ b)
same_rollup_series a b r e = (
  λ t. exact_rollup_series a b (equal_of (rollup_series_cmp a b) (sym e ∙ t)),
  λ s. e ∙ ap is_eq (ap (rollup_series_cmp a) (sym s) ∙ tied_itself rollup_series_total a),
)

length-numbered : (ls : List RollupSeries) (order : List ℕ) → length (series_numbered ls order) ≡ length order
length-numbered ls [] = refl
length-numbered ls (n ∷ ns) = ap suc (length-numbered ls ns)

module _ (ls : List RollupSeries) (order : List ℕ) (is : IsOrdered ls order) (l : RollupSeries) where
  -- the comparison of the search at an index
  compared : (i d : ℕ) (e : RollupSeries × ℕ) → i < length order → found_cmp (slice_get ls (get_or order i d)) l ≡ rollup_series_cmp (get_or (series_numbered ls order) i e).0 l
  compared i d e h =
      found_inside ls (get_or order i d) l (all_at (λ n. n < length ls) order i d h is.inside)
      ∙ ap (λ (x : RollupSeries × ℕ). rollup_series_cmp x.0 l) (sym (entry_at ls order i d e h))

  pub order_rises : IsNonDecreasingBy (λ n. ordering_index (found_cmp (slice_get ls n) l)) order
  order_rises i j d a b =
      let e : RollupSeries × ℕ = (no_rollup_series, d) in
      let up = rises rollup_series_total (series_numbered ls order) is.rising l i j e a (let n = length-numbered ls order in omega arith) in
      subst (λ x. ordering_index x ≤ ordering_index (found_cmp (slice_get ls (get_or order j d)) l)) (sym (compared i d e (omega arith)))
      (subst (λ x. ordering_index (rollup_series_cmp (get_or (series_numbered ls order) i e).0 l) ≤ ordering_index x) (sym (compared j d e b)) up)

  -- a rollup series that compares as equal is the one
  equal_among : (k d : ℕ) → k < length order → found_cmp (slice_get ls (get_or order k d)) l ≡ Equal → Among l ls
  equal_among k d h e =
      let n : ℕ = get_or order k d in
      let within : n < length ls = all_at (λ n. n < length ls) order k d h is.inside in
      let same : get_or ls n no_rollup_series ≡ l = exact_rollup_series (get_or ls n no_rollup_series) l (sym (found_inside ls n l within) ∙ e) in
      subst (λ (x : RollupSeries). Among x ls) same (get_among ls n within)

  pub order_parts : IsPartitionedBy (λ n. is_lt (found_cmp (slice_get ls n) l)) order
  order_parts i j d a b e = lt_below (found_cmp (slice_get ls (get_or order i d)) l) (found_cmp (slice_get ls (get_or order j d)) l) (order_rises i j d a b) e

  -- of a rollup series that isn't there none is equal
  pub order_index : (at : ℕ) → (Among l ls → ⊥) → IsPartitionPoint (λ n. is_lt (found_cmp (slice_get ls n) l) ≡ true) (λ n. is_lt (found_cmp (slice_get ls n) l) ≡ false) order at
      → IsPartitionPoint (λ n. found_cmp (slice_get ls n) l ≡ Less) (λ n. found_cmp (slice_get ls n) l ≡ Greater) order at
  order_index at absent p = (
    λ k d a b. less_of (found_cmp (slice_get ls (get_or order k d)) l) (p.0 k d a b),
    λ k d a b. greater_of (found_cmp (slice_get ls (get_or order k d)) l) (p.1 k d a b) (λ e. absent (equal_among k d b e)),
  )

  -- where it would be between others
  between : (at : ℕ) → at ≤ length order → IsPartitionPoint (λ n. found_cmp (slice_get ls n) l ≡ Less) (λ n. found_cmp (slice_get ls n) l ≡ Greater) order at
      → IsPartitionPoint (λ (e : RollupSeries × ℕ). rollup_series_cmp e.0 l ≡ Less) (λ (e : RollupSeries × ℕ). rollup_series_cmp e.0 l ≡ Greater) (series_numbered ls order) at
  between at h p = (
    λ k e a b. sym (compared k 0 e (omega arith)) ∙ p.0 k 0 a b,
    λ k e a b. let n = length-numbered ls order in let m : k < length order = omega arith in sym (compared k 0 e m) ∙ p.1 k 0 a m,
  )

-- ---- one more rollup series

numbered_wider : (ls : List RollupSeries) (l : RollupSeries) (order : List ℕ) → AreInside ls order → series_numbered (ls ++ l ∷ []) order ≡ series_numbered ls order
numbered_wider ls l [] a = refl
numbered_wider ls l (n ∷ ns) a = ap₂ (λ (m : RollupSeries) es. (m, n) ∷ es) (get_or_append_left ls (l ∷ []) no_rollup_series n a.0) (numbered_wider ls l ns a.1)

numbered_more : (ls : List RollupSeries) (l : RollupSeries) (order : List ℕ) (at : ℕ) → at ≤ length order → AreInside ls order → series_numbered (ls ++ l ∷ []) (insert order at (length ls)) ≡ insert (series_numbered ls order) at (l, length ls)
numbered_more ls l order zero h a = ap₂ (λ (m : RollupSeries) es. (m, length ls) ∷ es) (get_or-append_seam ls l [] no_rollup_series) (numbered_wider ls l order a)
numbered_more ls l [] (suc at) h a = absurd (omega arith)
numbered_more ls l (n ∷ ns) (suc at) h a = ap₂ (λ (m : RollupSeries) es. (m, n) ∷ es) (get_or_append_left ls (l ∷ []) no_rollup_series n a.0) (numbered_more ls l ns at (omega arith) a.1)

inside_wider : (ls : List RollupSeries) (l : RollupSeries) (order : List ℕ) → AreInside ls order → AreInside (ls ++ l ∷ []) order
inside_wider ls l [] a = tt
inside_wider ls l (n ∷ ns) a = ((let h = a.0 in let m = length-append ls (l ∷ []) in omega arith), inside_wider ls l ns a.1)

other_rollup_series : (a b : RollupSeries) → (a ≡ b → ⊥) → eq_by_cmp rollup_series_cmp a b ≡ false
other_rollup_series a b n =
    elim (eq_by_cmp rollup_series_cmp a b) as (λ x. eq_by_cmp rollup_series_cmp a b ≡ x → x ≡ false) [
      | true ↦ λ e. absurd (n (exact_rollup_series a b (equal_of (rollup_series_cmp a b) e)))
      | false ↦ λ e. refl
    ] refl

pub order_more : (ls : List RollupSeries) (order : List ℕ) (l : RollupSeries) (at : ℕ) → IsOrdered ls order → (Among l ls → ⊥) → at ≤ length order
    → IsPartitionPoint (λ n. found_cmp (slice_get ls n) l ≡ Less) (λ n. found_cmp (slice_get ls n) l ≡ Greater) order at → IsOrdered (ls ++ l ∷ []) (insert order at (length ls))
order_more ls order l at is absent h p =
    let es : List (RollupSeries × ℕ) = series_numbered ls order in
    let n : ℕ = length ls in
    let here : at ≤ length es = let k = length-numbered ls order in omega arith in
    let after : series_numbered (ls ++ l ∷ []) (insert order at n) ≡ put rollup_series_cmp l n es = numbered_more ls l order at h is.inside ∙ sym (put_between rollup_series_total es l n at here (between ls order is l at h p)) in
    record {
      rising = subst (λ xs. T (is_sorted rollup_series_cmp xs)) (sym after) (is_sorted-put rollup_series_cmp rollup_series_total l n es is.rising);
      inside = all_insert (λ k. k < length (ls ++ l ∷ [])) order at n h (inside_wider ls l order is.inside) (let m = length-append ls (l ∷ []) in omega arith);
      all = λ j w.
          ap (find rollup_series_cmp (get_or (ls ++ l ∷ []) j no_rollup_series)) after ∙ find-put rollup_series_cmp rollup_series_total (get_or (ls ++ l ∷ []) j no_rollup_series) l n es
          ∙ ⊎_elim {C = cond (eq_by_cmp rollup_series_cmp (get_or (ls ++ l ∷ []) j no_rollup_series) l) (Some n) (find rollup_series_cmp (get_or (ls ++ l ∷ []) j no_rollup_series) es) ≡ Some j}
          (λ (k : j < n).
          let same : get_or (ls ++ l ∷ []) j no_rollup_series ≡ get_or ls j no_rollup_series = get_or_append_left ls (l ∷ []) no_rollup_series j k in
          ap (λ (x : RollupSeries). cond (eq_by_cmp rollup_series_cmp x l) (Some n) (find rollup_series_cmp x es)) same
          ∙ ap (λ b. cond b (Some n) (find rollup_series_cmp (get_or ls j no_rollup_series) es)) (other_rollup_series (get_or ls j no_rollup_series) l (λ e. absent (subst (λ (x : RollupSeries). Among x ls) e (get_among ls j k)))) ∙ is.all j k)
          (λ (k : n ≤ j).
          let last : j ≡ n = let m = length-append ls (l ∷ []) in omega arith in
          let same : get_or (ls ++ l ∷ []) j no_rollup_series ≡ l = ap (λ x. get_or (ls ++ l ∷ []) x no_rollup_series) last ∙ get_or-append_seam ls l [] no_rollup_series in
          ap (λ (x : RollupSeries). cond (eq_by_cmp rollup_series_cmp x l) (Some n) (find rollup_series_cmp x es)) same ∙ ap (λ r. cond (is_eq r) (Some n) (find rollup_series_cmp l es)) (tied_itself rollup_series_total l) ∙ ap Some (sym last))
          (cases_lt j n);
    }
