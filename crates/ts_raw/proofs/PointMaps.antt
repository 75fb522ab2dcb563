-- A list in the order of its keys, as a finite map.
use Rattle.std.proofs.Common.{◌≡◌, ◌≢◌, ◌⊎◌, ⊎_elim, ℕ, suc, ℤ, ◌<◌, ◌≤◌, ◌-◌, Bool, true, false, true≢false, cond, is_lt, is_eq, T, List, [], ◌∷◌, ◌++◌, length, filter, get_or, set, insert, refl, sym, ◌∙◌, ap, Option, Some, None, Result, Ok, Err, Ordering, Less, Equal, Greater, arith}
use Rattle.std.specs.Ordering.{int_cmp, ordering_index}
use Rattle.std.specs.Cmp.{IsTotalOrder, int_cmp_total}
use Rattle.std.specs.FinMap as map
use Rattle.std.specs.FinMap.{put, find, is_sorted, from_sorted, entries, entries-from_sorted, get-from_sorted, entries-insert, same_entries_map, same_map, empty_of_len, len-entries, get-retain_keys, IsAntisymmetric, int_cmp-IsAntisymmetric}
use Rattle.std.specs.FinMap.Entries.{by_order, is_sorted-put, is_sorted-where_key, find-where_key, where_key}
use Rattle.std.specs.List.Sorted.{IsBinarySearchResult}
use Rattle.std.proofs.lemmas.List.{get_or_default}
use Rattle.std.proofs.lemmas.List.Edits.{insert_end}
use Rattle.ts_core.specs.facts.Times.{IsTime}
use Rattle.ts_core.proofs.lists.Places.{rises, found_at, put_at, put_between}
use Rattle.ts_core.proofs.facts.Ids.{equal_of}
use Rattle.std.proofs.lemmas.Cmp.{tied_itself}
use Rattle.ts_raw.specs.Columns.{AreTimed}
use Rattle.ts_raw.specs.PlainColumns.{IsRising, IsIndexOf}

pub from_sorted-nothing : {K X : Type 0} (R : K → K → Ordering) (es : List (K × X)) → es ≡ [] → from_sorted {R = R} es ≡ map.empty
from_sorted-nothing R es e = empty_of_len _ (len-entries (from_sorted es) ∙ ap length (ap (λ fs. entries (from_sorted {R = R} fs)) e ∙ entries-from_sorted R [] tt))

pub len-from_sorted : {K X : Type 0} (R : K → K → Ordering) (es : List (K × X)) → T (is_sorted R es) → map.len (from_sorted {R = R} es) ≡ length es
len-from_sorted R es s = len-entries (from_sorted es) ∙ ap length (entries-from_sorted R es s)

module _ {K X : Type 0} {R : K → K → Ordering} (o : IsTotalOrder R) where
  pub from_sorted-put : (es : List (K × X)) → T (is_sorted R es) → (k : K) (v : X) → from_sorted {R = R} (put R k v es) ≡ map.insert (from_sorted es) k v
  from_sorted-put es s k v = same_entries_map _ _ (
      entries-from_sorted R (put R k v es) (is_sorted-put R o k v es s) ∙ ap (put R k v) (sym (entries-from_sorted R es s)) ∙ sym (entries-insert o (from_sorted es) k v))

  -- the entries whose keys pass a test are the map of these
  pub from_sorted-where : IsAntisymmetric R → (es : List (K × X)) → T (is_sorted R es) → (p : K → Bool) → ((q x : K) → R q x ≡ Equal → p x ≡ p q)
      → from_sorted {R = R} (where_key R p es) ≡ map.retain_keys (from_sorted es) p
  from_sorted-where same es s p alike = same_map o same _ _ (λ q.
      get-from_sorted R (where_key R p es) q (is_sorted-where_key R p es s)
      ∙ find-where_key R p q (alike q) es
      ∙ sym (get-retain_keys (from_sorted es) p q (alike q) ∙ ap (λ (x : Option X). cond (p q) x None) (get-from_sorted R es q s)))

pub rising-put : (points : List (ℤ × ℤ)) → IsRising points → (t v : ℤ) → IsRising (put int_cmp t v points)
rising-put points s t v = is_sorted-put int_cmp int_cmp_total t v points s

-- valid times stay valid: of the points that pass a test, and where one is put among them
pub timed-where : (p : ℤ × ℤ → Bool) (points : List (ℤ × ℤ)) → AreTimed points → AreTimed (filter p points)
timed-where p [] h = tt
timed-where p (x ∷ points) h =
    elim (p x) as (λ b. AreTimed (cond b (x ∷ filter p points) (filter p points))) [ true ↦ (h.0, timed-where p points h.1) | false ↦ timed-where p points h.1 ]

pub timed-put : (points : List (ℤ × ℤ)) → AreTimed points → (t v : ℤ) → IsTime t → AreTimed (put int_cmp t v points)
timed-put [] h t v is = (is, tt)
timed-put (x ∷ points) h t v is =
    elim (int_cmp t x.0) as (λ r. AreTimed (by_order r ((t, v) ∷ x ∷ points) ((x.0, v) ∷ points) (x ∷ put int_cmp t v points))) [
      | Less ↦ (is, h)
      | Equal ↦ h
      | Greater ↦ (h.0, timed-put points h.1 t v is)
    ]

pub kept_map : (points : List (ℤ × ℤ)) → IsRising points → (p : ℤ → Bool) → from_sorted {R = int_cmp} (where_key int_cmp p points) ≡ map.retain_keys (from_sorted points) p
kept_map points s p = from_sorted-where int_cmp_total int_cmp-IsAntisymmetric points s p (λ q x e. ap p (sym (int_cmp-IsAntisymmetric q x e)))

-- ---- what is put where it belongs

index_less : (r : Ordering) → ordering_index r ≤ 0 → r ≡ Less
index_less Less h = refl
index_less Equal h = absurd (omega arith)
index_less Greater h = absurd (omega arith)

pub less_is : (r : Ordering) → is_lt r ≡ true → r ≡ Less
less_is Less h = refl
less_is Equal h = absurd (true≢false (sym h))
less_is Greater h = absurd (true≢false (sym h))

-- a time after the last one comes after all
after_last : (points : List (ℤ × ℤ)) → IsRising points → (t : ℤ) (last : ℤ × ℤ) → last ≡ get_or points (length points - 1) last → int_cmp last.0 t ≡ Less → IsIndexOf t points (Err (length points))
after_last points s t last is before = (
  λ k d l h.
      let up = rises int_cmp_total points s t k (length points - 1) d (omega arith) (omega arith) in
      let same : get_or points (length points - 1) d ≡ last = get_or_default points (length points - 1) d last (omega arith) ∙ sym is in
      let at : int_cmp (get_or points (length points - 1) d).0 t ≡ Less = ap (λ (p : ℤ × ℤ). int_cmp p.0 t) same ∙ before in
      index_less _ (rw at at up),
  λ k d l h. absurd (omega arith),
)

pub put_there : (points : List (ℤ × ℤ)) → IsRising points → (point : ℤ × ℤ) (i : ℕ) → i < length points → IsIndexOf point.0 points (Ok i)
    → set points i point ≡ put int_cmp point.0 point.1 points
put_there points s point i l e =
    let same : (get_or points i point).0 ≡ point.0 = int_cmp-IsAntisymmetric _ _ (e point) in
    ap (λ (t : ℤ). set points i (t, point.1)) (sym same) ∙ sym (put_at int_cmp_total points s point.0 point.1 i point l (e point))

pub put_new : (points : List (ℤ × ℤ)) (point : ℤ × ℤ) (i : ℕ) → i ≤ length points → IsIndexOf point.0 points (Err i)
    → insert points i point ≡ put int_cmp point.0 point.1 points
put_new points point i l p = sym (put_between int_cmp_total points point.0 point.1 i l p)

-- a point after the last one goes to the end
pub put_last : (points : List (ℤ × ℤ)) → IsRising points → (point last : ℤ × ℤ) → last ≡ get_or points (length points - 1) last → int_cmp last.0 point.0 ≡ Less
    → points ++ point ∷ [] ≡ put int_cmp point.0 point.1 points
put_last points s point last is before = sym (insert_end points point) ∙ put_new points point (length points) (omega arith) (after_last points s point.0 last is before)

-- the result of a binary search
pub found_index : (points : List (ℤ × ℤ)) → IsRising points → (t : ℤ) (r : Result ℕ ℕ) → IsBinarySearchResult (λ (p : ℤ × ℤ). int_cmp p.0 t) points r → IsIndexOf t points r
found_index points s t (Ok i) h = h
found_index points s t (Err i) h = h (rises int_cmp_total points s t)

-- ---- the value at a time

absent : (points : List (ℤ × ℤ)) (t : ℤ) → ((k : ℕ) (d : ℤ × ℤ) → k < length points → int_cmp (get_or points k d).0 t ≢ Equal) → find int_cmp t points ≡ None
absent [] t other = refl
absent (p ∷ points) t other =
    let rest : find int_cmp t points ≡ None = absent points t (λ k d l. other (suc k) d (omega arith)) in
    elim (is_eq (int_cmp t p.0)) as (λ b. is_eq (int_cmp t p.0) ≡ b → cond b (Some p.1) (find int_cmp t points) ≡ None) [
      | true ↦ λ e.
          let same : t ≡ p.0 = int_cmp-IsAntisymmetric t p.0 (equal_of (int_cmp t p.0) e) in
          absurd (other 0 p (omega arith) (ap (λ x. int_cmp x t) (sym same) ∙ tied_itself int_cmp_total t))
      | false ↦ λ e. rest
    ] refl

less_apart : Less ≡ Equal → ⊥
less_apart e = true≢false (ap is_lt e)

greater_apart : Greater ≡ Equal → ⊥
greater_apart e = true≢false (sym (ap is_eq e))

before_or : (k i : ℕ) → (k < i) ⊎ (i ≤ k)
before_or k i = grind arith

-- where a binary search found no point
pub value_nowhere : (points : List (ℤ × ℤ)) (t : ℤ) (i : ℕ) → IsIndexOf t points (Err i) → find int_cmp t points ≡ None
value_nowhere points t i index = absent points t (λ k d l e. ⊎_elim {C = ⊥} (λ h. less_apart (sym (index.0 k d (omega arith) h) ∙ e)) (λ h. greater_apart (sym (index.1 k d h l) ∙ e)) (before_or k i))

-- and where it found one
pub value_there : (points : List (ℤ × ℤ)) → IsRising points → (t : ℤ) (i : ℕ) (d : ℤ × ℤ) → i < length points → IsIndexOf t points (Ok i) → find int_cmp t points ≡ Some (get_or points i d).1
value_there points s t i d l e = found_at int_cmp_total points s t i d l (e d)

-- a time after the last one has none
pub value_after : (points : List (ℤ × ℤ)) → IsRising points → (t : ℤ) (last : ℤ × ℤ) → last ≡ get_or points (length points - 1) last → int_cmp last.0 t ≡ Less → find int_cmp t points ≡ None
value_after points s t last is before = value_nowhere points t (length points) (after_last points s t last is before)
