-- Points of a column, by membership: after an insertion, from a mark on, and within a range; and their order.
use Rattle.std.proofs.Common.{◌≡◌, ◌≢◌, ◌↔◌, ℤ, ◌≤ℤ◌, ◌<ℤ◌, int_le, int_lt, Bool, true, false, cond, refl, sym, ◌∙◌, ap, inl, inr, ◌⊎◌, ⊎_elim, Option, Some, None, true≢false, is_eq}
use Rattle.std.specs.Ordering.{int_cmp, int_eq}
use Rattle.std.specs.Cmp.{int_cmp_total}
use Rattle.std.specs.FinMap as map
use Rattle.std.specs.FinMap.{entries, entries_sorted, get-entries, get-insert, get-retain_keys, int_cmp-IsAntisymmetric}
use Rattle.std.specs.FinMap.Entries.{is_sorted-where_key}
use Rattle.std.proofs.lemmas.Cmp.{tied_itself}
use Rattle.std.proofs.lemmas.Option.{same_Some}
use Rattle.std.proofs.lemmas.Bool.{and_parts, and_from}
use Rattle.ts_core.specs.lists.Members.{Among, AllDistinct}
use Rattle.ts_core.specs.aggregates.Buckets.{bucket_of}
use Rattle.ts_core.specs.facts.Facts.{is_within}
use Rattle.ts_core.proofs.lists.MembersLemmas.{Among-filter_passes, Among-filter_was, Among-filter_stays}
use Rattle.ts_core.proofs.lists.Sorted.{sorted-distinct, found_among, among_found}
use Rattle.ts_core.proofs.lists.Comparisons.{le_from, le_true, lt_from, lt_true}
use Rattle.ts_core.proofs.facts.Ids.{equal_of}
use Rattle.ts_raw.specs.Columns.{PointMap, points_within, points_from, points_in_bucket}
use Rattle.ts_raw.specs.PlainColumns.{IsRising}

-- each time once
pub points-distinct : (m : PointMap) → AllDistinct (entries m)
points-distinct m = sorted-distinct int_cmp_total (entries m) (entries_sorted m)

pub points-rising : (m : PointMap) → IsRising (entries m)
points-rising m = entries_sorted m

-- a point is among them exactly where the map has its value at its time
pub among-get : (m : PointMap) (p : ℤ × ℤ) → Among p (entries m) → map.get m p.0 ≡ Some p.1
among-get m p a = get-entries m p.0 ∙ found_among int_cmp_total (entries m) (entries_sorted m) p a

pub get-among : (m : PointMap) (p : ℤ × ℤ) → map.get m p.0 ≡ Some p.1 → Among p (entries m)
get-among m p h = among_found int_cmp-IsAntisymmetric (entries m) p.0 p.1 (sym (get-entries m p.0) ∙ h)

-- within a range: those from its start on, before its end
pub among-within : (m : PointMap) (a b : ℤ) (p : ℤ × ℤ) → Among p (points_within m a b) ↔ (Among p (entries m) × (a ≤ℤ p.0) × (p.0 <ℤ b))
among-within m a b p =
    let q : ℤ × ℤ → Bool = λ x. is_within a b x.0 in (
      λ h. let t = and_parts (int_le a p.0) (int_lt p.0 b) (Among-filter_passes q p (entries m) h) in (Among-filter_was q p (entries m) h, le_from a p.0 t.0, lt_from p.0 b t.1),
      λ h. Among-filter_stays q p (entries m) h.0 (and_from (int_le a p.0) (int_lt p.0 b) (le_true a p.0 h.1) (lt_true p.0 b h.2)),
    )

pub within-rising : (m : PointMap) (a b : ℤ) → IsRising (points_within m a b)
within-rising m a b = is_sorted-where_key int_cmp (is_within a b) (entries m) (entries_sorted m)

-- the points of a bucket are in order too
pub in_bucket-rising : (m : PointMap) (k i o : ℤ) → IsRising (points_in_bucket m k i o)
in_bucket-rising m k i o = is_sorted-where_key int_cmp (λ t. int_eq (bucket_of t i o) k) (entries m) (entries_sorted m)

pub get-points_from : (m : PointMap) (handle t : ℤ) → map.get (points_from m handle) t ≡ cond (int_le handle t) (map.get m t) None
get-points_from m handle t = get-retain_keys m (int_le handle) t (λ x e. ap (int_le handle) (sym (int_cmp-IsAntisymmetric t x e)))

some_where : (b : Bool) (x : Option ℤ) (v : ℤ) → cond b x None ≡ Some v → (b ≡ true) × (x ≡ Some v)
some_where true x v h = (refl, h)
some_where false x v h = absurd (let e : None ≡ Some v = h in cc)

-- from a mark on: those at the mark and after it
pub among-from : (m : PointMap) (handle : ℤ) (p : ℤ × ℤ) → Among p (entries (points_from m handle)) ↔ (Among p (entries m) × (handle ≤ℤ p.0))
among-from m handle p = (
  λ h.
      let t = some_where (int_le handle p.0) (map.get m p.0) p.1 (sym (get-points_from m handle p.0) ∙ among-get (points_from m handle) p h) in
      (get-among m p t.1, le_from handle p.0 t.0),
  λ h. get-among (points_from m handle) p (get-points_from m handle p.0 ∙ ap (λ b. cond b (map.get m p.0) None) (le_true handle p.0 h.1) ∙ among-get m p h.0),
)

same_time : (x y : ℤ) → is_eq (int_cmp x y) ≡ true → x ≡ y
same_time x y h = int_cmp-IsAntisymmetric x y (equal_of (int_cmp x y) h)

its_time : (x y : ℤ) → x ≡ y → is_eq (int_cmp x y) ≡ true
its_time x y e = ap (λ z. is_eq (int_cmp x z)) (sym e) ∙ ap is_eq (tied_itself int_cmp_total x)

other_time : (x y : ℤ) → x ≢ y → is_eq (int_cmp x y) ≡ false
other_time x y apart = elim (is_eq (int_cmp x y)) as (λ b. is_eq (int_cmp x y) ≡ b → b ≡ false) [ true ↦ λ h. absurd (apart (same_time x y h)) | false ↦ λ h. refl ] refl

-- after a point was put in: that one, and those of other times
pub among-insert : (m : PointMap) (t v : ℤ) (p : ℤ × ℤ) → Among p (entries (map.insert m t v)) ↔ ((p ≡ (t, v)) ⊎ (Among p (entries m) × (p.0 ≢ t)))
among-insert m t v p =
    let has = get-insert int_cmp_total m t v p.0 in (
      λ h.
          elim (is_eq (int_cmp p.0 t)) as (λ b. is_eq (int_cmp p.0 t) ≡ b → cond b (Some v) (map.get m p.0) ≡ Some p.1 → (p ≡ (t, v)) ⊎ (Among p (entries m) × (p.0 ≢ t))) [
            | true ↦ λ e q. inl (λ i. (same_time p.0 t e i, sym (same_Some v p.1 q) i))
            | false ↦ λ e q. inr (get-among m p q, λ same. true≢false (sym (its_time p.0 t same) ∙ e))
          ] refl (sym has ∙ among-get (map.insert m t v) p h),
      λ h.
          get-among (map.insert m t v) p
          (⊎_elim {C = map.get (map.insert m t v) p.0 ≡ Some p.1}
          (λ e. has ∙ ap (λ b. cond b (Some v) (map.get m p.0)) (its_time p.0 t (ap (λ (x : ℤ × ℤ). x.0) e)) ∙ ap (λ (x : ℤ × ℤ). Some x.1) (sym e))
          (λ k. has ∙ ap (λ b. cond b (Some v) (map.get m p.0)) (other_time p.0 t k.1) ∙ among-get m p k.0)
          h),
    )
