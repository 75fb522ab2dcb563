-- Boundaries of a rule's buckets and of a query's: a cell that fits a query lies in one of its buckets.
use borrow.Author.Differences.{up, down, product_is}
use Rattle.ts_core.proofs.aggregates.BucketsLemmas.{times_sum}
use Rattle.std.proofs.lemmas.Bool.{and_parts}
use Rattle.std.proofs.Common.{◌≡◌, ℕ, ◌*◌, ℤ, pos, negsuc, ◌-◌, ◌/◌, ◌%◌, ◌<◌, ◌+ℤ◌, ◌-ℤ◌, ◌*ℤ◌, ◌≤ℤ◌, ◌<ℤ◌, true, ◌&&◌, arith, sym, ap, ap₂, ◌∙◌, subst, div-add-mod', mod-lt, int_le, int_lt, ◌⊎◌, ⊎_elim}
use Rattle.std.specs.Int.{int_rem_euclid}
use Rattle.std.proofs.Math.IntN.{pos-*ℤ-pos, negsuc-*ℤ-pos}
use Rattle.std.proofs.lemmas.Int.{ints, by_lt_z}
use Rattle.ts_core.specs.facts.Facts.{is_within}
use Rattle.ts_core.specs.settings.Settings.{Rule}
use Rattle.ts_core.specs.aggregates.Buckets.{IsBucketOf, bucket_of}
use Rattle.ts_core.specs.store.Marks.{index_of}
use Rattle.ts_core.specs.queries.Queries.{Query}
use Rattle.ts_core.specs.plans.Pieces.{start_of, IsBoundary, IsAligned, IsInOneBucket}
use Rattle.ts_core.proofs.aggregates.BucketsOrder.{bucket_same, bucket_is, times_le, bucket_le}
use Rattle.ts_core.proofs.lists.Comparisons.{le_from, le_true, lt_from, lt_true, same_bool}
use Rattle.ts_core.proofs.plans.GoodPlaces.{index_of-start}

-- ---- products

times_again : (k d i : ℤ) → k *ℤ (d *ℤ i) ≡ (k *ℤ d) *ℤ i
times_again k d i =
    let a = product_is k d in
    let b = product_is d i in
    let left = product_is k (d *ℤ i) in
    let right = product_is (k *ℤ d) i in
    let by = λ (x m n : ℕ) (e : m ≡ n). ap (λ y. y * x) e in
    omega (arith, ints, left.0, left.1, right.0, right.1, by (up k) _ _ b.0, by (down k) _ _ b.0, by (up k) _ _ b.1, by (down k) _ _ b.1, by (up i) _ _ a.0, by (down i) _ _ a.0, by (up i) _ _ a.1, by (down i) _ _ a.1)

-- where nothing remains, it is a multiple
pub multiple_of : (x i : ℤ) → pos 1 ≤ℤ i → int_rem_euclid x i ≡ pos 0 → (d : ℤ) × (x ≡ d *ℤ i)
multiple_of (pos a) (pos n) h e =
    let r : pos (a % n) ≡ pos 0 = e in
    (pos (a / n), rw pos-*ℤ-pos (omega (arith, ints, div-add-mod' a n)))
multiple_of (negsuc a) (pos n) h e =
    let r : pos (n - 1 - a % n) ≡ pos 0 = e in
    let w : 0 < n = omega (arith, ints) in
    (negsuc (a / n), rw negsuc-*ℤ-pos (omega (arith, ints, div-add-mod' a n, mod-lt a w)))
multiple_of x (negsuc n) h e = absurd (omega (arith, ints))

-- ---- the starts of a query's buckets are starts of a rule's

StartsOf : Rule → ℤ → Type 0
StartsOf r p = (j : ℤ) × (p ≡ start_of r j)

divided_starts : (r : Rule) (q : Query) → pos 1 ≤ℤ r.interval → IsAligned r q → (k : ℤ) → StartsOf r ((k *ℤ q.interval) +ℤ q.offset)
unfolding StartsOf
divided_starts r q w v k =
    let d = multiple_of q.interval r.interval w v.interval in
    let o = multiple_of (q.offset -ℤ r.offset) r.interval w v.offset in
    let e : q.offset -ℤ r.offset ≡ o.0 *ℤ r.interval = o.1 in
    let m : k *ℤ q.interval ≡ (k *ℤ d.0) *ℤ r.interval = ap (λ x. k *ℤ x) d.1 ∙ times_again k d.0 r.interval in
    let t = times_sum (k *ℤ d.0) o.0 r.interval in
    ((k *ℤ d.0) +ℤ o.0, omega (arith, ints))

-- ---- a time and the start of its cell

-- the start of the bucket that a time is in
abbrev pub cell_start : Rule → ℤ → ℤ
cell_start r t = start_of r (index_of r t)

pub cell_start-le : (r : Rule) (t : ℤ) → pos 1 ≤ℤ r.interval → cell_start r t ≤ℤ t
cell_start-le r t w = (bucket_is t r.interval r.offset w).from_start

-- a start that isn't after a time isn't after that of its bucket
start_le : (r : Rule) (j t : ℤ) → pos 1 ≤ℤ r.interval → start_of r j ≤ℤ t → start_of r j ≤ℤ cell_start r t
start_le r j t w h =
    let i : index_of r (start_of r j) ≤ℤ index_of r t = bucket_le (start_of r j) t r.interval r.offset w h in
    let k : j ≤ℤ index_of r t = subst (λ x. x ≤ℤ index_of r t) (index_of-start r j w) i in
    let m = times_le j (index_of r t) r.interval w k in
    omega (arith, ints)

pub boundary_le : (r : Rule) (a t : ℤ) → pos 1 ≤ℤ r.interval → IsBoundary r a → a ≤ℤ t → a ≤ℤ cell_start r t
boundary_le r a t w e h = subst (λ x. x ≤ℤ cell_start r t) e (start_le r (index_of r a) t w (subst (λ x. x ≤ℤ t) (sym e) h))

-- a time lies in a range between boundaries just where its cell starts there
pub within_cell : (r : Rule) (a b t : ℤ) → pos 1 ≤ℤ r.interval → IsBoundary r a → IsBoundary r b → is_within a b t ≡ is_within a b (cell_start r t)
within_cell r a b t w e f =
    let u : ℤ = cell_start r t in
    let below : u ≤ℤ t = cell_start-le r t w in
    ap₂ (λ x y. x && y)
    (same_bool (int_le a t) (int_le a u) (λ h. le_true a u (boundary_le r a t w e (le_from a t h))) (λ h. le_true a t (let k = le_from a u h in omega (arith, ints))))
    (same_bool (int_lt t b) (int_lt u b) (λ h. lt_true u b (let k = lt_from t b h in omega (arith, ints)))
    (λ h. lt_true t b (by_lt_z t b (λ l. l) (λ n. absurd (let k = lt_from u b h in let m = boundary_le r b t w f n in omega (arith, ints))))))

pub within_parts : (a b t : ℤ) → is_within a b t ≡ true → (a ≤ℤ t) × (t <ℤ b)
within_parts a b t h = let p = and_parts (int_le a t) _ h in (le_from a t p.0, lt_from t b p.1)

-- ---- and so do the query's buckets

one_of_divided : (r : Rule) (q : Query) (t : ℤ) → pos 1 ≤ℤ r.interval → pos 1 ≤ℤ q.interval → IsAligned r q → bucket_of t q.interval q.offset ≡ bucket_of (cell_start r t) q.interval q.offset
unfolding StartsOf
one_of_divided r q t w v d =
    let k : ℤ = bucket_of t q.interval q.offset in
    let u : ℤ = cell_start r t in
    let b : IsBucketOf t q.interval q.offset k = bucket_is t q.interval q.offset v in
    let s = divided_starts r q w d k in
    let e : (k *ℤ q.interval) +ℤ q.offset ≡ start_of r s.0 = s.1 in
    let from : start_of r s.0 ≤ℤ t = subst (λ x. x ≤ℤ t) e b.from_start in
    let low : ((k *ℤ q.interval) +ℤ q.offset) ≤ℤ u = subst (λ x. x ≤ℤ u) (sym e) (start_le r s.0 t w from) in
    let below : u ≤ℤ t = cell_start-le r t w in
    let end = b.before_end in
    bucket_same u q.interval q.offset k (bucket_of u q.interval q.offset) v (record { from_start = low; before_end = omega (arith, ints) }) (bucket_is u q.interval q.offset v)

one_of_range : (q : Query) (a b u t : ℤ) → pos 1 ≤ℤ q.interval → IsInOneBucket q a b → a ≤ℤ u → u ≤ℤ t → t <ℤ b → bucket_of t q.interval q.offset ≡ bucket_of u q.interval q.offset
one_of_range q a b u t v e h k l =
    let last : t ≤ℤ (b -ℤ pos 1) = omega (arith, ints) in
    let x = bucket_le a u q.interval q.offset v h in
    let y = bucket_le u t q.interval q.offset v k in
    let z = bucket_le t (b -ℤ pos 1) q.interval q.offset v last in
    omega (arith, ints)

pub one_bucket : (r : Rule) (q : Query) (a b t : ℤ) → pos 1 ≤ℤ r.interval → pos 1 ≤ℤ q.interval → IsBoundary r a → IsAligned r q ⊎ IsInOneBucket q a b → a ≤ℤ t → t <ℤ b
    → bucket_of t q.interval q.offset ≡ bucket_of (cell_start r t) q.interval q.offset
one_bucket r q a b t w v e fits h l =
    ⊎_elim {C = bucket_of t q.interval q.offset ≡ bucket_of (cell_start r t) q.interval q.offset}
    (λ d. one_of_divided r q t w v d)
    (λ o. one_of_range q a b (cell_start r t) t v o (boundary_le r a t w e h) (cell_start-le r t w) l) fits
