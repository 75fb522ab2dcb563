-- The first start of a bucket from a time on.
use Rattle.std.proofs.Common.{◌≡◌, ℤ, pos, negsuc, ◌<◌, ◌*◌, ◌+ℤ◌, ◌-ℤ◌, ◌*ℤ◌, ◌≤ℤ◌, ◌<ℤ◌, neg_ℤ, arith, sym, ap, subst, suc, ◌/◌, div-add-mod', mod-lt, Option, Some, None, MatchOption}
use Rattle.std.specs.Int.Signed.{≤ℤ_refl}
use Rattle.std.proofs.Math.IntN.{negsuc-*ℤ-pos, pos-*ℤ-pos}
use Rattle.std.proofs.lemmas.Int.{ints}
use Rattle.std.specs.Int.{int_div_euclid, int_rem_euclid}
use Rattle.ts_core.specs.store.Marks.{index_of}
use Rattle.ts_core.specs.plans.Pieces.{start_of, IsBoundary}
use Rattle.ts_core.specs.settings.Settings.{Rule}
use Rattle.ts_plan.specs.Steps.{IsFirstStart}
use Rattle.ts_core.proofs.aggregates.BucketsOrder.{bucket_is}
use Rattle.ts_core.proofs.plans.GoodPlaces.{index_of-start, start_more, next_boundary, to_next}

rem_is : (d i : ℤ) → pos 1 ≤ℤ i → (int_div_euclid d i *ℤ i) +ℤ int_rem_euclid d i ≡ d
rem_is (pos a) (pos b) h = let e : int_div_euclid (pos a) (pos b) *ℤ pos b ≡ pos (a / b * b) = pos-*ℤ-pos (a / b) b in omega (arith, ints, div-add-mod' a b)
rem_is (negsuc a) (pos b) h = let e : int_div_euclid (negsuc a) (pos b) *ℤ pos b ≡ neg_ℤ (pos (suc (a / b) * b)) = negsuc-*ℤ-pos (a / b) b in (let p : 0 < b = omega (arith, ints) in omega (arith, ints, div-add-mod' a b, mod-lt a p))
rem_is d (negsuc b) h = absurd (omega (arith, ints))

pub rem_low : (d i : ℤ) → pos 0 ≤ℤ int_rem_euclid d i
rem_low (pos a) i = omega (arith, ints)
rem_low (negsuc a) i = omega (arith, ints)

pub rem_high : (d i : ℤ) → pos 1 ≤ℤ i → int_rem_euclid d i <ℤ i
rem_high (pos a) (pos b) h = let p : 0 < b = omega (arith, ints) in omega (arith, ints, mod-lt a p)
rem_high (negsuc a) (pos b) h = let p : 0 < b = omega (arith, ints) in omega (arith, ints)
rem_high d (negsuc b) h = absurd (omega (arith, ints))

past_is : (r : Rule) (p : ℤ) → pos 1 ≤ℤ r.interval → start_of r (index_of r p) +ℤ int_rem_euclid (p -ℤ r.offset) r.interval ≡ p
past_is r p h = let e = rem_is (p -ℤ r.offset) r.interval h in omega (arith, ints)

pub record FirstFrom (r : Rule) (a b : ℤ) : Type 0 where
  pub here : IsBoundary r b
  pub after : a ≤ℤ b
  pub first : (x : ℤ) → IsBoundary r x → a ≤ℤ x → b ≤ℤ x

pub first_here : (r : Rule) (a offset_in_bucket b : ℤ) → pos 1 ≤ℤ r.interval → offset_in_bucket ≡ int_rem_euclid (a -ℤ r.offset) r.interval → offset_in_bucket ≡ pos 0 → b ≡ a +ℤ offset_in_bucket → FirstFrom r a b
first_here r a offset_in_bucket b h e z q =
    let k = past_is r a h in
    let s : start_of r (index_of r a) ≡ a = omega (arith, ints) in
    let t : b ≡ a = omega (arith, ints) in
    subst (FirstFrom r a) (sym t) (record { here = s; after = ≤ℤ_refl a; first = λ x _ l. l })

pub first_ahead : (r : Rule) (a offset_in_bucket b : ℤ) → pos 1 ≤ℤ r.interval → offset_in_bucket ≡ int_rem_euclid (a -ℤ r.offset) r.interval → pos 1 ≤ℤ offset_in_bucket → b ≡ a +ℤ (r.interval -ℤ offset_in_bucket) → FirstFrom r a b
first_ahead r a offset_in_bucket b h e z q =
    let k = past_is r a h in
    let s : ℤ = start_of r (index_of r a) in
    let at : IsBoundary r s = ap (start_of r) (index_of-start r (index_of r a) h) in
    let low = (bucket_is a r.interval r.offset h).before_end in
    let more = start_more r (index_of r a) in
    let t : b ≡ s +ℤ r.interval = omega (arith, ints) in
    subst (FirstFrom r a) (sym t) (record { here = next_boundary r s h at; after = omega (arith, ints); first = λ x c l. to_next r s x h at c (omega (arith, ints)) })

pub first_found : (r : Rule) (a b e : ℤ) (q : Option ℤ) → FirstFrom r a b → MatchOption q (e <ℤ b) (λ t. (t ≡ b) × (t ≤ℤ e))
    → IsFirstStart r a e q
first_found r a b e None f m = λ x c l. let k = f.first x c l in omega (arith, ints)
first_found r a b e (Some t) f m =
    let g : FirstFrom r a t = subst (FirstFrom r a) (sym m.0) f in
    (g.here, g.after, m.1, g.first)
