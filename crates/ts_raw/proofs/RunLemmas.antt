-- The number of points before a time: of those that lie apart by one step, and of any.
use Rattle.std.proofs.Common.{◌≡◌, ℕ, zero, suc, ◌+◌, ◌*◌, ◌-◌, ◌<◌, ◌≤◌, ℤ, pos, ◌+ℤ◌, ◌-ℤ◌, ◌<ℤ◌, ◌≤ℤ◌, unsigned_abs, int_lt, int_le, Bool, true, false, ◌&&◌, List, [], ◌∷◌, ◌++◌, drop, length, get_or, slice_get, Option, Some, None, refl, sym, ◌∙◌, ap, subst, ⊎_elim, true≢false, arith}
use Rattle.std.specs.Int.{div_ceil}
use Rattle.std.specs.List.{prefix_len}
use Rattle.std.proofs.Math.Nat.{mul-le-mul_right}
use Rattle.std.proofs.lemmas.Bool.Decides.{leb_tells}
use Rattle.std.proofs.lemmas.Grind.{div_ceil_times}
use Rattle.std.proofs.lemmas.Int.{ints}
use Rattle.std.proofs.lemmas.List.Sums.{prefix_len_is}
use Rattle.std.proofs.lemmas.Option.{get_or_from_slice_get, same_Some}
use Rattle.ts_core.specs.facts.Facts.{is_within}
use Rattle.ts_block.specs.Blocks.{times_of}
use Rattle.ts_block.specs.Decoding.{FollowBy, AreSpaced, AreSpacedIf}
use Rattle.ts_raw.specs.CodedPoints.{before_first}
use Rattle.ts_raw.specs.PlainColumns.{IsRising, IsStartOf}
use Rattle.ts_raw.specs.PointRuns.{IsInside}
use Rattle.ts_raw.proofs.CutLemmas.{first_bound, first_parts, less_at}

before_too : (x t : ℤ) → x <ℤ t → int_lt x t ≡ true
before_too x t l = grind (arith, ints)

not_before : (x t : ℤ) → t ≤ℤ x → int_lt x t ≡ false
not_before x t l = grind (arith, ints)

pub far : (x y : ℤ) → x <ℤ y → y ≡ x +ℤ pos (unsigned_abs (y -ℤ x))
far x y l = omega (arith, ints)

pub less_not : (x y : ℤ) → int_le x y ≡ false → y <ℤ x
less_not x y h = grind (arith, ints)

-- ---- apart by one step

later_by : (t u v : ℤ) (m n l : ℕ) → u ≡ t +ℤ pos m → v ≡ u +ℤ pos n → l ≡ m + n → v ≡ t +ℤ pos l
later_by t u v m n l e f h = omega (arith, ints)

spaced_at : (s : ℕ) (p : ℤ × ℤ) (ps : List (ℤ × ℤ)) → FollowBy s p.0 (times_of ps) → (k : ℕ) (d : ℤ × ℤ) → k < length (p ∷ ps) → (get_or (p ∷ ps) k d).0 ≡ p.0 +ℤ pos (k * (s + 1))
spaced_at s p ps h zero d l = omega (arith, ints)
spaced_at s p [] h (suc k) d l = absurd (omega arith)
spaced_at s p (q ∷ ps) h (suc k) d l = later_by p.0 q.0 (get_or (q ∷ ps) k d).0 (s + 1) (k * (s + 1)) (suc k * (s + 1)) h.0 (spaced_at s q ps h.1 k d (omega arith)) (omega arith)

one_less : (k n m a : ℕ) → k < n → n * m < a + m → k * m < a
one_less k n m a l h = let e : suc k * m ≤ n * m = mul-le-mul_right m l in omega arith

few_times : (n l m a : ℕ) → n * m < a + m → a ≤ l * m → n ≤ l
few_times n l m a h far =
    ⊎_elim {C = n ≤ l} (λ x. x.1) (λ x. let more : suc l * m ≤ n * m = mul-le-mul_right m x.1 in absurd (omega arith)) (leb_tells n l)

module _ (s : ℕ) (p : ℤ × ℤ) (ps : List (ℤ × ℤ)) (by : FollowBy s p.0 (times_of ps)) (end : ℤ) (a : ℕ) (is : end ≡ p.0 +ℤ pos a) where
  abbrev pub n : ℕ
  n = div_ceil a (s + 1)

  -- the number of points before the end, at `end`, times the distance
  times : (a ≤ n * (s + 1)) × (n * (s + 1) < a + (s + 1))
  times = div_ceil_times a (s + 1) (omega arith)

  within : n ≤ length (p ∷ ps) → (k : ℕ) (d : ℤ × ℤ) → k < n → int_lt (get_or (p ∷ ps) k d).0 end ≡ true
  within le k d l = let at = spaced_at s p ps by k d (omega (arith, le, l)) in let less = one_less k n (s + 1) a l times.1 in before_too (get_or (p ∷ ps) k d).0 end (omega (arith, ints))

  beyond : (k : ℕ) (d : ℤ × ℤ) → n ≤ k → k < length (p ∷ ps) → int_lt (get_or (p ∷ ps) k d).0 end ≡ false
  beyond k d l h = let at = spaced_at s p ps by k d h in let more : n * (s + 1) ≤ k * (s + 1) = mul-le-mul_right (s + 1) l in let t = times.0 in not_before (get_or (p ∷ ps) k d).0 end (omega (arith, ints))

  -- there are as many, if the last isn't before the end
  pub spaced_bound : (d : ℤ × ℤ) → end ≤ℤ (get_or (p ∷ ps) (length ps) d).0 → n ≤ length ps
  spaced_bound d last =
      let at = spaced_at s p ps by (length ps) d (omega arith) in
      let far : a ≤ length ps * (s + 1) = omega (arith, ints) in
      few_times n (length ps) (s + 1) a times.1 far

  pub spaced_start : (d : ℤ × ℤ) → end ≤ℤ (get_or (p ∷ ps) (length ps) d).0 → IsStartOf end (p ∷ ps) n
  spaced_start d last = (λ k e l h. within (let b = spaced_bound d last in omega arith) k e h, beyond)

pub spaced_behind : (step : Option ℕ) (n : ℕ) (ps : List (ℤ × ℤ)) → AreSpacedIf step ps → AreSpacedIf step (drop n ps)
spaced_behind None n ps h = tt
spaced_behind (Some s) zero ps h = h
spaced_behind (Some s) (suc n) [] h = h
spaced_behind (Some s) (suc n) (p ∷ []) h = spaced_behind (Some s) n [] tt
spaced_behind (Some s) (suc n) (p ∷ q ∷ ps) h = spaced_behind (Some s) n (q ∷ ps) h.1

pub spaced_front : (step : Option ℕ) (ps qs : List (ℤ × ℤ)) → AreSpacedIf step (ps ++ qs) → AreSpacedIf step ps
spaced_front None ps qs h = tt
spaced_front (Some s) [] qs h = tt
spaced_front (Some s) (p ∷ []) qs h = tt
spaced_front (Some s) (p ∷ q ∷ ps) qs h = (h.0, spaced_front (Some s) (q ∷ ps) qs h.1)

-- ---- any points

pub all_before : (t : ℤ) (ps : List (ℤ × ℤ)) (d : ℤ × ℤ) → IsRising ps → 0 < length ps → (get_or ps (length ps - 1) d).0 <ℤ t → IsStartOf t ps (length ps)
all_before t ps d s some l =
    let parts = first_parts t ps s in
    let few = first_bound t ps in
    let all : length ps ≤ before_first t ps =
    ⊎_elim {C = length ps ≤ before_first t ps} (λ x. x.1)
    (λ x. let no = parts.1 (length ps - 1) d (omega (arith, x.1)) (omega arith) in let yes = before_too (get_or ps (length ps - 1) d).0 t l in absurd (cc))
    (leb_tells (length ps) (before_first t ps)) in
    let is : before_first t ps ≡ length ps = omega arith in
    subst (IsStartOf t ps) is parts

-- exactly n + 1 points are before a time if the last of these is, and the next one isn't
pub start_at : (t : ℤ) (ps : List (ℤ × ℤ)) (n : ℕ) (d e : ℤ × ℤ) → IsRising ps → suc n < length ps → (get_or ps n d).0 <ℤ t → t ≤ℤ (get_or ps (suc n) e).0 → IsStartOf t ps (suc n)
start_at t ps n d e s inside l h =
    let parts = first_parts t ps s in
    let yes = before_too (get_or ps n d).0 t l in
    let no = not_before (get_or ps (suc n) e).0 t h in
    let more = ⊎_elim {C = suc n ≤ before_first t ps} (λ x. x.1) (λ x. absurd (true≢false (sym yes ∙ parts.1 n d (omega (arith, x.1)) (omega arith)))) (leb_tells (suc n) (before_first t ps)) in
    let less = ⊎_elim {C = before_first t ps ≤ suc n} (λ x. x.1) (λ x. absurd (true≢false (sym (parts.0 (suc n) e (omega arith) (omega (arith, x.1))) ∙ no))) (leb_tells (before_first t ps) (suc n)) in
    let is : before_first t ps ≡ suc n = omega arith in
    subst (IsStartOf t ps) is parts

-- the points from a time on that is at or before the first are those before the first that isn't within
prefix_of_start : (low high : ℤ) (p : ℤ × ℤ) (ps : List (ℤ × ℤ)) (i : ℕ) → IsRising (p ∷ ps) → low ≤ℤ p.0 → IsStartOf high (p ∷ ps) i → i ≤ length (p ∷ ps) → prefix_len (λ (q : ℤ × ℤ). is_within low high q.0) (p ∷ ps) ≡ i
prefix_of_start low high p ps i s from start le = prefix_len_is (λ (q : ℤ × ℤ). is_within low high q.0) (p ∷ ps) i p le (λ k l. both (int_le low (get_or (p ∷ ps) k p).0) (int_lt (get_or (p ∷ ps) k p).0 high) (from_first k (omega arith)) (start.0 k p (omega arith) l)) (λ l. neither (int_le low (get_or (p ∷ ps) i p).0) (int_lt (get_or (p ∷ ps) i p).0 high) (start.1 i p (omega arith) l))
  where
    from_first : (k : ℕ) → k < length (p ∷ ps) → int_le low (get_or (p ∷ ps) k p).0 ≡ true
    from_first zero l = grind (arith, ints)
    from_first (suc k) l = let later = less_at p ps s k p (omega arith) in grind (arith, ints)

    both : (a b : Bool) → a ≡ true → b ≡ true → (a && b) ≡ true
    both a b e f = ap (λ x. x && b) e ∙ f

    neither : (a b : Bool) → b ≡ false → (a && b) ≡ false
    neither true b e = e
    neither false b e = refl

-- those before a time that is inside, which is `a` after the first
pub record IsDivided (points : List (ℤ × ℤ)) (end : ℤ) (count : ℕ) : Type 0 where
  pub start : IsStartOf end points count
  pub bound : count ≤ length points

pub divided : (first end : ℤ) (points : List (ℤ × ℤ)) (n a : ℕ) → AreSpaced n points → IsInside first end points → end ≡ first +ℤ pos a → IsDivided points end (div_ceil a (n + 1))
divided first end [] n a by h e = absurd (omega (arith, h.some))
divided first end (p ∷ ps) n a by h e =
    let is : end ≡ p.0 +ℤ pos a = e ∙ ap (λ t. t +ℤ pos a) (sym (h.first_is p)) in
    let at : suc (length ps) - 1 ≡ length ps = omega arith in
    let last = subst (λ k. end ≤ℤ (get_or (p ∷ ps) k p).0) at (h.by_last p) in
    record { start = spaced_start n p ps by end a is p last; bound = let b = spaced_bound n p ps by end a is p last in omega arith }

-- ---- by the first point and the last one

prefix_of : (low high : ℤ) (points : List (ℤ × ℤ)) (first : ℤ × ℤ) (i : ℕ) → IsRising points → Some first ≡ slice_get points 0 → low ≤ℤ first.0 → IsStartOf high points i → i ≤ length points
    → prefix_len (λ (q : ℤ × ℤ). is_within low high q.0) points ≡ i
prefix_of low high [] first i rising at from start le = absurd (cc)
prefix_of low high (p ∷ ps) first i rising at from start le = prefix_of_start low high p ps i rising (subst (λ (q : ℤ × ℤ). low ≤ℤ q.0) (same_Some first p at) from) start le

some_at : (points : List (ℤ × ℤ)) (first : ℤ × ℤ) → Some first ≡ slice_get points 0 → 0 < length points
some_at [] first e = absurd (cc)
some_at (p ∷ ps) first e = omega arith

module _ (low high : ℤ) (points : List (ℤ × ℤ)) (first last : ℤ × ℤ) (first_at : Some first ≡ slice_get points 0) (last_at : Some last ≡ slice_get points (length points - 1)) where
  some : 0 < length points
  some = some_at points first first_at

  pub is_inside : first.0 <ℤ high → high ≤ℤ last.0 → IsInside first.0 high points
  is_inside before behind = record {
    some = some;
    first_is = λ d. ap (λ (p : ℤ × ℤ). p.0) (get_or_from_slice_get points 0 first d (sym first_at));
    after_first = before;
    by_last = λ d. subst (λ (p : ℤ × ℤ). high ≤ℤ p.0) (sym (get_or_from_slice_get points (length points - 1) last d (sym last_at))) behind;
  }

  pub prefix_from : (i : ℕ) → IsRising points → low ≤ℤ first.0 → IsStartOf high points i → i ≤ length points → prefix_len (λ (q : ℤ × ℤ). is_within low high q.0) points ≡ i
  prefix_from i rising from start le = prefix_of low high points first i rising first_at from start le

  pub prefix_is_all : IsRising points → low ≤ℤ first.0 → last.0 <ℤ high → prefix_len (λ (q : ℤ × ℤ). is_within low high q.0) points ≡ length points
  prefix_is_all rising from before =
      let at : (get_or points (length points - 1) first).0 <ℤ high = subst (λ (p : ℤ × ℤ). p.0 <ℤ high) (sym (get_or_from_slice_get points (length points - 1) last first (sym last_at))) before in
      prefix_from (length points) rising from (all_before high points first rising some at) (omega arith)
