-- The number of whole buckets, which fits 128 bits, and its limit.
use Rattle.std.proofs.Common.{◌≡◌, ◌↔◌, ℤ, pos, ◌+◌, ◌^◌, ◌<◌, ◌≤◌, ◌-ℤ◌, ◌<ℤ◌, unsigned_abs, Bool, sym, subst, arith, SFits, List}
use Rattle.std.specs.Bool.{IsTrue}
use Rattle.std.specs.Int.{w64, w128}
use Rattle.std.proofs.lemmas.Int.{ints, fits_signed_from_abs}
use Rattle.ts_core.specs.settings.Settings.{Rule, Settings}
use Rattle.ts_core.specs.store.Marks.{Marks}
use Rattle.ts_core.specs.queries.Queries.{Query}
use Rattle.ts_core.specs.plans.Plans.{whole_buckets, IsTooMany}

-- an index that is near the moment t, or the one before it
pub near_at : (x y u t : ℤ) → x ≡ y → u ≡ t → SFits w64 t → unsigned_abs y ≤ unsigned_abs u + 2 ^ 64 → unsigned_abs x ≤ 2 ^ 66
near_at x y u t e f h n = omega (arith, ints)

pub near_before : (x y u t : ℤ) → x ≡ y → u ≡ t -ℤ pos 1 → SFits w64 t → unsigned_abs y ≤ unsigned_abs u + 2 ^ 64 → unsigned_abs x ≤ 2 ^ 66
near_before x y u t e f h n = omega (arith, ints)

pub gap_fits : (x y : ℤ) → unsigned_abs x ≤ 2 ^ 66 → unsigned_abs y ≤ 2 ^ 66 → SFits w128 (x -ℤ y)
gap_fits x y h k = fits_signed_from_abs w128 (x -ℤ y) (omega (arith, ints))

pub less_fits : (x y : ℤ) → unsigned_abs x ≤ 2 ^ 66 → unsigned_abs y ≤ 2 ^ 66 → SFits w128 ((x -ℤ y) -ℤ pos 1)
less_fits x y h k = fits_signed_from_abs w128 ((x -ℤ y) -ℤ pos 1) (omega (arith, ints))

pub IsTooMany-told : (s : Settings) (m : Marks) (q : Query) (rs : List Rule) (b : Bool) → rs ≡ s.rules → q.from <ℤ m.raw → q.from <ℤ q.to → IsTrue b ↔ (1000000 < whole_buckets rs q) → IsTrue b ↔ IsTooMany s m q
IsTooMany-told s m q rs b e f g h = (
  λ t. record { below = f; some = g; many = subst (λ x. 1000000 < whole_buckets x q) e (h.0 t) },
  λ k. h.1 (subst (λ x. 1000000 < whole_buckets x q) (sym e) k.many),
)
