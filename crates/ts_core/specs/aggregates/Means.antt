-- The mean of values, as a fraction in lowest terms.
-- (InfluxData 1.8, InfluxQL functions: MEAN, the arithmetic mean of field values. Own rule: exact, in lowest terms.)
use Rattle.std.specs.Prelude.{◌≡◌, ℕ, ◌<◌, ℤ, pos, negsuc, neg_ℤ, ◌*ℤ◌, unsigned_abs}
use Rattle.std.specs.Int.{IsGcd}

-- n/d is sum/count in lowest terms, and d is at least 1
pub record IsMean (count : ℕ) (sum n : ℤ) (d : ℕ) : Type 0 where
  pub exact : n *ℤ pos count ≡ sum *ℤ pos d
  pub lowest : IsGcd (unsigned_abs n) d 1
  pub positive : 0 < d

-- n with the sign of another number
abbrev pub signed_as_of : ℤ → ℕ → ℤ
signed_as_of (pos _) n = pos n
signed_as_of (negsuc _) n = neg_ℤ (pos n)
