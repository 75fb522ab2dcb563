-- The mean of a non-empty aggregate as a fraction: its sum and its count, divided by their greatest common divisor.
-- (InfluxData 1.8, InfluxQL functions: MEAN. Own rule: exact, in lowest terms.)
use Rattle.std.specs.Prelude.{ℕ, zero, suc, ◌/◌, ◌%◌, unsigned_abs}
use Rattle.ts_core.specs.declared.aggregates.means.Frac.{Frac}
use Rattle.ts_core.specs.aggregates.Means.{signed_as_of}
use Rattle.ts_core.specs.aggregates.Aggregates.{Aggregate}

-- Euclid's algorithm, in at most n steps
abbrev pub divisor_within : ℕ → ℕ → ℕ → ℕ
divisor_within n a zero = a
divisor_within zero a (suc b) = a
divisor_within (suc n) a (suc b) = divisor_within n (suc b) (a % suc b)

abbrev pub common_divisor : ℕ → ℕ → ℕ
common_divisor a b = divisor_within b a b

abbrev pub mean_of : Aggregate → Frac
mean_of a = record {
  numerator = signed_as_of a.sum (unsigned_abs a.sum / common_divisor (unsigned_abs a.sum) a.count);
  denominator = a.count / common_divisor (unsigned_abs a.sum) a.count;
}
