-- Uniqueness of the mean in lowest terms: the quotients by the greatest common divisor.
use Rattle.std.proofs.Common.{inl, inr, ◌⊎◌, ⊎_elim, ◌≡◌, ℕ, ℤ, pos, negsuc, suc, zero, ◌+◌, ◌*◌, ◌/◌, ◌%◌, ◌<◌, ◌≤◌, ◌*ℤ◌, arith, refl, sym, ap, ◌∙◌, subst, neg_ℤ, unsigned_abs, pos_of_ne-zero, one-mul, div-add-mod', mod-lt}
use Rattle.std.proofs.Math.Nat.{dvd-mul_left, dvd-mod_iff, dvd-add_iff_left, dvd_of_mul-dvd-mul_left, dvd-mul_right, eq-one_of_dvd-one, mul-div_cancel, mul-div_cancel', div-mul_cancel, mul-dvd-mul_right, dvd_of_mul-dvd-mul_right, pos_of_dvd_of_pos, one-dvd}
use Rattle.std.proofs.lemmas.Nat.Gcd.{dvd_antisymm, dvd_of_mod-eq-zero, dvd-zero, dvd_refl, IsGcd-from_zero, IsGcd-from_mod}
use Rattle.std.proofs.lemmas.Int.{unsigned_abs-mul}
use Rattle.ts_core.proofs.aggregates.BucketsLemmas.{times_cancel, times_neg}
use Rattle.std.proofs.Math.IntN.{negsuc-*ℤ-pos, pos-*ℤ-pos}
use Rattle.std.specs.Int.{IsGcd, ◌∣◌}
use Rattle.ts_core.specs.aggregates.Means.{IsMean, signed_as_of}
use Rattle.ts_core.specs.declared.aggregates.means.Frac.{Frac}
use Rattle.ts_core.specs.aggregates.Aggregates.{Aggregate}
use Rattle.ts_core.specs.aggregates.Ratios.{divisor_within, common_divisor, mean_of}

crossed : (s c g : ℕ) → g ∣ s → g ∣ c → (s / g) * c ≡ s * (c / g)
crossed s c g p q = ap (λ n. (s / g) * n) (sym (div-mul_cancel g q)) ∙ omega arith ∙ ap (λ n. n * (c / g)) (div-mul_cancel g p)

quotient_pos : (c g : ℕ) → 0 < c → g ∣ c → 0 < c / g
quotient_pos c g h q = pos_of_ne-zero (λ e. absurd (let z : c ≡ 0 = sym (div-mul_cancel g q) ∙ ap (λ n. n * g) e ∙ omega arith in omega arith))

lowest_terms : (s c g : ℕ) → 0 < c → IsGcd s c g → IsGcd (s / g) (c / g) 1
lowest_terms s c g h k = (
  one-dvd (s / g),
  one-dvd (c / g),
  λ d p q.
      let u : d * g ∣ s = subst (λ n. d * g ∣ n) (div-mul_cancel g k.0) (mul-dvd-mul_right d p g) in
      let v : d * g ∣ c = subst (λ n. d * g ∣ n) (div-mul_cancel g k.1) (mul-dvd-mul_right d q g) in
      let w : d * g ∣ 1 * g = subst (λ n. d * g ∣ n) (sym (one-mul g)) (k.2 (d * g) u v) in
      dvd_of_mul-dvd-mul_right d (pos_of_dvd_of_pos k.1 h) w,
)

abs_neg : (n : ℕ) → unsigned_abs (neg_ℤ (pos n)) ≡ n
abs_neg zero = refl
abs_neg (suc n) = refl

pub IsMean-from_quotients : (sum : ℤ) (c g : ℕ) → 0 < c → IsGcd (unsigned_abs sum) c g → IsMean c sum (signed_as_of sum (unsigned_abs sum / g)) (c / g)
IsMean-from_quotients (pos s) c g h k = record {
  exact = pos-*ℤ-pos (s / g) c ∙ ap pos (crossed s c g k.0 k.1) ∙ sym (pos-*ℤ-pos s (c / g));
  lowest = lowest_terms s c g h k;
  positive = quotient_pos c g h k.1;
}
IsMean-from_quotients (negsuc s) c g h k = record {
  exact = times_neg (suc s / g) c ∙ ap (λ n. neg_ℤ (pos n)) (crossed (suc s) c g k.0 k.1) ∙ sym (negsuc-*ℤ-pos s (c / g));
  lowest = rw abs_neg (lowest_terms (suc s) c g h k);
  positive = quotient_pos c g h k.1;
}

-- the same at the names of a function's steps
pub IsMean-given : (sum n : ℤ) (m c g : ℕ) → 0 < c → IsGcd m c g → m ≡ unsigned_abs sum → n ≡ signed_as_of sum (m / g) → IsMean c sum n (c / g)
IsMean-given sum n m c g h k e f =
    let q = subst (λ x. IsGcd x c g) e k in
    subst (λ x. IsMean c sum x (c / g)) (sym (f ∙ ap (λ x. signed_as_of sum (x / g)) e)) (IsMean-from_quotients sum c g h q)

-- ---- and there is one alone

zero_or : (r : ℕ) → (r ≡ 0) ⊎ (0 < r)
zero_or zero = inl refl
zero_or (suc r) = inr (omega arith)

divides_zero : (b a k : ℕ) → b ≡ 0 → IsGcd a b 1 → b ∣ a * k → b ∣ k
divides_zero b a k e g d =
    let one : a ∣ 1 = g.2 a (dvd_refl a) (subst (λ x. a ∣ x) (sym e) (dvd-zero a)) in
    subst (λ x. b ∣ x) (ap (λ x. x * k) (eq-one_of_dvd-one one) ∙ one-mul k) d

divides_step : (b a k : ℕ) → 0 < b → IsGcd a b 1 → b ∣ a * k → ((m : ℕ) → IsGcd b (a % b) 1 → a % b ∣ b * m → a % b ∣ m) → b ∣ k
divides_step b a k some g d smaller =
    let r : ℕ = a % b in
    let q : ℕ = a / b in
    let parts : r * k + b * (q * k) ≡ a * k = omega arith ∙ ap (λ x. x * k) (div-add-mod' a b) in
    let rest : b ∣ r * k = (dvd-add_iff_left b {m = r * k} (dvd-mul_right b (q * k))).1 (subst (λ x. b ∣ x) (sym parts) d) in
    let m : ℕ = (r * k) / b in
    let same : b * m ≡ r * k = mul-div_cancel' b rest in
    let coprime : IsGcd b r 1 = (one-dvd b, one-dvd r, λ e p t. g.2 e ((dvd-mod_iff e p).0 t) p) in
    let t : r ∣ m = smaller m coprime (subst (λ x. r ∣ x) (sym same) (dvd-mul_right r k)) in
    ⊎_elim {C = b ∣ k}
    (λ (e : r ≡ 0). let one : b ≡ 1 = eq-one_of_dvd-one (g.2 b (dvd_of_mod-eq-zero b e) (dvd_refl b)) in subst (λ x. x ∣ k) (sym one) (one-dvd k))
    (λ (l : 0 < r).
    let back : m / r * r ≡ m = div-mul_cancel r t in
    let product : (m / r) * (r * b) ≡ r * k = omega arith ∙ ap (λ x. b * x) back ∙ same in
    dvd_of_mul-dvd-mul_left {k = r} b l (subst (λ x. r * b ∣ x) product (dvd-mul_left (r * b) (m / r))))
    (zero_or r)

-- a divisor of a product that is coprime to the first factor divides the second; n bounds the recursion
is_aligned : (n b : ℕ) → b ≤ n → (a k : ℕ) → IsGcd a b 1 → b ∣ a * k → b ∣ k
is_aligned zero b h a k g d = divides_zero b a k (omega arith) g d
is_aligned (suc n) zero h a k g d = divides_zero zero a k refl g d
is_aligned (suc n) (suc b) h a k g d =
    divides_step (suc b) a k (omega arith) g d
    (λ m c e. is_aligned n (a % suc b) (let some : 0 < suc b = omega arith in let l : a % suc b < suc b = mod-lt a some in omega arith) (suc b) m c e)

pub only_mean : (count : ℕ) (sum n m : ℤ) (d e : ℕ) → 0 < count → IsMean count sum n d → IsMean count sum m e → (n ≡ m) × (d ≡ e)
only_mean count sum n m d e some f g =
    let x : ℕ = unsigned_abs n in
    let y : ℕ = unsigned_abs m in
    let s : ℕ = unsigned_abs sum in
    let a : x * count ≡ s * d = sym (unsigned_abs-mul n (pos count)) ∙ ap unsigned_abs f.exact ∙ unsigned_abs-mul sum (pos d) in
    let b : y * count ≡ s * e = sym (unsigned_abs-mul m (pos count)) ∙ ap unsigned_abs g.exact ∙ unsigned_abs-mul sum (pos e) in
    let left : (x * e) * count ≡ (s * d) * e = omega arith ∙ ap (λ z. z * e) a in
    let right : (y * d) * count ≡ (s * e) * d = omega arith ∙ ap (λ z. z * d) b in
    let both : (x * e) * count ≡ (y * d) * count = left ∙ omega arith ∙ sym right in
    let cross : x * e ≡ y * d = sym (mul-div_cancel (x * e) some) ∙ ap (λ z. z / count) both ∙ mul-div_cancel (y * d) some in
    let p : d ∣ e = is_aligned d d (omega arith) x e f.lowest (subst (λ z. d ∣ z) (sym cross) (dvd-mul_left d y)) in
    let q : e ∣ d = is_aligned e e (omega arith) y d g.lowest (subst (λ z. e ∣ z) cross (dvd-mul_left e x)) in
    let same : d ≡ e = dvd_antisymm p q in
    (times_cancel n m count some (f.exact ∙ ap (λ z. sum *ℤ pos z) same ∙ sym g.exact), same)

-- ---- the computed mean: the sum over the count, in lowest terms

divisor_within-is : (n a b : ℕ) → b ≤ n → IsGcd a b (divisor_within n a b)
divisor_within-is n a zero h = IsGcd-from_zero a 0 refl
divisor_within-is zero a (suc b) h = absurd (omega arith)
divisor_within-is (suc n) a (suc b) h = IsGcd-from_mod a (suc b) _ (divisor_within-is n (suc b) (a % suc b) (let l = mod-lt a {m = suc b} (omega arith) in omega arith))

pub mean_of-is : (a : Aggregate) → 0 < a.count → IsMean a.count a.sum (mean_of a).numerator (mean_of a).denominator
mean_of-is a h = IsMean-from_quotients a.sum a.count (common_divisor (unsigned_abs a.sum) a.count) h (divisor_within-is a.count (unsigned_abs a.sum) a.count (omega arith))

-- no other fraction is
pub mean_of-only : (a : Aggregate) (f : Frac) → 0 < a.count → IsMean a.count a.sum f.numerator f.denominator → f ≡ mean_of a
mean_of-only a f h m =
    let e = only_mean a.count a.sum f.numerator (mean_of a).numerator f.denominator (mean_of a).denominator h m (mean_of-is a h) in
    λ i. record { numerator = e.0 i; denominator = e.1 i }
