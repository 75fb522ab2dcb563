-- Reading a number that is known to be at the front.
use Rattle.std.proofs.Common.{◌≡◌, ℕ, ◌+◌, ◌-◌, ◌*◌, ◌<◌, ◌≤◌, cond, List, [], ◌∷◌, length, take, drop, get_or, IsOk, Ok, Err, ⊎_elim, refl, sym, subst, ◌∙◌, ap, arith}
use Rattle.std.proofs.lemmas.Bool.{lt-ltb, le-ltb, cases_lt}
use Rattle.std.proofs.lemmas.List.{take_rest}
use Rattle.ts_block.specs.declared.fault.BlockFault.{BlockFault}
use Rattle.ts_block.specs.declared.fault.BlockFault.TheVariants.{Short, LongNumber}
use Rattle.ts_block.specs.NumbersRead.{Found, with_low, digits_at, number_at}
use Rattle.ts_block.proofs.Choices.{not_both}
use Rattle.ts_block.proofs.NumbersLemmas.{ends_here, fails_here, found_on, fails_short}

no_fault : (value scale : ℕ) (f : Found) → IsOk f → (e : BlockFault) → Err e ≡ with_low value scale f → ⊥
no_fault value scale (Ok x) ok e is = not_both _ e (sym is)
no_fault value scale (Err f) ok e is = absurd (cc)

-- ---- the byte at `i`, if the bits before it are read

module _ (bytes : List ℕ) (i value scale : ℕ) (found : Found) (so_far : with_low value scale (digits_at (8 - i) (drop i bytes)) ≡ found) (sound : (e : BlockFault) → Err e ≡ found → ⊥) (few : i < 8) where
  byte_there : i < length bytes
  byte_there = ⊎_elim {C = i < length bytes} (λ (l : i < length bytes). l) (λ (l : length bytes ≤ i). absurd (sound Short (fails_short value scale i bytes found so_far l))) (cases_lt i (length bytes))

  module _ (b : ℕ) (is : b ≡ get_or bytes i 0) where
    last_byte : b < 128 → Ok (value + scale * b, take (length bytes - (i + 1)) (drop (i + 1) bytes)) ≡ found
    last_byte l =
        ap (λ n. Ok (value + scale * n, take (length bytes - (i + 1)) (drop (i + 1) bytes))) is
        ∙ ends_here value scale i bytes found so_far byte_there (omega arith) (λ e. omega arith) (omega arith) (λ e. sound LongNumber (fails_here value scale i bytes found so_far byte_there (omega arith) (λ f. omega arith) e))

    high_byte : 128 ≤ b → with_low (value + scale * (b - 128)) (scale * 128) (digits_at (8 - (i + 1)) (drop (i + 1) bytes)) ≡ found
    high_byte h =
        ap (λ n. with_low (value + scale * (n - 128)) (scale * 128) (digits_at (8 - (i + 1)) (drop (i + 1) bytes))) is ∙ found_on value scale i bytes found so_far byte_there (omega arith) (λ e. omega arith) (omega arith)

-- ---- the second to the sixth byte

module _ (low : ℕ) (bytes : List ℕ) (number : IsOk (digits_at 8 bytes)) where
  abbrev found : Found
  found = with_low low 128 (digits_at 8 bytes)

  sound : (e : BlockFault) → Err e ≡ found → ⊥
  sound = no_fault low 128 (digits_at 8 bytes) number

  pub second_there : 0 < length bytes
  second_there = byte_there bytes 0 low 128 found refl sound (omega arith)

  module _ (b : ℕ) (b_is : b ≡ get_or bytes 0 0) where
    pub second_last : b < 128 → Ok (low + 128 * b, take (length bytes - 1) (drop 1 bytes)) ≡ found
    second_last = last_byte bytes 0 low 128 found refl sound (omega arith) b b_is

    module _ (b_high : 128 ≤ b) where
      after_second : with_low (low + 128 * (b - 128)) 16384 (digits_at 7 (drop 1 bytes)) ≡ found
      after_second = high_byte bytes 0 low 128 found refl sound (omega arith) b b_is b_high

      pub third_there : 1 < length bytes
      third_there = byte_there bytes 1 (low + 128 * (b - 128)) 16384 found after_second sound (omega arith)

      module _ (c : ℕ) (c_is : c ≡ get_or bytes 1 0) where
        pub third_last : c < 128 → Ok (low + 128 * (b - 128) + 16384 * c, take (length bytes - 2) (drop 2 bytes)) ≡ found
        third_last = last_byte bytes 1 (low + 128 * (b - 128)) 16384 found after_second sound (omega arith) c c_is

        module _ (c_high : 128 ≤ c) where
          after_third : with_low (low + 128 * (b - 128) + 16384 * (c - 128)) 2097152 (digits_at 6 (drop 2 bytes)) ≡ found
          after_third = high_byte bytes 1 (low + 128 * (b - 128)) 16384 found after_second sound (omega arith) c c_is c_high

          pub fourth_there : 2 < length bytes
          fourth_there = byte_there bytes 2 (low + 128 * (b - 128) + 16384 * (c - 128)) 2097152 found after_third sound (omega arith)

          module _ (d : ℕ) (d_is : d ≡ get_or bytes 2 0) where
            pub fourth_last : d < 128 → Ok (low + 128 * (b - 128) + 16384 * (c - 128) + 2097152 * d, take (length bytes - 3) (drop 3 bytes)) ≡ found
            fourth_last = last_byte bytes 2 (low + 128 * (b - 128) + 16384 * (c - 128)) 2097152 found after_third sound (omega arith) d d_is

            module _ (d_high : 128 ≤ d) where
              after_fourth : with_low (low + 128 * (b - 128) + 16384 * (c - 128) + 2097152 * (d - 128)) 268435456 (digits_at 5 (drop 3 bytes)) ≡ found
              after_fourth = high_byte bytes 2 (low + 128 * (b - 128) + 16384 * (c - 128)) 2097152 found after_third sound (omega arith) d d_is d_high

              pub fifth_there : 3 < length bytes
              fifth_there = byte_there bytes 3 (low + 128 * (b - 128) + 16384 * (c - 128) + 2097152 * (d - 128)) 268435456 found after_fourth sound (omega arith)

              module _ (e : ℕ) (e_is : e ≡ get_or bytes 3 0) where
                pub fifth_last : e < 128 → Ok (low + 128 * (b - 128) + 16384 * (c - 128) + 2097152 * (d - 128) + 268435456 * e, take (length bytes - 4) (drop 4 bytes)) ≡ found
                fifth_last = last_byte bytes 3 (low + 128 * (b - 128) + 16384 * (c - 128) + 2097152 * (d - 128)) 268435456 found after_fourth sound (omega arith) e e_is

                module _ (e_high : 128 ≤ e) where
                  after_fifth : with_low (low + 128 * (b - 128) + 16384 * (c - 128) + 2097152 * (d - 128) + 268435456 * (e - 128)) 34359738368 (digits_at 4 (drop 4 bytes)) ≡ found
                  after_fifth = high_byte bytes 3 (low + 128 * (b - 128) + 16384 * (c - 128) + 2097152 * (d - 128)) 268435456 found after_fourth sound (omega arith) e e_is e_high

                  pub sixth_there : 4 < length bytes
                  sixth_there = byte_there bytes 4 (low + 128 * (b - 128) + 16384 * (c - 128) + 2097152 * (d - 128) + 268435456 * (e - 128)) 34359738368 found after_fifth sound (omega arith)

                  pub sixth_last : (f : ℕ) → f ≡ get_or bytes 4 0 → f < 128
                      → Ok (low + 128 * (b - 128) + 16384 * (c - 128) + 2097152 * (d - 128) + 268435456 * (e - 128) + 34359738368 * f, take (length bytes - 5) (drop 5 bytes)) ≡ found
                  sixth_last f f_is = last_byte bytes 4 (low + 128 * (b - 128) + 16384 * (c - 128) + 2097152 * (d - 128) + 268435456 * (e - 128)) 34359738368 found after_fifth sound (omega arith) f f_is

-- ---- the first byte

pub first_there : (bytes : List ℕ) → IsOk (number_at bytes) → 0 < length bytes
unfolding number_at
first_there [] ok = absurd (cc)
first_there (b ∷ bs) ok = omega arith

pub first_last : (bytes : List ℕ) → IsOk (number_at bytes) → (b : ℕ) → b ≡ get_or bytes 0 0 → b < 128 → Ok (b, take (length bytes - 1) (drop 1 bytes)) ≡ number_at bytes
unfolding number_at
first_last [] ok b is l = absurd (cc)
first_last (x ∷ bs) ok b is l =
    (λ i. Ok (is i, take_rest (x ∷ bs) 1 i)) ∙ sym (ap (λ t. cond t (Ok (x, bs)) (with_low (x - 128) 128 (digits_at 8 bs))) (lt-ltb x 128 (omega arith)))

pub first_high : (bytes : List ℕ) → IsOk (number_at bytes) → (b : ℕ) → b ≡ get_or bytes 0 0 → 128 ≤ b → with_low (b - 128) 128 (digits_at 8 (take (length bytes - 1) (drop 1 bytes))) ≡ number_at bytes
unfolding number_at
first_high [] ok b is h = absurd (cc)
first_high (x ∷ bs) ok b is h =
    (λ i. with_low (is i - 128) 128 (digits_at 8 (take_rest (x ∷ bs) 1 i))) ∙ sym (ap (λ t. cond t (Ok (x, bs)) (with_low (x - 128) 128 (digits_at 8 bs))) (le-ltb x 128 (omega arith)))

low_ok : (low scale : ℕ) (f : Found) → IsOk (with_low low scale f) → IsOk f
low_ok low scale (Ok x) ok = refl
low_ok low scale (Err e) ok = absurd (cc)

pub second_known : (bytes : List ℕ) → IsOk (number_at bytes) → (b : ℕ) → b ≡ get_or bytes 0 0 → 128 ≤ b → IsOk (digits_at 8 (take (length bytes - 1) (drop 1 bytes)))
second_known bytes ok b is h = low_ok (b - 128) 128 (digits_at 8 (take (length bytes - 1) (drop 1 bytes))) (subst IsOk (sym (first_high bytes ok b is h)) ok)
