-- Lengths of the messages of a store's errors.
use Rattle.std.proofs.Common.{◌+◌, ◌≤◌, ℤ, pos, negsuc, ◌≤ℤ◌, length, length-append, arith}
use Rattle.std.specs.Fmt.{decimal, signed_decimal}
use Rattle.std.proofs.lemmas.Fmt.{length-decimal-le, length_signed_le}
use Rattle.std.proofs.lemmas.Int.{ints}
use lib.Signed.{mag}
use Rattle.ts_core.specs.text.FaultTexts.{fault_text}
use Rattle.ts_core.specs.facts.Times.{IsTime, least_time, greatest_time}
use Rattle.ts_core.specs.declared.text.fault_code.FaultCode.TheVariants as code
use Rattle.ts_core.specs.declared.text.fault_text.FaultDetail.TheVariants.{Mark}

valid_mag : (z : ℤ) → IsTime z → mag z ≤ 9223372036854775806
valid_mag (pos n) t = let high : pos n ≤ℤ greatest_time = t.not_after in omega (arith, ints)
valid_mag (negsuc n) t = let low : least_time ≤ℤ negsuc n = t.not_before in omega (arith, ints)

-- of a line below the raw mark
pub below_mark_short : (mark : ℤ) → IsTime mark → length (fault_text code.BelowRawMark (Mark mark)) ≤ 34
below_mark_short mark t =
    let m : mag mark ≤ 9223372036854775806 = valid_mag mark t in
    let digits : length (signed_decimal mark) ≤ 19 + 1 = length_signed_le 19 mark (omega (arith, m)) (omega (arith, m)) in
    let number : length (decimal 51) ≤ 2 = length-decimal-le 2 51 (omega arith) (omega arith) (omega arith) in
    simp length-append (omega (arith, digits, number))
