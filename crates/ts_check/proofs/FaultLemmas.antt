-- The length of the messages of faults: they are short.
use Rattle.std.proofs.Common.{◌<◌, ◌≤◌, ◌^◌, length, arith, length-append}
use Rattle.std.specs.Fmt.{decimal}
use Rattle.std.proofs.lemmas.Fmt.{length-decimal-le}
use Rattle.ts_core.specs.declared.plans.fault.PieceFault.{PieceFault}
use Rattle.ts_core.specs.declared.plans.fault.PieceFault.TheVariants.{Gap, BelowMark, NoSuchRule, OtherMeasurement, OffBoundary, BelowLow, Straddles, TagNotKept}
use Rattle.ts_core.specs.plans.Faults.{fault_number}
use Rattle.ts_check.specs.declared.fault.CheckFault.{CheckFault}
use Rattle.ts_check.specs.declared.certificate_fault.CertificateFault.{CertificateFault}
use Rattle.ts_check.specs.CheckTexts.{check_fault_text, certificate_fault_text}

number-small : (f : PieceFault) → fault_number f < 100
number-small Gap = omega arith
number-small BelowMark = omega arith
number-small NoSuchRule = omega arith
number-small OtherMeasurement = omega arith
number-small OffBoundary = omega arith
number-small BelowLow = omega arith
number-small Straddles = omega arith
number-small TagNotKept = omega arith

pub check_fault_text_short : (f : CheckFault) → f.piece < 2 ^ 64 → length (check_fault_text f) ≤ 35
unfolding check_fault_text
check_fault_text_short f h =
    let small = number-small f.kind in
    let number : length (decimal (fault_number f.kind)) ≤ 2 = length-decimal-le 2 (fault_number f.kind) (omega arith) small (omega arith) in
    let piece : length (decimal f.piece) ≤ 20 = length-decimal-le 20 f.piece (omega arith) (omega arith) h in
    simp length-append (omega (arith, number, piece))

pub certificate_fault_text_short : (f : CertificateFault) → f.at < 2 ^ 64 → length (certificate_fault_text f) ≤ 32
unfolding certificate_fault_text
certificate_fault_text_short f h =
    let number : length (decimal 81) ≤ 2 = length-decimal-le 2 81 (omega arith) (omega arith) (omega arith) in
    let place : length (decimal f.at) ≤ 20 = length-decimal-le 20 f.at (omega arith) (omega arith) h in
    simp length-append (omega (arith, number, place))
