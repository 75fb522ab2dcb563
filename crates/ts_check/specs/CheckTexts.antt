-- Messages of the errors of plans and of certificates' texts. (Own rules.)
use Rattle.ts_core.specs.facts.Facts.{Text}
use Rattle.ts_core.specs.declared.text.fault_code.FaultCode.TheVariants.{BadCertificate}
use Rattle.ts_core.specs.declared.text.fault_text.FaultDetail.TheVariants.{At, OfPiece}
use Rattle.ts_core.specs.plans.Faults.{piece_fault_code}
use Rattle.ts_core.specs.text.FaultTexts.{fault_text, memory_text}
use Rattle.ts_check.specs.declared.fault.CheckFault.{CheckFault}
use Rattle.ts_check.specs.declared.fault.CheckError.{CheckError}
use Rattle.ts_check.specs.declared.fault.CheckError.TheVariants as checks
use Rattle.ts_check.specs.declared.certificate_fault.CertificateFault.{CertificateFault}
use Rattle.ts_check.specs.declared.certificate_fault.ReadCertificateError.{ReadCertificateError}
use Rattle.ts_check.specs.declared.certificate_fault.ReadCertificateError.TheVariants as readings

unfoldable pub check_fault_text : CheckFault → Text
check_fault_text fault = fault_text (piece_fault_code fault.kind) (OfPiece fault.piece)

unfoldable pub certificate_fault_text : CertificateFault → Text
certificate_fault_text fault = fault_text BadCertificate (At fault.at)

abbrev pub check_error_text : CheckError → Text
check_error_text (checks.Fault fault) = check_fault_text fault
check_error_text checks.OutOfMemory = memory_text

abbrev pub read_certificate_error_text : ReadCertificateError → Text
read_certificate_error_text (readings.Fault fault) = certificate_fault_text fault
read_certificate_error_text readings.OutOfMemory = memory_text
