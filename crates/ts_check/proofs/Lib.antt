-- Checks: plans without a fault are valid
pub mod CheckedPlans
pub mod NamedRules
pub mod BoundaryNumbers
pub mod Bits
-- CertificateTexts, CertificateLines: the only text of a certificate, and its only reading
pub mod CertificateLaws
pub mod CertificateTokens
pub mod CertificateNumbers
-- CheckTexts
pub mod FaultLemmas
