-- cited by public contracts and laws
pub mod CertificateTexts
pub mod Checks
pub mod CheckTexts
-- used only by models and proofs of the code
pub mod Certificates
pub mod CertificateLines
