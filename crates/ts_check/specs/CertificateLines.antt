-- Parsing the lines of a certificate. (Own rules.)
use Rattle.std.specs.Prelude.{◌≡◌, ◌⊎◌, ℕ, ℤ, ◌<◌, ◌≢◌, List, ◌++◌, length, codes, Option, Some, None, Result, Ok, Err, FitsSigned, slice_index}
use Rattle.std.specs.Fmt.{signed_decimal}
use Rattle.std.specs.Int.{w64}
use Rattle.ts_core.specs.facts.Facts.{Text}
use Rattle.ts_core.specs.plans.Pieces.{Source, Piece}
use Rattle.ts_check.specs.CertificateTexts.{HasRuleName, HasSpelling, source_text, range_text, piece_text, piece_line, IsCertificate, IsFirstBadLine}
use Rattle.ts_check.specs.declared.certificate_fault.ReadCertificateError.{ReadCertificateError}
use Rattle.ts_check.specs.declared.certificate_fault.ReadCertificateError.TheVariants as errors

-- a parsed value is spelled by the text, and without one no value is
abbrev pub TakesSpelled : {A : Type 0} → (A → Type 0) → Option A → Type 0
TakesSpelled IsSpelled (Some x) = IsSpelled x
TakesSpelled IsSpelled None = (x : _) → IsSpelled x → ⊥

-- the byte isn't in the text
abbrev pub Lacks : ℕ → Text → Type 0
Lacks byte text = (i : ℕ) → i < length text → slice_index text i ≢ byte

-- the text is a number
pub record IsNumber (text : Text) (n : ℤ) : Type 0 where
  pub fits : FitsSigned w64 n
  pub spelled : text ≡ signed_decimal n

-- the text is two numbers
pub record IsRange (text : Text) (range : ℤ × ℤ) : Type 0 where
  pub from : FitsSigned w64 range.0
  pub to : FitsSigned w64 range.1
  pub spelled : text ≡ range_text range.0 range.1

-- the text is a source, a space, and more text
pub record IsSource (text : Text) (found : Source × Text) : Type 0 where
  pub named : HasRuleName found.0
  pub spelled : text ≡ source_text found.0 ++ (codes " " ++ found.1)

-- the text is a piece
pub record IsPiece (text : Text) (p : Piece) : Type 0 where
  pub has : HasSpelling p
  pub spelled : text ≡ piece_text p

-- ---- lines

-- the text is the line of a piece, and more text
pub record HasPiece (text : Text) (p : Piece) (more : Text) : Type 0 where
  pub has : HasSpelling p
  pub spelled : text ≡ piece_line p ++ more

-- the text begins with no line of a certificate
pub record IsOff (text : Text) : Type 0 where
  pub no_piece : (p : Piece) (more : Text) → HasPiece text p more → ⊥
  pub no_end : (more : Text) → text ≡ codes "end\n" ++ more → ⊥

-- no certificate continues like this from `at` on: the text begins with none of its lines, or with the last one, and
-- `at` follows it
abbrev pub Stops : Text → Text → Type 0
Stops text at = (IsOff text × (at ≡ text)) ⊎ ((text ≡ codes "end\n" ++ at) × (0 < length at))

-- the reading of a text, except that memory may run out for any text
abbrev pub IsReadingIfMemory : Text → Result (List Piece) ReadCertificateError → Type 0
IsReadingIfMemory text (Ok ps) = IsCertificate text ps
IsReadingIfMemory text (Err (errors.Fault fault)) = IsFirstBadLine text fault.at
IsReadingIfMemory text (Err errors.OutOfMemory) = Unit {0}
