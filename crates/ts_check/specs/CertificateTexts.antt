-- Certificates as text, and the first error of other texts. (Own rules.) In the notation of the InfluxQL reference:
--
--   certificate = "plan 1" LF { piece LF } "end" LF .
--   piece       = source " " number " " number .
--   source      = "raw" | "rollup " name .
--   number      = "0" | [ "-" ] digit_but_0 { digit } .      within signed 64 bits
--   name        = 1 to 32 of "a" to "z", "0" to "9", "_" .
use Rattle.std.specs.Prelude.{◌≡◌, ℕ, ℤ, ◌<◌, ◌≤◌, ◌^◌, Bool, true, false, not, ◌&&◌, ◌||◌, ◌==◌, List, [], ◌∷◌, ◌++◌, length, take, codes, Result, Ok, Err, FitsSigned}
use Rattle.std.specs.Char.{is_ascii_digit}
use Rattle.std.specs.Fmt.{decimal, signed_decimal}
use Rattle.std.specs.Int.{w64}
use Rattle.std.specs.List.{list_all, AllByRecursion, flat_map}
use Rattle.std.specs.Str.Parse.{digits_value}
use Rattle.ts_core.specs.facts.Facts.{Text}
use Rattle.ts_core.specs.plans.Pieces.{Source, Raw, Rollup, Piece}
use Rattle.ts_core.specs.settings.SettingsFaults.{is_rule_name}
use Rattle.ts_check.specs.declared.certificate_fault.ReadCertificateError.{ReadCertificateError}
use Rattle.ts_check.specs.declared.certificate_fault.ReadCertificateError.TheVariants as errors

-- ---- pieces that have a spelling

abbrev pub HasRuleName : Source → Type 0
HasRuleName Raw = Unit {0}
HasRuleName (Rollup name) = is_rule_name name ≡ true

-- a piece that has a spelling
pub record HasSpelling (p : Piece) : Type 0 where
  pub named : HasRuleName p.source
  pub from : FitsSigned w64 p.from
  pub to : FitsSigned w64 p.to

abbrev pub EachHasSpelling : List Piece → Type 0
EachHasSpelling ps = AllByRecursion HasSpelling ps

-- ---- numbers

-- digits that don't begin with 0, or 0 alone
abbrev pub is_magnitude : Text → Bool
is_magnitude [] = false
is_magnitude (b ∷ bs) = list_all is_ascii_digit (b ∷ bs) && (not (b == 48) || length bs == 0)

-- each number has this decimal, and each such text is the decimal of its value
pub record AreDecimals : Type 0 where
  pub written : (n : ℕ) → n < 2 ^ 64 → (is_magnitude (decimal n) ≡ true) × (digits_value 10 (decimal n) ≡ n)
  pub only : (text : Text)
      → is_magnitude text ≡ true → digits_value 10 text < 2 ^ 64 → text ≡ decimal (digits_value 10 text)

-- ---- the spelling

abbrev pub source_text : Source → Text
source_text Raw = codes "raw"
source_text (Rollup name) = codes "rollup " ++ name

abbrev pub range_text : ℤ → ℤ → Text
range_text from to = signed_decimal from ++ (codes " " ++ signed_decimal to)

abbrev pub piece_text : Piece → Text
piece_text p = source_text p.source ++ (codes " " ++ range_text p.from p.to)

abbrev pub piece_line : Piece → Text
piece_line p = piece_text p ++ codes "\n"

abbrev pub certificate_text : List Piece → Text
certificate_text ps = codes "plan 1\n" ++ (flat_map piece_line ps ++ codes "end\n")

-- the text spells these pieces
pub record IsCertificate (text : Text) (ps : List Piece) : Type 0 where
  pub each : EachHasSpelling ps
  pub spelled : text ≡ certificate_text ps

-- ---- the first error

-- whole lines that a certificate may begin with
pub data Beginning : Type 0 where
  NoLine : Beginning
  -- the first line, and the lines of some pieces
  Open : List Piece → Beginning
  -- the last line too
  Closed : List Piece → Beginning

abbrev pub beginning_pieces : Beginning → List Piece
beginning_pieces NoLine = []
beginning_pieces (Open ps) = ps
beginning_pieces (Closed ps) = ps

abbrev pub beginning_text : Beginning → Text
beginning_text NoLine = []
beginning_text (Open ps) = codes "plan 1\n" ++ flat_map piece_line ps
beginning_text (Closed ps) = certificate_text ps

-- the first n bytes of the text are such lines
pub record BeginsWell (text : Text) (n : ℕ) : Type 0 where
  pub lines : Beginning
  pub each : EachHasSpelling (beginning_pieces lines)
  pub spelled : take n text ≡ beginning_text lines
  pub within : n ≤ length text

-- the text is no certificate, and its first malformed line, or its end, follows the first n bytes
pub record IsFirstBadLine (text : Text) (n : ℕ) : Type 0 where
  pub before : BeginsWell text n
  pub first : (m : ℕ) → BeginsWell text m → m ≤ n
  pub none : (ps : List Piece) → IsCertificate text ps → ⊥

-- ---- reading

-- the result of reading a text: the pieces that it spells, or its first error, or out of memory, which only a
-- certificate can have
abbrev pub IsReadingOf : Text → Result (List Piece) ReadCertificateError → Type 0
IsReadingOf text (Ok ps) = IsCertificate text ps
IsReadingOf text (Err (errors.Fault fault)) = IsFirstBadLine text fault.at
IsReadingOf text (Err errors.OutOfMemory) = (ps : List Piece) × IsCertificate text ps

-- exactly these pieces are read, unless memory runs out
abbrev pub IsReadAs : List Piece → Result (List Piece) ReadCertificateError → Type 0
IsReadAs ps (Ok read) = read ≡ ps
IsReadAs ps (Err e) = e ≡ errors.OutOfMemory

-- no certificate is a prefix of another
abbrev pub IsOneCertificate : Type 0
IsOneCertificate = (ps qs : List Piece) (more : Text) → EachHasSpelling ps
    → EachHasSpelling qs → certificate_text ps ++ more ≡ certificate_text qs → (ps ≡ qs) × (more ≡ [])

-- the spelling is unambiguous: each certificate has one reading, and each number one decimal
pub record IsPlainSpelling : Type 0 where
  pub certificates : IsOneCertificate
  pub numbers : AreDecimals
