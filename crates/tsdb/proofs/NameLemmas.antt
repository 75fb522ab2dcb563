-- Names with their delimiters escaped: parts of a line, which are read as the names.
use Rattle.std.proofs.Common.{◌≡◌, ℕ, ◌≤◌, Bool, true, false, [], ◌∷◌, length, refl, ap, arith}
use Rattle.std.proofs.Math.Bool.{and-false}
use Rattle.std.proofs.lemmas.Bool.Decides.{nat_tests}
use Rattle.ts_core.specs.facts.Facts.{Text}
use Rattle.ts_line.specs.PartTexts.{begins_escapable, unescaped}
use Rattle.ts_line.specs.Scan.{is_backslash, is_stop, is_escaped}
use Rattle.ts_line.specs.Spelling.{is_closed}
use Rattle.tsdb.specs.Exports.{stops_of, escaped, ends_bare, NamesAreRead}
use Rattle.tsdb.specs.declared.line_text.NamePart.{NamePart}
use Rattle.tsdb.specs.declared.line_text.NamePart.TheVariants.{Measurement, Key}

-- ---- a delimiter is no backslash

stop_is_other : (part : NamePart) (b : ℕ) → is_stop (stops_of part) b ≡ true → is_backslash b ≡ false
stop_is_other Measurement b e = grind (arith, nat_tests)
stop_is_other Key b e = grind (arith, nat_tests)

slash_is_none : (part : NamePart) → is_stop (stops_of part) 92 ≡ false
slash_is_none Measurement = refl
slash_is_none Key = refl

escapes : (part : NamePart) (b : ℕ) → is_escaped (stops_of part) b ≡ is_backslash b
escapes Measurement b = refl
escapes Key b = refl

-- ---- the text that is read

begins_by : (part : NamePart) (b : ℕ) (bs : Text) (s : Bool) → is_stop (stops_of part) b ≡ s → begins_escapable (stops_of part) (escaped (stops_of part) (b ∷ bs)) ≡ false
begins_by part b bs true is = rw is (slash_is_none part)
begins_by part b bs false is = rw is is

begins : (part : NamePart) (name : Text) → begins_escapable (stops_of part) (escaped (stops_of part) name) ≡ false
begins part [] = refl
begins part (b ∷ bs) = begins_by part b bs (is_stop (stops_of part) b) refl

read_by : (part : NamePart) (b : ℕ) (bs : Text) (s : Bool) → is_stop (stops_of part) b ≡ s → unescaped (stops_of part) (escaped (stops_of part) bs) ≡ bs
    → unescaped (stops_of part) (escaped (stops_of part) (b ∷ bs)) ≡ b ∷ bs
read_by part b bs true is rest = let other = stop_is_other part b is in rw (is, is, other) (ap (λ (t : Text). b ∷ t) rest)
read_by part b bs false is rest = rw (is, begins part bs, and-false (is_backslash b)) (ap (λ (t : Text). b ∷ t) rest)

read_back : (part : NamePart) (name : Text) → unescaped (stops_of part) (escaped (stops_of part) name) ≡ name
read_back part [] = refl
read_back part (b ∷ bs) = read_by part b bs (is_stop (stops_of part) b) refl (read_back part bs)

-- ---- a part of a line

closed_by : (part : NamePart) (before b : ℕ) (bs : Text) (s : Bool) → is_stop (stops_of part) b ≡ s → is_closed (stops_of part) b (escaped (stops_of part) bs) ≡ true
    → is_closed (stops_of part) before (escaped (stops_of part) (b ∷ bs)) ≡ true
closed_by part before b bs true is rest = rw (is, slash_is_none part, escapes part 92, is) rest
closed_by part before b bs false is rest = rw (is, is) rest

closed : (part : NamePart) (before : ℕ) (name : Text) → ends_bare before name ≡ true → is_closed (stops_of part) before (escaped (stops_of part) name) ≡ true
closed part before [] bare = rw (escapes part before) bare
closed part before (b ∷ bs) bare = closed_by part before b bs (is_stop (stops_of part) b) refl (closed part b bs bare)

longer : (part : NamePart) (b : ℕ) (bs : Text) (s : Bool) → is_stop (stops_of part) b ≡ s → 1 ≤ length (escaped (stops_of part) (b ∷ bs))
longer part b bs true is = rw is (omega arith)
longer part b bs false is = rw is (omega arith)

some : (part : NamePart) (name : Text) → 1 ≤ length name → 1 ≤ length (escaped (stops_of part) name)
some part [] le = absurd (omega arith)
some part (b ∷ bs) le = longer part b bs (is_stop (stops_of part) b) refl

pub names_are_read : NamesAreRead
names_are_read = λ part name full bare. (record { some = some part name full; closed = closed part 0 name bare }, read_back part name)
