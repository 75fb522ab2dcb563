-- The grammar of a line, from its parts to its text.
-- (InfluxData 1.8, line protocol reference, syntax, whitespace, special characters; own limits.)
use Rattle.std.specs.Prelude.{◌≡◌, ◌⊎◌, ℕ, ℤ, ◌+◌, ◌≤◌, ◌*ℤ◌, Bool, true, not, ◌&&◌, ◌==◌, List, [], ◌∷◌, ◌++◌, length, map, codes, FitsSigned}
use Rattle.std.specs.Int.{w64}
use Rattle.std.specs.List.{list_all, AllByRecursion}
use Rattle.std.specs.Str.Parse.{signed_digits_value}
use Rattle.ts_core.specs.facts.Facts.{Text}
use Rattle.ts_core.specs.lists.Members.{AllDistinct}
use Rattle.ts_core.specs.facts.Times.{IsTime}
use Rattle.ts_line.specs.declared.scan.Stops.{Stops}
use Rattle.ts_line.specs.declared.scan.Stops.TheVariants.{Comma, Equals}
use Rattle.ts_core.specs.text.Numbers.{is_number}
use Rattle.ts_line.specs.Parts.{LinePart, Parts}
use Rattle.ts_line.specs.Scan.{is_escaped, ends}
use Rattle.ts_line.specs.PartTexts.{unescaped}
use Rattle.ts_line.specs.Fields.{with_field}

abbrev pub are_spaces : Text → Bool
are_spaces text = list_all (λ b. b == 32) text

-- after the byte `before`: each delimiter follows a backslash, and the last byte is no backslash
abbrev pub is_closed : Stops → ℕ → Text → Bool
is_closed stops before [] = not (is_escaped stops before)
is_closed stops before (b ∷ bs) = not (ends stops before b) && is_closed stops b bs

-- a part as written in a line
pub record IsWrittenPart (stops : Stops) (raw : Text) : Type 0 where
  pub some : 1 ≤ length raw
  pub closed : is_closed stops 0 raw ≡ true

abbrev pub written_piece : Stops → ℕ → Text → LinePart
written_piece stops start raw = record { start = start; raw = raw; text = unescaped stops raw }

-- ---- tags

abbrev pub tags_text : List (Text × Text) → Text
tags_text [] = []
tags_text (t ∷ ts) = codes "," ++ (t.0 ++ (codes "=" ++ (t.1 ++ tags_text ts)))

-- the tags, if the comma of the first is at offset `at`
abbrev pub tags_from : ℕ → List (Text × Text) → List (LinePart × LinePart)
tags_from at [] = []
tags_from at (t ∷ ts) =
    (written_piece Equals (at + 1) t.0, written_piece Equals (at + 1 + length t.0 + 1) t.1)
    ∷ tags_from (at + 1 + length t.0 + 1 + length t.1) ts

abbrev pub tag_key : Text × Text → Text
tag_key t = unescaped Equals t.0

abbrev pub AreTags : List (Text × Text) → Type 0
AreTags tags = AllByRecursion (λ (t : Text × Text). IsWrittenPart Equals t.0
    × IsWrittenPart Equals t.1 × (tag_key t ≡ codes "time" → ⊥)) tags

-- ---- fields: a key and a number

abbrev pub field_spelling : Text × Text → Text
field_spelling f = f.0 ++ (codes "=" ++ (f.1 ++ codes "i"))

abbrev pub more_fields_text : List (Text × Text) → Text
more_fields_text [] = []
more_fields_text (f ∷ fs) = codes "," ++ (field_spelling f ++ more_fields_text fs)

abbrev pub IsWrittenField : Text × Text → Type 0
IsWrittenField f = IsWrittenPart Equals f.0
    × (unescaped Equals f.0 ≡ codes "time" → ⊥) × (is_number f.1 ≡ true) × FitsSigned w64 (signed_digits_value 10 f.1)

-- a field whose first byte is at offset `at`
abbrev pub field_from : ℕ → Text × Text → LinePart × ℤ
field_from at f = (written_piece Equals at f.0, signed_digits_value 10 f.1)

-- `before` with more fields, if the comma of the first is at offset `at`; of one name the last value counts
abbrev pub with_fields : List (LinePart × ℤ) → ℕ → List (Text × Text) → List (LinePart × ℤ)
with_fields before at [] = before
with_fields before at (f ∷ fs) =
    with_fields (with_field before (field_from (at + 1) f)) (at + 1 + length (field_spelling f)) fs

-- ---- the whole line

-- spaces and a number of units; their product is a valid time
pub record IsStamp (unit : ℤ) (stamp : Text) (time : ℤ) : Type 0 where
  pub gap : Text
  pub number : Text
  pub spelled : stamp ≡ codes " " ++ (gap ++ number)
  pub gap_is : are_spaces gap ≡ true
  pub number_is : is_number number ≡ true
  pub counted : time ≡ signed_digits_value 10 number *ℤ unit
  pub valid : IsTime time

-- the text after the fields states the time; an empty one means `now`
abbrev pub SaysTime : ℤ → ℤ → Text → ℤ → Type 0
SaysTime unit now stamp time = ((stamp ≡ []) × (time ≡ now)) ⊎ IsStamp unit stamp time

-- the text is a spelling of these parts
pub record IsSpelling (unit now : ℤ) (source : Text) (parts : Parts) : Type 0 where
  pub before : Text
  pub measurement : Text
  pub tags : List (Text × Text)
  pub gap : Text
  pub first : Text × Text
  pub more : List (Text × Text)
  pub stamp : Text
  pub time : ℤ
  pub after : Text
  pub return : Text
  pub spelled : source ≡ before ++ (measurement ++ (tags_text tags
      ++ (codes " " ++ (gap ++ (field_spelling first ++ (more_fields_text more ++ (stamp ++ (after ++ return))))))))
  pub before_is : are_spaces before ≡ true
  pub gap_is : are_spaces gap ≡ true
  pub after_is : are_spaces after ≡ true
  pub return_is : (return ≡ []) ⊎ (return ≡ 13 ∷ [])
  pub measurement_is : IsWrittenPart Comma measurement
  -- a line that begins with `#` is a comment
  pub no_comment : (rest : Text) → measurement ≡ codes "#" ++ rest → ⊥
  pub tags_are : AreTags tags
  pub keys_once : AllDistinct (map tag_key tags)
  pub first_is : IsWrittenField first
  pub more_are : AllByRecursion IsWrittenField more
  pub timed : SaysTime unit now stamp time
  pub short : length source ≤ 65536
  pub short_key : length measurement + length (tags_text tags) ≤ 4096
  pub few_tags : length tags ≤ 64
  pub few_fields : length more ≤ 255
  pub told : parts ≡ record {
    measurement = written_piece Comma (length before) measurement;
    tags = tags_from (length before + length measurement) tags;
    fields = with_fields
        (field_from (length before + length measurement + length (tags_text tags) + 1 + length gap) first ∷ [])
        (length before
        + length measurement + length (tags_text tags) + 1 + length gap + length (field_spelling first)) more;
    time = time;
  }
