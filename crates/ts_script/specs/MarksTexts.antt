-- Marks as a script prints them. (Own rule.)
use Rattle.std.specs.Prelude.{◌≡◌, ◌+◌, ◌≤◌, ℕ, ℤ, List, ◌++◌, codes, Result, IsOk, OnOk, String, string_bytes, string_len, string_capacity}
use Rattle.std.specs.Fmt.{signed_decimal}
use Rattle.std.specs.List.{flat_map, zip}
use Rattle.ts_core.specs.facts.Facts.{Text}
use Rattle.ts_core.specs.store.Marks.{Marks}
use Rattle.ts_core.specs.settings.Settings.{Rule, Settings}

-- a rule's name and its low index
abbrev pub rule_text : Text → ℤ → Text
rule_text name low = name ++ (codes "=" ++ signed_decimal low)

-- the same after a space
abbrev pub low_text : Text → ℤ → Text
low_text name low = codes " " ++ rule_text name low

-- the name and the low index of each rule
abbrev pub lows_text : List Rule → List ℤ → Text
lows_text rules lows = flat_map (λ (x : Rule × ℤ). low_text x.0.name x.1) (zip rules lows)

abbrev pub raw_text : ℤ → Text
raw_text mark = codes "marks " ++ signed_decimal mark

-- the raw mark, and the low index of each rule
abbrev pub marks_text : Settings → Marks → Text
marks_text s m = raw_text m.raw ++ lows_text s.rules m.lows

-- a call that appends a text of at most `most` bytes: it doesn't allocate if the string has that capacity
pub record IsAppendedWithin {A T E : Type 0}
    (most : ℕ) (text : Text) (old new : String A) (result : Result T E) : Type 0 where
  pub ok : OnOk result (string_bytes new ≡ string_bytes old ++ text)
  pub long : OnOk result (string_len new ≤ string_len old + most)
  pub spare : string_len old + most ≤ string_capacity old → IsOk result
  pub capacity : string_capacity old ≤ string_capacity new
