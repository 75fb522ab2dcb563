-- A 64-slot filter over names that spares most names the search for duplicates.
use Rattle.std.specs.Prelude.{◌≡◌, ℕ, ℤ, ◌+◌, ◌*◌, ◌-◌, ◌%◌, List, length, nat_lt, if◌then◌else◌, slice_index, slice_index_or, Bool, true, false}
use Rattle.std.specs.List.{AllByRecursion}
use Rattle.ts_core.specs.facts.Facts.{Text}
use Rattle.ts_line.specs.Parts.{LinePart}

abbrev pub filter_slot : Text → ℕ
filter_slot name = if nat_lt (length name) 2 then (slice_index name 0 % 64)
    else ((length name % 64) * 11 + slice_index name (length name - 2) * 3 + slice_index name (length name - 1)) % 64

-- the slot of a name is set
abbrev pub is_set : List Bool → Text → Bool
is_set slots name = slice_index_or slots (filter_slot name) false

-- the slot of each field name is set
abbrev pub AreInFilter : List Bool → List (LinePart × ℤ) → Type 0
AreInFilter slots fields = AllByRecursion (λ (f : LinePart × ℤ). is_set slots f.0.text ≡ true) fields

-- the slot of each tag key is set
abbrev pub AreKeysInFilter : List Bool → List (LinePart × LinePart) → Type 0
AreKeysInFilter slots tags = AllByRecursion (λ (t : LinePart × LinePart). is_set slots t.0.text ≡ true) tags
