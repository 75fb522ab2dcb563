-- Insertion of a key into pairs sorted by key. (InfluxData 1.8, key concepts: tag set.)
use Rattle.std.specs.Prelude.{ℕ, ◌+◌, List, [], ◌∷◌, Result, Ok, Err, Bool, true, ◌&&◌}
use Rattle.std.specs.Ordering.{is_lt}
use Rattle.std.specs.FinMap.Entries.{by_order}
use Rattle.ts_core.specs.facts.Facts.{Text, text_cmp}

-- index of the first pair whose key isn't less: `Ok` if it has this key, else `Err`; `at` is the index of the list's
-- head
abbrev pub key_offset_from : ℕ → Text → List (Text × Text) → Result ℕ ℕ
key_offset_from at key [] = Err at
key_offset_from at key (e ∷ es) = by_order (text_cmp key e.0) (Err at) (Ok at) (key_offset_from (at + 1) key es)

-- keys strictly ascend
abbrev pub rise : List (Text × Text) → Bool
rise [] = true
rise (t ∷ []) = true
rise (t ∷ u ∷ ts) = is_lt (text_cmp t.0 u.0) && rise (u ∷ ts)
