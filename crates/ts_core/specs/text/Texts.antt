-- Texts in memory, modelled by their bytes. (InfluxData 1.8, key concepts: tag set. Own rule: its tags are in byte
-- order of their keys.)
use Rattle.std.specs.Prelude.{List, [], ◌∷◌, String, string_bytes}
use Rattle.std.specs.Borrow.{Bor}
use Rattle.std.specs.FinMap.{is_sorted}
use Rattle.std.specs.Prelude.{T}
use Rattle.ts_core.specs.facts.Facts.{Text, text_cmp, Series}

-- pairs of owned texts
abbrev pub owned_pairs : {A : Type 0} → List (String A × String A) → List (Text × Text)
owned_pairs [] = []
owned_pairs (t ∷ ts) = (string_bytes t.0, string_bytes t.1) ∷ owned_pairs ts

-- pairs of borrowed texts
abbrev pub borrowed_pairs : List (Bor Text × Bor Text) → List (Text × Text)
borrowed_pairs [] = []
borrowed_pairs (t ∷ ts) = (t.0.now, t.1.now) ∷ borrowed_pairs ts

-- the tags are in byte order of their keys, each key once
abbrev pub IsTagSet : List (Text × Text) → Type 0
IsTagSet tags = T (is_sorted text_cmp tags)

-- a series of borrowed texts
abbrev pub borrowed_series : Text → List (Bor Text × Bor Text) → Series
borrowed_series measurement tags = record { measurement = measurement; tags = borrowed_pairs tags }
