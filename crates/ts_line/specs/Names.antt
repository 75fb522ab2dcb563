-- The names that a line can state. (InfluxData 1.8, line protocol reference, syntax; InfluxQL reference, keywords:
-- `time`. Own: no name is empty, a line has at most 64 tags and 256 fields.)
use Rattle.std.specs.Prelude.{◌≡◌, ◌≤◌, List, length, codes}
use Rattle.std.specs.List.{AllByRecursion}
use Rattle.ts_core.specs.facts.Facts.{Text, Series}
use Rattle.ts_core.specs.text.Texts.{IsTagSet}

-- the name isn't empty
abbrev pub IsName : Text → Type 0
IsName name = 1 ≤ length name

-- the name of a tag or a field: `time` is reserved
abbrev pub IsKey : Text → Type 0
IsKey name = IsName name × (name ≡ codes "time" → ⊥)

-- the names of fields
abbrev pub AreKeys : List Text → Type 0
AreKeys names = AllByRecursion IsKey names

-- the keys and values of tags
abbrev pub AreTagTexts : List (Text × Text) → Type 0
AreTagTexts tags = AllByRecursion (λ (t : Text × Text). IsKey t.0 × IsName t.1) tags

-- a line can state the series
pub record IsStatable (series : Series) : Type 0 where
  pub measurement : IsName series.measurement
  pub tags : AreTagTexts series.tags
  pub few : length series.tags ≤ 64
  pub set : IsTagSet series.tags
