-- The tag values of a series; a tag that it doesn't have counts as the empty text.
-- (InfluxData 1.8, InfluxQL: GROUP BY tags, and tag conditions of WHERE.)
use Rattle.std.specs.Prelude.{List, [], ◌∷◌, map, if◌then◌else◌}
use Rattle.ts_core.specs.facts.Facts.{Text, same_text, Series}

abbrev pub value_among : List (Text × Text) → Text → Text
value_among [] tag = []
value_among (t ∷ ts) tag = if same_text t.0 tag then t.1 else value_among ts tag

abbrev pub tag_value : Series → Text → Text
tag_value s tag = value_among s.tags tag

-- the values of some tags
abbrev pub tag_values : List Text → Series → List Text
tag_values tags s = map (tag_value s) tags
