-- The text of a series, part by part. (Own rules.)
use Rattle.std.specs.Prelude.{List, [], ◌∷◌, ◌++◌, codes}
use Rattle.json.specs.Print.{quoted}
use Rattle.serde_json.specs.Data.{object, no_members}
use Rattle.serde_json.specs.Written.{compact_text}
use Rattle.ts_core.specs.facts.Facts.{Text}
use Rattle.ts_ql.specs.Selects.{Select}
use Rattle.ts_reply.specs.Replies.{columns_data, tags_among}

-- the beginning of every series of a query: its columns and its measurement
abbrev pub series_head : Select → Text
series_head s =
    codes "{\"columns\":" ++ (compact_text (columns_data s) ++ (codes ",\"name\":" ++ quoted s.query.measurement))

-- the tags of a group, if the query groups by tags
abbrev pub grouped_tags_text : List Text → List Text → Text
grouped_tags_text [] values = []
grouped_tags_text (tag ∷ tags) values =
    codes ",\"tags\":" ++ compact_text (object (tags_among no_members (tag ∷ tags) values))
