-- The name of an image in the line that a server prints before its first request. (Own rule.)
use Rattle.std.specs.Prelude.{◌++◌, codes, if◌then◌else◌}
use Rattle.ts_core.specs.facts.Facts.{Text, same_text}

-- an image's name, and the path that it leads to if it is a link
abbrev pub file_text : Text → Text → Text
file_text name path = if same_text name path then name else name ++ (codes " -> " ++ path)
