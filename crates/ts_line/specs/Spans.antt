-- Offsets of the parts of a line. (InfluxData 1.8, line protocol reference, syntax.)
use Rattle.std.specs.Prelude.{◌≡◌, ℕ, ℤ, ◌+◌, ◌≤◌, List, [], ◌∷◌, ◌++◌, length, map, slice_range}
use Rattle.ts_core.specs.facts.Facts.{Text}
use Rattle.ts_line.specs.Parts.{LinePart, Parts}

-- the part is the slice of the line at its span
abbrev pub IsPartOf : Text → LinePart → Type 0
IsPartOf line part = slice_range line part.start (part.start + length part.raw) ≡ part.raw

-- each part is the slice at its span, none begins before offset `n`, and each begins after the one before it ends
abbrev pub AreInOrder : Text → ℕ → List LinePart → Type 0
AreInOrder line n [] = Unit {0}
AreInOrder line n (p ∷ ps) = (n ≤ p.start) × IsPartOf line p × AreInOrder line (p.start + length p.raw) ps

abbrev pub tag_pieces : List (LinePart × LinePart) → List LinePart
tag_pieces [] = []
tag_pieces (t ∷ ts) = t.0 ∷ t.1 ∷ tag_pieces ts

abbrev pub field_piece : LinePart × ℤ → LinePart
field_piece f = f.0

-- all parts in the order of the line; a repeated field is listed where its name first appears
abbrev pub pieces_of : Parts → List LinePart
pieces_of p = p.measurement ∷ (tag_pieces p.tags ++ map field_piece p.fields)
