-- The values of marks and cells that the code reads. (Own rules.)
use Rattle.std.specs.Prelude.{ℤ, List, map, string_bytes, Vec}
use Rattle.ts_core.specs.declared.aggregates.aggregate.Extremes.{Extremes}
use Rattle.ts_core.specs.store.Cells.{Cell}
use Rattle.ts_core.specs.store.Marks.{Marks}
use Rattle.ts_image.specs.declared.read.cells.MarksParts.{MarksParts}
use Rattle.ts_image.specs.declared.read.cells.CellKeyParts.{CellKeyParts}
use Rattle.ts_image.specs.declared.read.cells.ExtremesParts.{ExtremesParts}
use Rattle.ts_image.specs.declared.read.cells.CellParts.{CellParts}
use Rattle.ts_image.specs.Images.{ImageCell}
use Rattle.ts_image.specs.PointParts.{point_of}
use Rattle.ts_image.specs.RuleParts.{texts_of}

abbrev pub lows_of : {A : Type 0} → Vec ℤ A → List ℤ
lows_of v = v.items

abbrev pub marks_of_parts : {A : Type 0} → MarksParts A → Marks
marks_of_parts m = record { raw = m.raw; lows = lows_of m.lows }

abbrev pub cell_key_of : {A : Type 0} → CellKeyParts A → Cell
cell_key_of k = record { index = k.index; field = string_bytes k.field; group = texts_of k.group }

abbrev pub extremes_of_parts : ExtremesParts → Extremes
extremes_of_parts e = record { min = e.min; max = e.max; first = point_of e.first; last = point_of e.last }

abbrev pub cell_of_parts : {A : Type 0} → CellParts A → ImageCell
cell_of_parts c =
    record { cell = cell_key_of c.key; count = c.count; sum = c.sum; extremes = extremes_of_parts c.extremes }

abbrev pub cells_of_parts : {A : Type 0} → Vec (CellParts A) A → List ImageCell
cells_of_parts v = map cell_of_parts v.items

abbrev pub all_cells_of : {A : Type 0} → Vec (Vec (CellParts A) A) A → List (List ImageCell)
all_cells_of v = map cells_of_parts v.items
