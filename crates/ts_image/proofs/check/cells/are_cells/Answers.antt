use Rattle.std.proofs.Common.{refl, sym, subst}
use Rattle.std.proofs.lemmas.Simd.{map-map}
use Rattle.ts_core.specs.store.Cells.{cell_cmp}
use Rattle.ts_image.specs.Images.{ImageCell}
use Rattle.ts_store.specs.image.SavedContent.{AreRising}
use Rattle.ts_image.specs.CellParts.{cell_of_parts}
use Rattle.ts_image.proofs.check.cells.are_cells.Goals as goal

pub returns-then-are_cells_possible : goal.returns-then-are_cells_possible
returns-then-are_cells_possible g c =
    let e = sym (map-map (λ (x : ImageCell). x.cell) cell_of_parts c.args.cells.now) in (
      λ h. record { each = c.if-are_cells_possible.ensures.0 refl; rising = subst (AreRising cell_cmp) e (c.are_cells_rising.ensures.0 h) },
      λ k. c.are_cells_rising.ensures.1 (subst (AreRising cell_cmp) (sym e) k.rising),
    )
