use Rattle.std.proofs.Common.{refl}
use Rattle.ts_image.specs.ImageTests.{IsImageColumn}
use Rattle.ts_image.specs.SeriesParts.{column_of_parts}
use Rattle.ts_image.proofs.Testing.{all_next, all_not, all_done}
use Rattle.ts_image.proofs.check.series.are_columns.Goals as goal

pub loop-column-preserved : goal.loop-column-preserved
loop-column-preserved g c = all_next (IsImageColumn c.args.mark.now c.args.runs) column_of_parts c.args.columns.now c.loop-column.column-index c.column-item.result c.loop-column-test.true c.column-item.is c.loop-column.invariant (c.if-not-is_column.ensures.0 refl)

pub returns-then-not-is_column : goal.returns-then-not-is_column
returns-then-not-is_column g c = (λ e. absurd cc, λ h. absurd (all_not (IsImageColumn c.args.mark.now c.args.runs) column_of_parts c.args.columns.now c.loop-column.column-index c.column-item.result c.loop-column-test.true c.column-item.is (λ q. let e = c.if-not-is_column.ensures.1 q in absurd cc) h))

pub returns : goal.returns
returns g c = (λ e. all_done (IsImageColumn c.args.mark.now c.args.runs) column_of_parts c.args.columns.now c.loop-column.column-index c.loop-column-test.false c.loop-column.invariant, λ h. refl)
