use Rattle.std.proofs.Common.{rules}
use Rattle.ts_core.specs.facts.Facts.{text_cmp}
use Rattle.ts_image.specs.TestParts.{field_of}
use Rattle.ts_image.proofs.Testing.{rising_sorted}
use Rattle.ts_image.proofs.check.series.are_columns_rising.Goals as goal

pub returns : goal.returns
returns g c = rising_sorted text_cmp field_of c.args.columns.now c.is_sorted_by.ensures.cases (λ q a b q' k. search rules)
