use Rattle.std.proofs.Common.{rules}
use Rattle.ts_core.specs.facts.Facts.{series_cmp}
use Rattle.ts_image.specs.TestParts.{series_key_of}
use Rattle.ts_image.proofs.Testing.{rising_sorted}
use Rattle.ts_image.proofs.check.series.are_series_rising.Goals as goal

pub returns : goal.returns
returns g c = rising_sorted series_cmp series_key_of c.args.series.now c.is_sorted_by.ensures.cases (λ q a b q' k. search rules)
