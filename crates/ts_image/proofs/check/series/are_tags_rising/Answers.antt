use Rattle.std.proofs.Common.{rules}
use Rattle.ts_core.specs.facts.Facts.{text_cmp}
use Rattle.ts_image.specs.TestParts.{key_of_tag}
use Rattle.ts_image.proofs.Testing.{rising_sorted}
use Rattle.ts_image.proofs.check.series.are_tags_rising.Goals as goal

pub returns : goal.returns
returns g c = rising_sorted text_cmp key_of_tag c.args.tags.now c.is_sorted_by.ensures.cases (λ q a b q' k. search rules)
