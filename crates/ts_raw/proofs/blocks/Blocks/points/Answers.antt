use Rattle.std.proofs.Common.{ap, ◌∙◌}
use Rattle.ts_raw.specs.BlockColumns.{points_in_texts}
use Rattle.ts_raw.proofs.HeldLemmas.{texts_count}
use Rattle.ts_raw.proofs.blocks.Blocks.points.Goals as goal

pub returns : goal.returns
returns c = c.self.invariant.total_is ∙ texts_count c.self.inside.bytes.now c.self.inside.handles.now ∙ ap points_in_texts c.self.view_is
