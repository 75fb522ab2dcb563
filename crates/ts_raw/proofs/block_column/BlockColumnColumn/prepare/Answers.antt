use Rattle.std.proofs.Common.{int_cmp, ap, ◌∙◌}
use Rattle.std.specs.FinMap as map
use Rattle.ts_raw.specs.BlockColumns.{BlockColumnState}
use Rattle.ts_raw.proofs.ColumnBlocks.{sound_again, points_again}
use Rattle.ts_raw.proofs.block_column.BlockColumnColumn.prepare.Goals as goal

pub invariant_of-self : goal.invariant_of-self
invariant_of-self g c = record { sound = sound_again c.self.inside.blocks c.stage.new.self c.self.invariant.sound c.stage.ensures.same; is_staged = tt }

pub invariant_of-self-2 : goal.invariant_of-self-2
invariant_of-self-2 g c = record { sound = sound_again c.self.inside.blocks c.stage.new.self c.self.invariant.sound c.stage.ensures.same; is_staged = c.in_ok-rewritten.ensures.staged }

pub returns-in_err-rewritten-clause-unchanged : goal.returns-in_err-rewritten-clause-unchanged
returns-in_err-rewritten-clause-unchanged g c = ap (map.from_sorted {R = int_cmp}) (points_again c.self.inside.blocks c.stage.new.self c.stage.ensures.same) ∙ ap (λ (s : BlockColumnState). s.points) c.self.view_is

pub returns-clause-unchanged : goal.returns-clause-unchanged
returns-clause-unchanged g c = ap (map.from_sorted {R = int_cmp}) (points_again c.self.inside.blocks c.stage.new.self c.stage.ensures.same) ∙ ap (λ (s : BlockColumnState). s.points) c.self.view_is
