use Rattle.std.proofs.Common.{◌∙◌}
use Rattle.ts_line.proofs.MomentLemmas.{no_moment}
use Rattle.ts_line.proofs.timestamp.moment.Goals as goal

pub returns-in_err-number : goal.returns-in_err-number
returns-in_err-number c = c.from_residual.ensures ∙ no_moment c.args.unit c.args.text.now c.requires.unit c.in_err-number.ensures
