use Rattle.std.proofs.lemmas.Str.{IsCharBoundary-after_ascii}
use Rattle.ts_core.proofs.text.cursor.after.Goals as goal

pub returns-clause-boundary : goal.returns-clause-boundary
returns-clause-boundary c = IsCharBoundary-after_ascii c.args.text.now c.args.at c.utf8.text c.requires.in_range c.requires.ascii
