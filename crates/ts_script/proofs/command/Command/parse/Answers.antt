use Rattle.std.proofs.Common.{sym, ◌∙◌}
use Rattle.ts_script.proofs.CommandLemmas.{split_line}
use Rattle.ts_script.proofs.command.Command.parse.Goals as goal

pub returns-in-Some : goal.returns-in-Some
returns-in-Some c = c.command_with.ensures ∙ sym (rw c.in-Some.is at (split_line c.args.line.now c.split_once.result c.split_once.ensures.cases))

pub returns-in-None : goal.returns-in-None
returns-in-None c = c.command_alone.ensures ∙ sym (rw c.in-None.is at (split_line c.args.line.now c.split_once.result c.split_once.ensures.cases))
