use Rattle.std.proofs.Common.{rules, codes}
use Rattle.std.proofs.lemmas.Result.{IfOk-weaker}
use Rattle.clap.specs.Words.{new_app}
use Rattle.tsdb.specs.CommandLines.{IsCommand}
use Rattle.tsdb.proofs.CommandLineLemmas.{argument_added}
use Rattle.tsdb.proofs.program.inspect.Goals as goal

pub returns : goal.returns
returns c =
    let empty : IsCommand (new_app (codes "inspect")) c.after_help.result = search rules in
    let first = argument_added _ c.in_ok-arg.field-0 _ _ _ empty c.lines.ensures c.in_ok-arg.ensures in
    IfOk-weaker c.arg-2.result _ _ (λ r added. argument_added _ r _ _ _ first c.inspected.ensures added) c.arg-2.ensures
