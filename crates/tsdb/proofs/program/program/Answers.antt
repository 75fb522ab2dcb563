use Rattle.std.proofs.Common.{rules}
use Rattle.std.proofs.lemmas.Result.{IfOk-weaker}
use Rattle.tsdb.specs.CommandLines.{IsCommand, tsdb_app}
use Rattle.tsdb.proofs.CommandLineLemmas.{command_added}
use Rattle.tsdb.proofs.program.program.Goals as goal

pub returns : goal.returns
returns c =
    let empty : IsCommand tsdb_app c.arg_required_else_help.result = search rules in
    let first = command_added _ _ c.in_ok-subcommand.field-0 _ _ empty c.replay.ensures c.in_ok-subcommand.ensures in
    let second = command_added _ _ c.in_ok-subcommand-2.field-0 _ _ first c.in_ok-faults.ensures c.in_ok-subcommand-2.ensures in
    let third = command_added _ _ c.in_ok-subcommand-3.field-0 _ _ second c.in_ok-inspect.ensures c.in_ok-subcommand-3.ensures in
    IfOk-weaker c.subcommand-4.result _ _ (λ r added. (command_added _ _ r _ _ third c.in_ok-serve.ensures added).0) c.subcommand-4.ensures
