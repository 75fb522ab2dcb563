use Rattle.std.proofs.Common.{rules, codes}
use Rattle.std.proofs.lemmas.Result.{IfOk-weaker}
use Rattle.clap.specs.Words.{new_app}
use Rattle.tsdb.specs.CommandLines.{IsCommand}
use Rattle.tsdb.proofs.CommandLineLemmas.{argument_added}
use Rattle.tsdb.proofs.program.serve.Goals as goal

pub returns : goal.returns
returns c =
    let empty : IsCommand (new_app (codes "serve")) c.after_help.result = search rules in
    let first = argument_added _ c.in_ok-arg.field-0 _ _ _ empty c.settings.ensures c.in_ok-arg.ensures in
    let second = argument_added _ c.in_ok-arg-2.field-0 _ _ _ first c.image.ensures c.in_ok-arg-2.ensures in
    let third = argument_added _ c.in_ok-arg-3.field-0 _ _ _ second c.port.ensures c.in_ok-arg-3.ensures in
    IfOk-weaker c.arg-4.result _ _ (λ r added. argument_added _ r _ _ _ third c.requests.ensures added) c.arg-4.ensures
