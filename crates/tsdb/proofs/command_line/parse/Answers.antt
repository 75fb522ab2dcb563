use Rattle.std.proofs.Common.{rules, ◌≡◌, ◌∙◌, sym, ap, subst, map}
use Rattle.clap.specs.Words.{App, HasKind, app_of, fault_of, is_simple, is_simple_and_free, subcommand_of}
use Rattle.tsdb.specs.CommandLines.{IsActionOf, program_app}
use Rattle.tsdb.proofs.CommandLineLemmas.{program_is_simple, program_is_simple_and_free, refused}
use Rattle.tsdb.proofs.command_line.parse.Goals as goal

pub returns-in_err-matches : goal.returns-in_err-matches
returns-in_err-matches g c =
    let words = map g.S.AsStr.text c.args.words.now in
    let is : app_of c.in_ok-program.program ≡ program_app = search rules in
    let kinds = c.in_err-matches.ensures.kinds (ap is_simple_and_free is ∙ program_is_simple_and_free) in
    refused _ _ words c.from_residual-in_err-matches.ensures.1 (subst (λ (a : App). HasKind (fault_of a words) c.in_err-matches.field-0.0) is kinds)

pub returns-in-Some : goal.returns-in-Some
returns-in-Some g c =
    let words = map g.S.AsStr.text c.args.words.now in
    let is : app_of c.in_ok-program.program ≡ program_app = search rules in
    let none = c.in_ok-matches.ensures.kinds (ap is_simple_and_free is ∙ program_is_simple_and_free) in
    let entered = (c.in_ok-matches.ensures.ok.2 (ap is_simple is ∙ program_is_simple)).1 in (
      sym (ap (λ (a : App). fault_of a words) is) ∙ none,
      subst (λ o. IsActionOf o c.in-Some.action) (entered ∙ ap (λ (a : App). subcommand_of a words) is) c.in-Some.ensures,
    )
