use Rattle.std.proofs.Common.{◌∙◌, sym, codes}
use Rattle.std.proofs.lemmas.Option.{none-some}
use Rattle.clap.specs.Words.{found_of}
use Rattle.clap.proofs.WalkLemmas.{first_value-rows}
use Rattle.tsdb.proofs.CommandLineLemmas.{value_read, value_unread}
use Rattle.tsdb.proofs.command_line.Service.from_matches.Goals as goal

pub returns-in_err-get_str : goal.returns-in_err-get_str
returns-in_err-get_str c = rw c.from_residual.ensures (λ service is. none-some _ (c.in_err-get_str.ensures ∙ first_value-rows (found_of c.args.matches.now) (codes "SETTINGS") ∙ is.0))

pub returns-in_err-get_str-2 : goal.returns-in_err-get_str-2
returns-in_err-get_str-2 c = rw c.from_residual-in_err-get_str-2.ensures (λ service is. none-some _ (c.in_err-get_str-2.ensures ∙ first_value-rows (found_of c.args.matches.now) (codes "IMAGE") ∙ is.1))

pub returns-in_err-get_one : goal.returns-in_err-get_one
returns-in_err-get_one c = rw c.from_residual-in_err-get_one.ensures
    (λ service is. value_unread 16 (found_of c.args.matches.now) (codes "PORT") _ (λ t e. (c.in_err-get_one.ensures.value t e).1.0) is.2)

pub returns-in_err-get_one-2 : goal.returns-in_err-get_one-2
returns-in_err-get_one-2 c = rw c.from_residual-in_err-get_one-2.ensures
    (λ service is. value_unread 64 (found_of c.args.matches.now) (codes "REQUESTS") _ (λ t e. (c.in_err-get_one-2.ensures.value t e).1.0) is.3)

pub returns : goal.returns
returns c = (
  sym (first_value-rows (found_of c.args.matches.now) (codes "SETTINGS")) ∙ sym c.in_ok-get_str.ensures,
  sym (first_value-rows (found_of c.args.matches.now) (codes "IMAGE")) ∙ sym c.in_ok-get_str-2.ensures,
  value_read 16 (found_of c.args.matches.now) (codes "PORT") _ c.in_ok-get_one.ensures.none (λ t e. (c.in_ok-get_one.ensures.value t e).0),
  value_read 64 (found_of c.args.matches.now) (codes "REQUESTS") _ c.in_ok-get_one-2.ensures.none (λ t e. (c.in_ok-get_one-2.ensures.value t e).0),
)
