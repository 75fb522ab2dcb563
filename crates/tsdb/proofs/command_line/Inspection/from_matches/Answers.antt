use Rattle.std.proofs.Common.{◌∙◌, sym, codes}
use Rattle.std.proofs.lemmas.Option.{none-some}
use Rattle.clap.specs.Words.{found_of}
use Rattle.clap.proofs.WalkLemmas.{first_value-rows}
use Rattle.tsdb.proofs.CommandLineLemmas.{flag_read}
use Rattle.tsdb.proofs.command_line.Inspection.from_matches.Goals as goal

pub returns-in_err-get_str : goal.returns-in_err-get_str
returns-in_err-get_str c = rw c.from_residual.ensures (λ inspection is. none-some _ (c.in_err-get_str.ensures ∙ first_value-rows (found_of c.args.matches.now) (codes "IMAGE") ∙ is.0))

pub returns : goal.returns
returns c = (
  sym (first_value-rows (found_of c.args.matches.now) (codes "IMAGE")) ∙ sym c.in_ok-get_str.ensures,
  flag_read (found_of c.args.matches.now) (codes "lines") c.get_flag.result c.get_flag.ensures.none c.get_flag.ensures.value c.get_flag.ensures.other,
)
