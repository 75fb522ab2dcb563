use Rattle.std.proofs.Common.{rules, ◌≡◌, ◌∙◌, codes}
use Rattle.clap.specs.Words.{found_of}
use Rattle.clap.proofs.WalkLemmas.{first_value-rows}
use Rattle.tsdb.proofs.CommandLineLemmas.{faults_requested, name_entered}
use Rattle.tsdb.proofs.command_line.Action.from_matches.Goals as goal

pub returns-in-Some-faults-default : goal.returns-in-Some-faults-default
returns-in-Some-faults-default c =
    let named : c.in-Some-faults-default.field-0-0.now ≡ codes "faults" = search rules in
    faults_requested _ _ _ _ (c.in-Some-faults-default.ensures.name ∙ name_entered c.args.matches.now) c.in-Some-faults-default.ensures.rows named
    (c.get_str.ensures ∙ first_value-rows (found_of c.in-Some-faults-default.values.now) (codes "N"))
