use Rattle.tsdb.proofs.NameLemmas.{names_are_read}
use Rattle.tsdb.proofs.line_text.is_name.Goals as goal

pub returns-then-ne : goal.returns-then-ne
returns-then-ne c = record { read = names_are_read }

pub returns-else-ne : goal.returns-else-ne
returns-else-ne c = record { read = names_are_read }
