use Rattle.ts_line.specs.NameFilters.{filter_slot}
use Rattle.ts_line.proofs.MarkLemmas.{none_set}
use Rattle.ts_line.proofs.name_filter.NameFilter.new.Goals as goal

pub returns : goal.returns
returns c = λ name. none_set 64 (filter_slot name)
