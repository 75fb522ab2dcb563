use Rattle.ts_line.specs.EscapeLaws.{reads_pairs}
use Rattle.ts_core.specs.facts.TimeUnits.{nanoseconds_of}
use Rattle.ts_line.proofs.Laws.{told_of, read_of}
use Rattle.ts_line.proofs.SpansLemmas.{placed_by}
use Rattle.ts_line.proofs.read.read_line.Goals as goal

pub returns-clause-spelled : goal.returns-clause-spelled
returns-clause-spelled g c = record {
  told = told_of (nanoseconds_of c.args.precision) c.args.now c.args.text.now c.line_or_fault.result c.line_or_fault.ensures.value;
  only = read_of (nanoseconds_of c.args.precision) c.args.now c.args.text.now c.line_or_fault.result c.line_or_fault.ensures.value;
}

pub returns-clause-pairs : goal.returns-clause-pairs
returns-clause-pairs g c = reads_pairs

pub returns-clause-spans : goal.returns-clause-spans
returns-clause-spans g c = placed_by (nanoseconds_of c.args.precision) c.args.now c.args.text.now c.line_or_fault.result (told_of (nanoseconds_of c.args.precision) c.args.now c.args.text.now c.line_or_fault.result c.line_or_fault.ensures.value)
