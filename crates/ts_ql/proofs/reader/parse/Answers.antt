use Rattle.ts_ql.proofs.DurationEnds.{durations_end_last}
use Rattle.ts_ql.proofs.MagnitudeLaws.{literals_count}
use Rattle.ts_ql.proofs.TextLaws.{reads_text, refuses_text, decided}
use Rattle.ts_ql.proofs.reader.parse.Goals as goal

pub returns-then-text-gt65536-clause-reading : goal.returns-then-text-gt65536-clause-reading
returns-then-text-gt65536-clause-reading g c = refuses_text (λ v. v.items) c.args.now c.args.text.now _ c.if-text-gt65536.true c.at.ensures

pub returns-then-text-gt65536-clause-decided : goal.returns-then-text-gt65536-clause-decided
returns-then-text-gt65536-clause-decided g c = decided c.args.now c.args.text.now

pub returns-then-text-gt65536-clause-literals : goal.returns-then-text-gt65536-clause-literals
returns-then-text-gt65536-clause-literals g c = literals_count

pub returns-then-text-gt65536-clause-ends : goal.returns-then-text-gt65536-clause-ends
returns-then-text-gt65536-clause-ends g c = durations_end_last

pub returns-clause-reading : goal.returns-clause-reading
returns-clause-reading g c = reads_text (λ v. v.items) c.args.now c.args.text.now c.read.result c.read.ensures.memory c.read.ensures.reading

pub returns-clause-decided : goal.returns-clause-decided
returns-clause-decided g c = decided c.args.now c.args.text.now

pub returns-clause-literals : goal.returns-clause-literals
returns-clause-literals g c = literals_count

pub returns-clause-ends : goal.returns-clause-ends
returns-clause-ends g c = durations_end_last
