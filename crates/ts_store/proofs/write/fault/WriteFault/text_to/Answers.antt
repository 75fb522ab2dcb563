use Rattle.std.proofs.Common.{arith}
use Rattle.std.specs.Fmt.{digits}
use Rattle.ts_store.specs.write.StoreFaultTexts.{write_fault_text}
use Rattle.ts_store.proofs.write.fault.WriteFault.text_to.Goals as goal

pub returns-in-TooManySeries-clause-short : goal.returns-in-TooManySeries-clause-short
unfolding digits write_fault_text
returns-in-TooManySeries-clause-short g c = rw c.in-TooManySeries.is (omega arith)

pub returns-in-TooManyFacts-clause-short : goal.returns-in-TooManyFacts-clause-short
unfolding digits write_fault_text
returns-in-TooManyFacts-clause-short g c = rw c.in-TooManyFacts.is (omega arith)
