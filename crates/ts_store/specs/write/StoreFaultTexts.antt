-- Messages of a store's errors. (Own rule.)
use Rattle.ts_core.specs.facts.Facts.{Text}
use Rattle.ts_core.specs.text.FaultTexts.{fault_text, memory_text}
use Rattle.ts_core.specs.declared.text.fault_code.FaultCode.TheVariants as code
use Rattle.ts_core.specs.declared.text.fault_text.FaultDetail.TheVariants.{Alone, Mark}
use Rattle.ts_store.specs.declared.write.fault.WriteFault.{WriteFault}
use Rattle.ts_store.specs.declared.write.fault.WriteFault.TheVariants.{BelowRawMark, TooManySeries, TooManyFacts, OutOfMemory}

-- the message of a write's error
unfoldable pub write_fault_text : WriteFault → Text
write_fault_text (BelowRawMark mark) = fault_text code.BelowRawMark (Mark mark)
write_fault_text TooManySeries = fault_text code.TooManySeries Alone
write_fault_text TooManyFacts = fault_text code.TooManyFacts Alone
write_fault_text OutOfMemory = memory_text

-- the message of a run that was refused
abbrev pub run_in_progress_text : Text
run_in_progress_text = fault_text code.RunInProgress Alone
