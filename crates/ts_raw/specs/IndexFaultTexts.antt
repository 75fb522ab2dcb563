-- Messages of the errors of an index. (Own rule.)
use Rattle.ts_core.specs.facts.Facts.{Text}
use Rattle.ts_core.specs.text.FaultTexts.{fault_text, memory_text}
use Rattle.ts_core.specs.declared.text.fault_code.FaultCode.TheVariants as code
use Rattle.ts_core.specs.declared.text.fault_text.FaultDetail.TheVariants.{Alone}
use Rattle.ts_raw.specs.declared.index.fault.IndexFault.{IndexFault}
use Rattle.ts_raw.specs.declared.index.fault.IndexFault.TheVariants.{TooManySeries, OutOfMemory}

-- the message of an error
unfoldable pub index_fault_text : IndexFault → Text
index_fault_text TooManySeries = fault_text code.TooManySeries Alone
index_fault_text OutOfMemory = memory_text
