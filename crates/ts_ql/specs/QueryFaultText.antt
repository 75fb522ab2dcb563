-- Codes and messages of the errors of InfluxQL texts. (Own rules.)
use Rattle.ts_core.specs.facts.Facts.{Text}
use Rattle.ts_core.specs.declared.text.fault_code.FaultCode.{FaultCode}
use Rattle.ts_core.specs.declared.text.fault_code.FaultCode.TheVariants as coded
use Rattle.ts_core.specs.text.FaultTexts.{at_offset, at_token, numbered_text, memory_text}
use Rattle.ts_ql.specs.declared.fault.ParseError.{ParseError}
use Rattle.ts_ql.specs.declared.fault.ParseError.TheVariants as errors
use Rattle.ts_ql.specs.QueryFaults.{Fault, Syntax, OutOfProfile, NoLowerBound, OutOfRange, RepeatedColumn, TooManyStatements, TooManyBuckets, BucketBeforeLeastTime, as_fault}

abbrev pub query_fault_code : Fault → FaultCode
query_fault_code (Syntax at) = coded.Syntax
query_fault_code (OutOfProfile at token) = coded.OutOfProfile
query_fault_code (NoLowerBound at) = coded.NoLowerBound
query_fault_code (OutOfRange at) = coded.OutOfRange
query_fault_code (RepeatedColumn at) = coded.RepeatedColumn
query_fault_code (TooManyStatements at) = coded.TooManyStatements
query_fault_code (TooManyBuckets at) = coded.TooManyBuckets
query_fault_code (BucketBeforeLeastTime at) = coded.BucketBeforeLeastTime

-- byte offset, followed by the unsupported text if that is the error
abbrev pub query_fault_detail : Fault → Text
query_fault_detail (Syntax at) = at_offset at
query_fault_detail (OutOfProfile at token) = at_token at token
query_fault_detail (NoLowerBound at) = at_offset at
query_fault_detail (OutOfRange at) = at_offset at
query_fault_detail (RepeatedColumn at) = at_offset at
query_fault_detail (TooManyStatements at) = at_offset at
query_fault_detail (TooManyBuckets at) = at_offset at
query_fault_detail (BucketBeforeLeastTime at) = at_offset at

abbrev pub query_fault_text : Fault → Text
query_fault_text fault = numbered_text (query_fault_code fault) (query_fault_detail fault)

abbrev pub error_text : ParseError → Text
error_text errors.OutOfMemory = memory_text
error_text (errors.Fault fault) = query_fault_text (as_fault fault)
