-- Errors of InfluxQL texts: the first error with its byte offset.
-- (Own rule.)
use Rattle.std.specs.Prelude.{◌≡◌, ℕ, if◌then◌else◌, Option, Some, None, Result, Ok, Err}
use Rattle.ts_core.specs.facts.Facts.{Text}
use Rattle.ts_ql.specs.declared.fault.QlFault.{QlFault}
use Rattle.ts_ql.specs.declared.fault.QlFaultKind.{QlFaultKind}
use Rattle.ts_ql.specs.declared.fault.QlFaultKind.TheVariants as faults
use Rattle.ts_ql.specs.declared.fault.ParseError.{ParseError}
use Rattle.ts_ql.specs.declared.fault.ParseError.TheVariants as errors
use Rattle.ts_ql.specs.Tokens.{Lexeme}
use Rattle.ts_ql.specs.Keywords.{is_unsupported}

pub data Fault : Type 0 where
  -- no supported text continues with this token
  Syntax : ℕ → Fault
  -- unsupported, as written
  OutOfProfile : ℕ → Text → Fault
  -- no lower time bound
  NoLowerBound : ℕ → Fault
  -- a literal or a time expression outside its range
  OutOfRange : ℕ → Fault
  -- two columns of one name, or one named `time`
  RepeatedColumn : ℕ → Fault
  -- a 17th statement
  TooManyStatements : ℕ → Fault
  -- more than 10,000 buckets
  TooManyBuckets : ℕ → Fault
  -- the first bucket starts before the least time
  BucketBeforeLeastTime : ℕ → Fault

abbrev pub fault_of_kind : QlFaultKind → ℕ → Fault
fault_of_kind faults.Syntax at = Syntax at
fault_of_kind (faults.OutOfProfile token) at = OutOfProfile at token.now
fault_of_kind faults.NoLowerBound at = NoLowerBound at
fault_of_kind faults.OutOfRange at = OutOfRange at
fault_of_kind faults.RepeatedColumn at = RepeatedColumn at
fault_of_kind faults.TooManyStatements at = TooManyStatements at
fault_of_kind faults.TooManyBuckets at = TooManyBuckets at
fault_of_kind faults.BucketBeforeLeastTime at = BucketBeforeLeastTime at

abbrev pub as_fault : QlFault → Fault
as_fault fault = fault_of_kind fault.kind fault.at

abbrev pub option_as_fault : Option QlFault → Option Fault
option_as_fault None = None
option_as_fault (Some fault) = Some (as_fault fault)

-- the token, as written, is unsupported
abbrev pub unsupported : Lexeme → Fault
unsupported t = OutOfProfile t.start t.raw

-- no supported text continues with the token
abbrev pub unexpected : Lexeme → Fault
unexpected t = if is_unsupported t.kind t.text then unsupported t else Syntax t.start

abbrev pub IsFailure : {Y : Type 0} → ParseError → Result Y Fault → Type 0
IsFailure errors.OutOfMemory said = Unit {0}
IsFailure (errors.Fault fault) said = said ≡ Err (as_fault fault)

-- a call that needs no memory returned this result and left this state
abbrev pub FindsWith : {X S : Type 0} → Result X QlFault → S → Result (X × S) Fault → Type 0
FindsWith (Ok x) state said = said ≡ Ok (x, state)
FindsWith (Err fault) state said = said ≡ Err (as_fault fault)

-- a call that needs no memory returned this result
abbrev pub Finds : {X : Type 0} → Result X QlFault → Result X Fault → Type 0
Finds (Ok x) said = said ≡ Ok x
Finds (Err fault) said = said ≡ Err (as_fault fault)

-- a call that needs no memory returned this result, seen through `view`
abbrev pub FindsAs : {X Y : Type 0} → (X → Y) → Result X QlFault → Result Y Fault → Type 0
FindsAs view (Ok x) said = said ≡ Ok (view x)
FindsAs view (Err fault) said = said ≡ Err (as_fault fault)

-- a call returned this result, seen through `view`, unless it ran out of memory
abbrev pub Gives : {X Y : Type 0} → (X → Y) → Result X ParseError → Result Y Fault → Type 0
Gives view (Ok x) said = said ≡ Ok (view x)
Gives view (Err e) said = IsFailure e said
