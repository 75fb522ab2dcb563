-- Cited by public contracts and laws: tokens, the grammar, the spelling and meaning of its trees, and the meaning of a
-- text.
pub mod Tokens
pub mod DurationUnits
pub mod Lexing
pub mod Tokenizing
pub mod Literals
pub mod Dates
pub mod Keywords
pub mod QueryFaults
pub mod QueryFaultText
pub mod Selects
pub mod BucketLimits
pub mod Ranges
pub mod Grammar
pub mod Statements
pub mod QueryRules
pub mod Meanings
pub mod Productions
pub mod Laws
pub mod Counting
-- Used only by proofs of the code: where tokens end, and the state machine that parses a text.
pub mod Shapes
pub mod Lists
pub mod SelectSteps
pub mod ColumnReading
pub mod MomentSteps
pub mod WhereSteps
pub mod GroupSteps
pub mod Builders
pub mod Reading
