-- The queries that the tokens of a text mean, or their first error.
-- (InfluxData 1.8, InfluxQL reference: queries. Own rule: the tokens before the first error begin some valid text.)
use Rattle.std.specs.Prelude.{◌≡◌, ◌⊎◌, ◌≤◌, ℕ, ◌+◌, ℤ, List, [], ◌∷◌, ◌++◌, length, drop, map, nat_lt, Bool, true, false, Some, None, Result, Ok, Err, IsErrAnd, ⊤}
use Rattle.std.specs.Str.Parse.{AllDigits, digits_value}
use Rattle.ts_core.specs.facts.Facts.{Text}
use Rattle.ts_core.specs.facts.Durations.{Term, AreTerms, spelled, total}
use Rattle.ts_ql.specs.declared.fault.ParseError.{ParseError}
use Rattle.ts_ql.specs.declared.fault.ParseError.TheVariants as errors
use Rattle.ts_ql.specs.QueryFaults.{Fault, Syntax, as_fault, unexpected, Gives}
use Rattle.ts_ql.specs.Grammar.{Item, Any, This, Examine, Is, Script}
use Rattle.ts_ql.specs.Lexing.{duration_end}
use Rattle.ts_ql.specs.Literals.{magnitude}
use Rattle.ts_ql.specs.Meanings.{script_queries}
use Rattle.ts_ql.specs.Selects.{Select}
use Rattle.ts_ql.specs.Productions.{spell}
use Rattle.ts_ql.specs.Tokenizing.{tokens_of}
use Rattle.ts_ql.specs.Tokens.{Lexeme}

-- there are tokens for the spelling
abbrev pub CanBeWritten : List Item → Type 0
CanBeWritten [] = ⊤
CanBeWritten (Any sort ∷ rest) = ((t : Lexeme) × Is sort t) × CanBeWritten rest
CanBeWritten (This sort l ∷ rest) = Is sort l × CanBeWritten rest
CanBeWritten (Examine fault ∷ rest) = CanBeWritten rest

-- the part of a spelling that tokens reach
pub data Reach : Type 0 where
  -- not to its end, but it can be completed
  Within : Reach
  -- to its end
  Whole : Reach
  -- to a failed check
  At : Fault → Reach

-- the tokens are those of the spelling, one by one, up to `reach`; no check before that fails
abbrev pub ReadsTokens : List Item → List Lexeme → Reach → Type 0
ReadsTokens [] [] reach = reach ≡ Whole
ReadsTokens [] (t ∷ ts) reach = ⊥
ReadsTokens (Any sort ∷ rest) [] reach = (reach ≡ Within) × CanBeWritten (Any sort ∷ rest)
ReadsTokens (Any sort ∷ rest) (t ∷ ts) reach = Is sort t × ReadsTokens rest ts reach
ReadsTokens (This sort l ∷ rest) [] reach = (reach ≡ Within) × CanBeWritten (This sort l ∷ rest)
ReadsTokens (This sort l ∷ rest) (t ∷ ts) reach = (t ≡ l) × Is sort t × ReadsTokens rest ts reach
ReadsTokens (Examine None ∷ rest) ts reach = ReadsTokens rest ts reach
ReadsTokens (Examine (Some fault) ∷ rest) [] reach = reach ≡ At fault
ReadsTokens (Examine (Some fault) ∷ rest) (t ∷ ts) reach = ⊥

-- some tree spells the tokens, and its statements mean these queries
abbrev pub Says : ℤ → List Lexeme → List Select → Type 0
Says now ts queries =
    (script : Script) × ReadsTokens (spell now script) ts Whole × (script_queries now script ≡ map Ok queries)

-- the tokens begin some text without an error
abbrev pub MayBecome : ℤ → List Lexeme → Type 0
MayBecome now ts =
    (script : Script) × (ReadsTokens (spell now script) ts Within ⊎ ReadsTokens (spell now script) ts Whole)

-- some tree spells the tokens before this one, or these with this one, and then its next check fails with this error
abbrev pub HasFault : ℤ → List Lexeme → Lexeme → Fault → Type 0
HasFault now before token fault =
    (script : Script)
    × (ReadsTokens (spell now script) before (At fault)
    ⊎ ReadsTokens (spell now script) (before ++ token ∷ []) (At fault))

-- The first error: the tokens before some token begin a valid text, but not with that token added. The error is that of
-- the check that fails there, if any, or else that the token is unexpected.
pub record IsFirstQueryFault (now : ℤ) (ts : List Lexeme) (fault : Fault) : Type 0 where
  pub before : List Lexeme
  pub token : Lexeme
  pub after : List Lexeme
  pub parts : ts ≡ before ++ token ∷ after
  pub begins : MayBecome now before
  pub ends : MayBecome now (before ++ token ∷ []) → ⊥
  pub examined : (other : Fault) → HasFault now before token other → fault ≡ other
  pub known : HasFault now before token fault ⊎ (fault ≡ unexpected token)

-- ---- texts: at most 65,536 bytes

abbrev pub SaysUnless : Bool → ℤ → Text → List Select → Type 0
SaysUnless true now text queries = ⊥
SaysUnless false now text queries = Says now (tokens_of text) queries

abbrev pub IsFaultIf : Bool → ℤ → Text → Fault → Type 0
IsFaultIf true now text fault = fault ≡ Syntax 65536
IsFaultIf false now text fault = IsFirstQueryFault now (tokens_of text) fault

-- the text means these queries at time `now`
abbrev pub TextSays : ℤ → Text → List Select → Type 0
TextSays now text queries = SaysUnless (nat_lt 65536 (length text)) now text queries

-- the first error of the text
abbrev pub TextFault : ℤ → Text → Fault → Type 0
TextFault now text fault = IsFaultIf (nat_lt 65536 (length text)) now text fault

-- the first error of the text; or out of memory, which only a text that means queries can have
abbrev pub Explained : ℤ → Text → ParseError → Type 0
Explained now text errors.OutOfMemory = (queries : List Select) × TextSays now text queries
Explained now text (errors.Fault fault) = TextFault now text (as_fault fault)

-- a call returned, seen through `view`, the queries of the text or its first error; or it ran out of memory on a text
-- that means queries
abbrev pub Tells : {X : Type 0} → (X → List Select) → ℤ → Text → Result X ParseError → Type 0
Tells view now text (Ok x) = TextSays now text (view x)
Tells view now text (Err e) = Explained now text e

-- ---- the laws

-- the call returned this error
abbrev pub RefusesAs : Fault → ParseError → Type 0
RefusesAs fault errors.OutOfMemory = ⊥
RefusesAs fault (errors.Fault e) = as_fault e ≡ fault

-- a call returned, seen through `view`, the meaning of the text, or ran out of memory on a text that means queries
pub record ReadsText {X : Type 0} (view : X → List Select)
    (now : ℤ) (text : Text) (result : Result X ParseError) : Type 0 where
  pub tells : Tells view now text result
  -- a text that means queries is parsed as these, unless the call ran out of memory
  pub queries : (queries : List Select) → TextSays now text queries → Gives view result (Ok queries)
  -- a text with a first error is refused with it, also without memory
  pub fault : (fault : Fault) → TextFault now text fault → IsErrAnd result (RefusesAs fault)

-- each text means queries or has a first error, and exactly one of these
pub record IsDecided (now : ℤ) (text : Text) : Type 0 where
  pub some : ((queries : List Select) × TextSays now text queries) ⊎ ((fault : Fault) × TextFault now text fault)
  pub not_both : (queries : List Select) (fault : Fault) → TextSays now text queries → TextFault now text fault → ⊥
  pub one_meaning : (queries others : List Select)
      → TextSays now text queries → TextSays now text others → queries ≡ others
  pub one_fault : (fault other : Fault) → TextFault now text fault → TextFault now text other → fault ≡ other

-- a duration is the sum of its terms, each a number times its unit
unfoldable pub DurationsCount : Type 0
DurationsCount = (terms : List Term) → AreTerms terms → magnitude (spelled terms) ≡ total terms

-- an integer is the decimal value of its digits
unfoldable pub IntegersCount : Type 0
IntegersCount = (digits : Text) → AllDigits 10 digits → magnitude digits ≡ digits_value 10 digits

pub record LiteralsCount : Type 0 where
  pub durations : DurationsCount
  pub integers : IntegersCount

-- terms stand in the text from one offset to another; no terms end where they begin
pub record TermsEndAt (text : Text) (from end : ℕ) : Type 0 where
  pub terms : List Term
  pub are_terms : AreTerms terms
  pub after : Text
  pub parts : drop from text ≡ spelled terms ++ after
  pub ends : end ≡ from + length (spelled terms)

-- a duration ends at the last offset at which terms from its start end
unfoldable pub DurationsEndLast : Type 0
DurationsEndLast =
    (text : Text) (from : ℕ) → TermsEndAt text from (duration_end text from)
    × ((end : ℕ) → TermsEndAt text from end → end ≤ duration_end text from)
