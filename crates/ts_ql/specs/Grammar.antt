-- The grammar: the trees of a text, and the tokens that each spells from left to right.
-- (InfluxData 1.8, InfluxQL reference: notation, queries, statements, clauses. Own rule: the unsupported parts.)
--
--   text      = statement ending
--   ending    = [ ";" ] | ";" statement ending
--   statement = SELECT call { "," call } FROM from [ WHERE cond ]
--               [ GROUP BY item { "," item } ] [ FILL "(" option ")" ]
--   call      = function "(" name [ "::" ( FIELD | INTEGER ) ] ")" [ AS name ]
--   from      = name
--   cond      = time ( "=" | "<" | "<=" | ">" | ">=" ) moment | tag [ "::" TAG ] ( "=" | "!=" | "<>" ) string
--             | "(" cond ")" | cond AND cond
--   moment    = base { ( "+" | "-" ) duration }
--   base      = [ "-" ] integer | [ "-" ] duration | string | NOW "(" ")"
--   item      = time "(" duration [ "," [ "-" ] duration ] ")" | tag [ "::" TAG ]
--   option    = NULL | NONE | PREVIOUS | [ "-" ] integer
--
-- Each `spell_` function is one rule: the tokens of a tree, followed by the rest. Checks are placed between the tokens;
-- each gives the error, if any, of the part before it.
use Rattle.std.specs.Prelude.{◌≡◌, List, Bool, true, false, Option}
use Rattle.ts_core.specs.facts.Facts.{Text}
use Rattle.ts_ql.specs.declared.moment.Comparison.{Comparison}
use Rattle.ts_ql.specs.declared.token.Kind.{Kind}
use Rattle.ts_ql.specs.declared.token.Kind.TheVariants as kinds
use Rattle.ts_ql.specs.QueryFaults.{Fault}
use Rattle.ts_ql.specs.Literals.{is_word}
use Rattle.ts_ql.specs.Tokens.{Lexeme}
use Rattle.ts_ql.specs.Keywords.{is_time_column}

-- ---- tokens

-- a class of tokens
pub data Sort : Type 0 where
  -- this keyword, in any case
  Keyword : Text → Sort
  -- this word, in any case; it may also be a name
  Word : Text → Sort
  -- a name, quoted or not
  Name : Sort
  -- a name other than the time column
  Tag : Sort
  -- the time column
  Time : Sort
  -- all tokens of one kind: punctuation, operators, literals
  Of : Kind → Sort

abbrev pub is_name : Kind → Bool
is_name kinds.Word = true
is_name kinds.QuotedName = true
is_name kind = false

-- the token belongs to the class
abbrev pub Is : Sort → Lexeme → Type 0
Is (Keyword word) t = (t.kind ≡ kinds.Keyword) × (is_word word t.text ≡ true)
Is (Word word) t = (t.kind ≡ kinds.Word) × (is_word word t.text ≡ true)
Is Name t = is_name t.kind ≡ true
Is Tag t = (is_name t.kind ≡ true) × (is_time_column t.kind t.text ≡ false)
Is Time t = is_time_column t.kind t.text ≡ true
Is (Of kind) t = t.kind ≡ kind

-- an item of a spelling: any token of a class, one particular token of a class, or a check
pub data Item : Type 0 where
  Any : Sort → Item
  This : Sort → Lexeme → Item
  Examine : Option Fault → Item

-- ---- trees

pub data FieldType : Type 0 where
  Field : FieldType
  Integer : FieldType

pub record Call : Type 0 where
  pub function : Lexeme
  pub field : Lexeme
  pub cast : Option FieldType
  pub alias : Option Lexeme

pub data FromClause : Type 0 where
  Measurement : Lexeme → FromClause
  -- a subquery begins; it is unsupported
  Subquery : Lexeme → FromClause

-- an integer is a number of nanoseconds; a duration has units
pub data Measure : Type 0 where
  Count : Measure
  Duration : Measure

pub data Base : Type 0 where
  Number : Measure → Lexeme → Base
  -- a minus and a number
  Negative : Lexeme → Measure → Lexeme → Base
  -- a timestamp in quotes
  Quoted : Lexeme → Base
  Now : Lexeme → Base

-- adds or subtracts a duration
pub record Change : Type 0 where
  pub less : Bool
  pub by : Lexeme

pub record Instant : Type 0 where
  pub base : Base
  pub changes : List Change

pub data Cond : Type 0 where
  Compare : Lexeme → Comparison → Instant → Cond
  -- a tag, with or without a cast to tag, that equals a value or differs from it
  Match : Lexeme → Bool → Bool → Lexeme → Cond
  Group : Lexeme → Cond → Cond
  And : Cond → Cond → Cond

-- a number, with or without a minus
pub record Signed : Type 0 where
  pub minus : Option Lexeme
  pub number : Lexeme

pub data Dimension : Type 0 where
  Every : Lexeme → Lexeme → Option Signed → Dimension
  ByTag : Lexeme → Bool → Dimension

pub record GroupBy : Type 0 where
  pub first : Dimension
  pub more : List Dimension

pub data FillOption : Type 0 where
  NullOption : FillOption
  NoneOption : FillOption
  PreviousOption : FillOption
  NumberOption : Signed → FillOption

pub record Statement : Type 0 where
  pub select : Lexeme
  pub first : Call
  pub more : List Call
  pub source : FromClause
  pub filter : Option Cond
  pub group : Option GroupBy
  pub fill : Option FillOption

pub data Ending : Type 0 where
  Stop : Ending
  RightParen : Ending
  Next : Statement → Ending → Ending

pub record Script : Type 0 where
  pub first : Statement
  pub rest : Ending
