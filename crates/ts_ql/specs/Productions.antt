-- Tokens that trees spell, with the checks between them.
-- (InfluxData 1.8, InfluxQL reference: queries, statements, clauses, literals. Own rule: the checks and their errors.)
use Rattle.std.specs.Prelude.{ℕ, ℤ, pos, int_le, ◌+◌, List, [], ◌∷◌, Bool, true, false, nat_le, nat_lt, ◌&&◌, Option, Some, None, Result, Ok, Err, if◌then◌else◌, codes, bytes_eq}
use Rattle.std.specs.Option.{unwrap_or}
use Rattle.ts_core.specs.facts.Facts.{Text}
use Rattle.ts_core.specs.facts.Times.{least_time, greatest_time}
use Rattle.ts_core.specs.declared.queries.value.Function.{Function}
use Rattle.ts_core.specs.declared.aggregates.bucket.Buckets.{Buckets}
use Rattle.ts_ql.specs.declared.moment.Comparison.{Comparison}
use Rattle.ts_ql.specs.declared.moment.Comparison.TheVariants as comparisons
use Rattle.ts_ql.specs.declared.token.Kind.{Kind}
use Rattle.ts_ql.specs.declared.token.Kind.TheVariants as kinds
use Rattle.ts_ql.specs.QueryFaults.{Fault, OutOfRange, TooManyStatements, unsupported, unexpected}
use Rattle.ts_ql.specs.Grammar.{Keyword, Word, Name, Tag, Time, Of, Item, Any, This, Examine, FieldType, Field, Integer, Call, FromClause, Measurement, Subquery, Measure, Count, Duration, Base, Number, Negative, Quoted, Now, Change, Instant, Cond, Compare, Match, Group, And, Signed, Dimension, Every, ByTag, GroupBy, FillOption, NullOption, NoneOption, PreviousOption, NumberOption, Statement, Ending, Stop, RightParen, Next, Script}
use Rattle.ts_ql.specs.Literals.{literal}
use Rattle.ts_ql.specs.Meanings.{no_meaning, base_start, base_value, total_after, after_call, after_calls, after_from, after_filter, after_dimension, statement_meaning, signed_start, signed_value}
use Rattle.ts_ql.specs.Selects.{Select}
use Rattle.ts_ql.specs.Statements.{Meaning, statement_query}
use Rattle.ts_ql.specs.Tokens.{Lexeme}
use Rattle.ts_ql.specs.Keywords.{function_called, named}

-- ---- checks

-- a function is one of seven, unquoted
abbrev pub known_function : Lexeme → Option Function → Option Fault
known_function l None = Some (unsupported l)
known_function l (Some f) = None

abbrev pub function_fault_at : Kind → Lexeme → Option Fault
function_fault_at kinds.Word l = known_function l (function_called l.text)
function_fault_at kind l = Some (unsupported l)

abbrev pub function_fault : Lexeme → Option Fault
function_fault l = function_fault_at l.kind l

-- all functions are applied to one field
abbrev pub field_fault : Option Text → Lexeme → Option Fault
field_fault None l = None
field_fault (Some field) l = if bytes_eq field (named l) then None else Some (unsupported l)

-- a literal whose first token is at `first` fits in 64 bits
abbrev pub literal_fault : ℕ → Option ℤ → Option Fault
literal_fault first None = Some (OutOfRange first)
literal_fault first (Some value) = None

-- a duration that is added or subtracted fits in 64 bits
abbrev pub change_fault : Change → Option Fault
change_fault c = literal_fault c.by.start (literal false c.by.text)

-- a time expression is a valid time
abbrev pub time_fault : ℕ → ℤ → Option Fault
time_fault first total = if int_le least_time total && int_le total greatest_time then None else Some (OutOfRange first)

-- at most 32 parentheses are open
abbrev pub depth_fault : ℕ → Lexeme → Option Fault
depth_fault depth opener = if nat_lt depth 32 then None else Some (unsupported opener)

-- there is at most one time(..)
abbrev pub again_fault : Option Buckets → Lexeme → Option Fault
again_fault None time = None
again_fault (Some buckets) time = Some (unexpected time)

-- an interval is at least 1 nanosecond, and fits in 64 bits
abbrev pub interval_fault_of : ℕ → Option ℤ → Option Fault
interval_fault_of at None = Some (OutOfRange at)
interval_fault_of at (Some interval) = if int_le (pos 1) interval then None else Some (OutOfRange at)

abbrev pub interval_fault : Lexeme → Option Fault
interval_fault l = interval_fault_of l.start (literal false l.text)

-- at most 16 statements
abbrev pub count_fault : ℕ → Lexeme → Option Fault
count_fault before select = if nat_le 16 before then Some (TooManyStatements select.start) else None

abbrev pub fault_in : Result Select Fault → Option Fault
fault_in (Ok query) = None
fault_in (Err fault) = Some fault

-- ---- SELECT and FROM

abbrev pub type_word : FieldType → Text
type_word Field = codes "field"
type_word Integer = codes "integer"

abbrev pub spell_type : Option FieldType → List Item → List Item
spell_type None rest = rest
spell_type (Some t) rest = Any (Of kinds.DoubleColon) ∷ Any (Word (type_word t)) ∷ rest

abbrev pub spell_alias : Option Lexeme → List Item → List Item
spell_alias None rest = rest
spell_alias (Some alias) rest = Any (Keyword (codes "as")) ∷ This Name alias ∷ rest

abbrev pub spell_call : Option Text → Call → List Item → List Item
spell_call field a rest =
    This Name a.function ∷ Examine (function_fault a.function) ∷ Any (Of kinds.LeftParen)
    ∷ This Name a.field ∷ Examine (field_fault field a.field)
    ∷ spell_type a.cast (Any (Of kinds.RightParen) ∷ spell_alias a.alias rest)

abbrev pub spell_calls : Meaning → List Call → List Item → List Item
spell_calls p [] rest = rest
spell_calls p (a ∷ more) rest = Any (Of kinds.Comma) ∷ spell_call p.field a (spell_calls (after_call p a) more rest)

abbrev pub spell_from : FromClause → List Item → List Item
spell_from (Measurement l) rest = This Name l ∷ rest
spell_from (Subquery opener) rest = This (Of kinds.LeftParen) opener ∷ Examine (Some (unsupported opener)) ∷ rest

-- ---- WHERE

abbrev pub kind_of_measure : Measure → Kind
kind_of_measure Count = kinds.Integer
kind_of_measure Duration = kinds.Duration

abbrev pub spell_base : ℤ → Base → List Item → List Item
spell_base now (Number m l) rest =
    This (Of (kind_of_measure m)) l ∷ Examine (literal_fault l.start (literal false l.text)) ∷ rest
spell_base now (Negative minus m l) rest =
    This (Of kinds.Minus) minus
    ∷ This (Of (kind_of_measure m)) l ∷ Examine (literal_fault minus.start (literal true l.text)) ∷ rest
spell_base now (Quoted l) rest =
    This (Of kinds.StringLiteral) l ∷ Examine (literal_fault l.start (base_value now (Quoted l))) ∷ rest
spell_base now (Now l) rest = This (Word (codes "now")) l ∷ Any (Of kinds.LeftParen) ∷ Any (Of kinds.RightParen) ∷ rest

abbrev pub sign_of : Bool → Kind
sign_of true = kinds.Minus
sign_of false = kinds.Plus

-- the durations added to a total; the time expression begins at `first` and is checked when it is complete
abbrev pub spell_changes : ℕ → ℤ → List Change → List Item → List Item
spell_changes first total [] rest = Examine (time_fault first total) ∷ rest
spell_changes first total (c ∷ cs) rest =
    Any (Of (sign_of c.less))
    ∷ This (Of kinds.Duration) c.by ∷ Examine (change_fault c) ∷ spell_changes first (total_after total c) cs rest

abbrev pub spell_instant : ℤ → Instant → List Item → List Item
spell_instant now i rest =
    spell_base now i.base (spell_changes (base_start i.base) (unwrap_or (base_value now i.base) (pos 0)) i.changes rest)

abbrev pub kind_of_comparison : Comparison → Kind
kind_of_comparison comparisons.Equal = kinds.Equals
kind_of_comparison comparisons.Less = kinds.Less
kind_of_comparison comparisons.LessOrEqual = kinds.LessOrEqual
kind_of_comparison comparisons.Greater = kinds.Greater
kind_of_comparison comparisons.GreaterOrEqual = kinds.GreaterOrEqual

abbrev pub spell_tag_type : Bool → List Item → List Item
spell_tag_type false rest = rest
spell_tag_type true rest = Any (Of kinds.DoubleColon) ∷ Any (Word (codes "tag")) ∷ rest

abbrev pub equality : Bool → Kind
equality false = kinds.Equals
equality true = kinds.NotEqual

-- a condition inside `depth` open parentheses
abbrev pub spell_cond : ℤ → ℕ → Cond → List Item → List Item
spell_cond now depth (Compare l c i) rest = This Time l ∷ Any (Of (kind_of_comparison c)) ∷ spell_instant now i rest
spell_cond now depth (Match tag cast negated value) rest =
    This Tag tag ∷ spell_tag_type cast (Any (Of (equality negated)) ∷ This (Of kinds.StringLiteral) value ∷ rest)
spell_cond now depth (Group opener c) rest =
    This (Of kinds.LeftParen) opener
    ∷ Examine (depth_fault depth opener) ∷ spell_cond now (depth + 1) c (Any (Of kinds.RightParen) ∷ rest)
spell_cond now depth (And a b) rest = spell_cond now depth a (Any (Keyword (codes "and")) ∷ spell_cond now depth b rest)

abbrev pub spell_filter : ℤ → Option Cond → List Item → List Item
spell_filter now None rest = rest
spell_filter now (Some c) rest = Any (Keyword (codes "where")) ∷ spell_cond now 0 c rest

-- ---- GROUP BY and FILL

abbrev pub spell_number : Option Lexeme → Measure → Lexeme → List Item → List Item
spell_number None m l rest = This (Of (kind_of_measure m)) l ∷ rest
spell_number (Some minus) m l rest = This (Of kinds.Minus) minus ∷ This (Of (kind_of_measure m)) l ∷ rest

abbrev pub spell_signed : Measure → Signed → List Item → List Item
spell_signed m s rest =
    spell_number s.minus m s.number (Examine (literal_fault (signed_start s) (signed_value s)) ∷ rest)

abbrev pub spell_offset : Option Signed → List Item → List Item
spell_offset None rest = rest
spell_offset (Some offset) rest = Any (Of kinds.Comma) ∷ spell_signed Duration offset rest

abbrev pub spell_dimension : Meaning → Dimension → List Item → List Item
spell_dimension p (Every time interval offset) rest =
    This Time time ∷ Examine (again_fault p.buckets time) ∷ Any (Of kinds.LeftParen)
    ∷ This (Of kinds.Duration) interval
    ∷ Examine (interval_fault interval) ∷ spell_offset offset (Any (Of kinds.RightParen) ∷ rest)
spell_dimension p (ByTag tag cast) rest = This Tag tag ∷ spell_tag_type cast rest

abbrev pub spell_dimensions : Meaning → List Dimension → List Item → List Item
spell_dimensions p [] rest = rest
spell_dimensions p (d ∷ ds) rest =
    Any (Of kinds.Comma) ∷ spell_dimension p d (spell_dimensions (after_dimension p d) ds rest)

abbrev pub spell_group : Meaning → Option GroupBy → List Item → List Item
spell_group p None rest = rest
spell_group p (Some g) rest =
    Any (Keyword (codes "group"))
    ∷ Any (Keyword (codes "by")) ∷ spell_dimension p g.first (spell_dimensions (after_dimension p g.first) g.more rest)

abbrev pub spell_option : FillOption → List Item → List Item
spell_option NullOption rest = Any (Word (codes "null")) ∷ rest
spell_option NoneOption rest = Any (Word (codes "none")) ∷ rest
spell_option PreviousOption rest = Any (Word (codes "previous")) ∷ rest
spell_option (NumberOption s) rest = spell_signed Count s rest

abbrev pub spell_fill : Option FillOption → List Item → List Item
spell_fill None rest = rest
spell_fill (Some option) rest =
    Any (Word (codes "fill")) ∷ Any (Of kinds.LeftParen) ∷ spell_option option (Any (Of kinds.RightParen) ∷ rest)

-- ---- statements

-- the meaning of a statement up to FROM
abbrev pub parts_to_source : Statement → Meaning
parts_to_source s = after_from (after_calls (after_call no_meaning s.first) s.more) s.source

-- a statement after `before` others
abbrev pub spell_statement : ℤ → ℕ → Statement → List Item → List Item
spell_statement now before s rest =
    This (Keyword (codes "select")) s.select ∷ Examine (count_fault before s.select)
    ∷ spell_call None s.first (spell_calls (after_call no_meaning s.first) s.more (Any (Keyword (codes "from"))
    ∷ spell_from s.source (spell_filter now s.filter
    (spell_group (after_filter now (parts_to_source s) s.filter) s.group (spell_fill s.fill rest)))))

-- the end of a statement with this meaning, which is checked there as a whole
abbrev pub spell_ending : ℤ → ℕ → ℕ → Meaning → Ending → List Item
spell_ending now before start p Stop = Any (Of kinds.End) ∷ Examine (fault_in (statement_query start now p)) ∷ []
spell_ending now before start p RightParen =
    Any (Of kinds.Semicolon) ∷ Examine (fault_in (statement_query start now p)) ∷ Any (Of kinds.End) ∷ []
spell_ending now before start p (Next s rest) =
    Any (Of kinds.Semicolon) ∷ Examine (fault_in (statement_query start now p))
    ∷ spell_statement now before s (spell_ending now (before + 1) s.select.start (statement_meaning now s) rest)

abbrev pub spell : ℤ → Script → List Item
spell now script =
    spell_statement now 0 script.first
    (spell_ending now 1 script.first.select.start (statement_meaning now script.first) script.rest)
