-- Keywords, function names and unsupported words, in any case. (InfluxData 1.8, InfluxQL reference: keywords,
-- functions. Own rule: the unsupported ones.)
use Rattle.std.specs.Prelude.{Bool, true, false, ◌||◌, if◌then◌else◌, Option, Some, None, codes, bytes_eq}
use Rattle.ts_core.specs.facts.Facts.{Text}
use Rattle.ts_core.specs.declared.queries.value.Function.{Function}
use Rattle.ts_core.specs.declared.queries.value.Function.TheVariants as functions
use Rattle.ts_ql.specs.declared.token.Kind.{Kind}
use Rattle.ts_ql.specs.declared.token.Kind.TheVariants as kinds
use Rattle.ts_ql.specs.Literals.{is_word, text_spelled}
use Rattle.ts_ql.specs.Tokens.{Lexeme}

-- the name that a token spells
abbrev pub named : Lexeme → Text
named l = text_spelled l.text

-- supported keywords
unfoldable pub is_clause_word : Text → Bool
is_clause_word text =
    is_word (codes "select") text
    || is_word (codes "from") text || is_word (codes "where") text || is_word (codes "group") text
    || is_word (codes "by") text || is_word (codes "and") text || is_word (codes "as") text

-- unsupported keywords
unfoldable pub is_unsupported_keyword : Text → Bool
is_unsupported_keyword text =
    is_word (codes "or") text
    || is_word (codes "into") text || is_word (codes "order") text || is_word (codes "limit") text
    || is_word (codes "offset") text || is_word (codes "slimit") text || is_word (codes "soffset") text

-- keywords can't be unquoted names
abbrev pub is_keyword : Text → Bool
is_keyword text = is_clause_word text || is_unsupported_keyword text

-- other words of unsupported InfluxQL
unfoldable pub is_unsupported_word : Text → Bool
is_unsupported_word text =
    is_word (codes "show") text
    || is_word (codes "create") text || is_word (codes "alter") text || is_word (codes "drop") text
    || is_word (codes "delete") text
    || is_word (codes "explain") text || is_word (codes "grant") text || is_word (codes "revoke") text
    || is_word (codes "kill") text
    || is_word (codes "set") text || is_word (codes "tz") text || is_word (codes "linear") text

unfoldable pub function_called : Text → Option Function
function_called text =
    if is_word (codes "count") text then Some functions.Count
    else if is_word (codes "sum") text then Some functions.Sum
    else if is_word (codes "min") text then Some functions.Min
    else if is_word (codes "max") text then Some functions.Max
    else if is_word (codes "first") text then Some functions.First
    else if is_word (codes "last") text then Some functions.Last
    else if is_word (codes "mean") text then Some functions.Mean else None

-- the time column, quoted or not
unfoldable pub is_time_column : Kind → Text → Bool
is_time_column kinds.Word text = is_word (codes "time") text
is_time_column kinds.QuotedName text = bytes_eq text (codes "time")
is_time_column kind text = false

-- unsupported: such a word or operator
unfoldable pub is_unsupported : Kind → Text → Bool
is_unsupported kinds.Word text = is_unsupported_word text
is_unsupported kinds.Keyword text = is_unsupported_keyword text
is_unsupported kinds.Unsupported text = true
is_unsupported kinds.Less text = true
is_unsupported kinds.LessOrEqual text = true
is_unsupported kinds.Greater text = true
is_unsupported kinds.GreaterOrEqual text = true
is_unsupported kinds.Plus text = true
is_unsupported kinds.Minus text = true
is_unsupported kind text = false
