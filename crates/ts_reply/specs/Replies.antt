-- The JSON of a reply, without spaces, its keys in byte order.
-- (InfluxData 1.8, API reference: /query, query results; GROUP BY tags. Own rules: integers outside signed 64 bits are
-- strings of their digits, and a mean is the string of a fraction. Keys are in byte order.)
use Rattle.std.specs.Prelude.{◌≡◌, ℕ, ◌+◌, ℤ, pos, negsuc, Bool, true, false, ◌&&◌, int_le, List, [], ◌∷◌, ◌++◌, map, codes, if◌then◌else◌, ⊤}
use Rattle.std.specs.Fmt.{decimal, signed_decimal}
use Rattle.std.specs.Int.{int_div_euclid}
use Rattle.serde_json.specs.Data.{Data, null, number, string, array, object, Items, no_items, item, Members, no_members, member, put, unsigned}
use Rattle.serde_json.specs.Find.{of_integer}
use Rattle.serde_json.specs.View.{items_of}
use Rattle.serde_json.specs.Written.{compact_text}
use Rattle.ts_core.specs.facts.Facts.{Text}
use Rattle.ts_core.specs.queries.Fills.{FilledRow, FilledGroup}
use Rattle.ts_core.specs.facts.Times.{least_time, greatest_time}
use Rattle.ts_core.specs.facts.TimeUnits.{nanoseconds_of}
use Rattle.ts_core.specs.declared.aggregates.means.Frac.{Frac}
use Rattle.ts_core.specs.declared.queries.value.Value.{Value}
use Rattle.ts_core.specs.declared.queries.value.Value.TheVariants.{Null, Number, Fraction}
use Rattle.ts_ql.specs.Selects.{Projection, Select}
use Rattle.ts_reply.specs.declared.epoch.Epoch.{Epoch}
use Rattle.ts_reply.specs.declared.epoch.Epoch.TheVariants.{Text as AsText, Units}
use Rattle.ts_reply.specs.Outcomes.{Outcome, Rows, Certificate, Fault}
use Rattle.ts_reply.specs.TimeTexts.{IsTimeText}

-- ---- values

-- a number if it fits in signed 64 bits, else the string of its digits
abbrev pub integer_data : ℤ → Data
integer_data z =
    if int_le (negsuc 9223372036854775807) z && int_le z (pos 9223372036854775807)
    then number (of_integer z) else string (signed_decimal z)

-- n/d
abbrev pub ratio_text : Frac → Text
ratio_text f = signed_decimal f.numerator ++ codes "/" ++ decimal f.denominator

abbrev pub value_data : Value → Data
value_data Null = null
value_data (Number z) = integer_data z
value_data (Fraction f) = string (ratio_text f)

-- ---- times

abbrev pub is_valid_time : ℤ → Bool
is_valid_time t = int_le least_time t && int_le t greatest_time

-- the text of a valid time, or else its nanoseconds; the first bucket of a query built without a text may start before
-- the least time
abbrev pub IsTextOrCount : Bool → ℤ → Data → Type 0
IsTextOrCount true t d = (text : Text) × IsTimeText t text × (d ≡ string text)
IsTextOrCount false t d = d ≡ integer_data t

-- a time as text, or as the number of whole units, rounded down
abbrev pub IsTimeData : Epoch → ℤ → Data → Type 0
IsTimeData AsText t d = IsTextOrCount (is_valid_time t) t d
IsTimeData (Units unit) t d = d ≡ integer_data (int_div_euclid t (nanoseconds_of unit))

-- ---- series

-- the items are those of the elements, one by one
abbrev pub AreEach : {X : Type 0} → (X → Data → Type 0) → List X → Items → Type 0
AreEach P [] no_items = ⊤
AreEach P [] (item d ds) = ⊥
AreEach P (x ∷ xs) no_items = ⊥
AreEach P (x ∷ xs) (item d ds) = P x d × AreEach P xs ds

-- the time, and one value per column
abbrev pub IsRowData : Epoch → FilledRow → Data → Type 0
IsRowData epoch row d =
    (time : Data) × IsTimeData epoch row.start time × (d ≡ array (item time (items_of (map value_data row.values))))

abbrev pub column_data : Projection → Data
column_data c = string c.name

abbrev pub columns_data : Select → Data
columns_data s = array (item (string (codes "time")) (items_of (map column_data s.columns)))

-- the tags of a group, in byte order of their keys
abbrev pub tags_among : Members → List Text → List Text → Members
tags_among before [] values = before
tags_among before (tag ∷ tags) [] = before
tags_among before (tag ∷ tags) (value ∷ values) = tags_among (put tag (string value) before) tags values

-- a series with tags
abbrev pub tagged_series : Data → Text → Members → Items → Data
tagged_series columns name tags rows =
    object (member (codes "columns") columns (member (codes "name") (string name)
    (member (codes "tags") (object tags) (member (codes "values") (array rows) no_members))))

-- a series without tags
abbrev pub untagged_series : Data → Text → Items → Data
untagged_series columns name rows = object (member
    (codes "columns") columns (member (codes "name") (string name) (member (codes "values") (array rows) no_members)))

-- a series has tags if the query groups by tags
abbrev pub series_by : List Text → Data → Text → List Text → Items → Data
series_by [] columns name values rows = untagged_series columns name rows
series_by (tag ∷ tags) columns name values rows =
    tagged_series columns name (tags_among no_members (tag ∷ tags) values) rows

abbrev pub series_data : Select → List Text → Items → Data
series_data s values rows = series_by s.query.group_tags (columns_data s) s.query.measurement values rows

abbrev pub IsSeriesData : Epoch → Select → FilledGroup → Data → Type 0
IsSeriesData epoch s group d =
    (rows : Items) × AreEach (IsRowData epoch) group.rows rows × (d ≡ series_data s group.values rows)

-- ---- replies

-- index of a statement, from 0
abbrev pub statement_id : ℕ → Members
statement_id n = member (codes "statement_id") (number (unsigned n)) no_members

abbrev pub result_of : Text → Data → ℕ → Data
result_of key d n = object (member key d (statement_id n))

-- result of a statement
abbrev pub IsResultData : Epoch → ℕ → Outcome → Data → Type 0
IsResultData epoch n (Rows s []) d = d ≡ object (statement_id n)
IsResultData epoch n (Rows s (group ∷ groups)) d =
    (series : Items)
    × AreEach (IsSeriesData epoch s) (group ∷ groups) series × (d ≡ result_of (codes "series") (array series) n)
IsResultData epoch n (Certificate text) d = d ≡ result_of (codes "cert") (string text) n
IsResultData epoch n (Fault text) d = d ≡ result_of (codes "error") (string text) n

-- results of statements, whose indices begin at n
abbrev pub AreResults : Epoch → ℕ → List Outcome → Items → Type 0
AreResults epoch n [] no_items = ⊤
AreResults epoch n [] (item d ds) = ⊥
AreResults epoch n (o ∷ os) no_items = ⊥
AreResults epoch n (o ∷ os) (item d ds) = IsResultData epoch n o d × AreResults epoch (n + 1) os ds

abbrev pub results_data : Items → Data
results_data results = object (member (codes "results") (array results) no_members)

-- the text is the reply to statements with these outcomes
abbrev pub TellsOutcomes : Epoch → List Outcome → Text → Type 0
TellsOutcomes epoch outcomes text =
    (results : Items) × AreResults epoch 0 outcomes results × (text ≡ compact_text (results_data results))

-- an error that refuses the whole request
abbrev pub refusal_data : Text → Data
refusal_data fault = object (member (codes "error") (string fault) no_members)

abbrev pub refusal_reply_text : Text → Text
refusal_reply_text fault = compact_text (refusal_data fault)
