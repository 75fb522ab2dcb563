-- The parts of a request's head, and the reasons to refuse it before its body is read. (InfluxData 1.8, API reference:
-- /ping, /query, /write. RFC 9110: methods, Content-Length, Content-Encoding; names of fields ignore case. Own rules:
-- /maintain, /rules, no chunked bodies, at most 1,048,576 bytes, and the order of refusals.)
use Rattle.std.specs.Prelude.{ℕ, nat_le, Bool, true, false, not, ◌&&◌, ◌||◌, ◌==◌, List, [], ◌∷◌, length, map, codes, if◌then◌else◌, Option, None}
use Rattle.std.specs.List.{list_any, before_first, after_first}
use Rattle.std.specs.Char.{to_ascii_lowercase}
use Rattle.std.specs.Str.Parse.{digits_value}
use Rattle.httparse.specs.Grammar.{RequestHead}
use Rattle.httparse.specs.Spans.{name_and_value}
use Rattle.ts_core.specs.facts.Facts.{Text, same_text}
use Rattle.ts_core.specs.text.Numbers.{are_digits}
use Rattle.ts_core.specs.settings.SettingsFaults.{unless}
use Rattle.ts_http.specs.declared.route.Route.{Route}
use Rattle.ts_http.specs.declared.route.Route.TheVariants as to
use Rattle.ts_http.specs.declared.route.Method.{Method}
use Rattle.ts_http.specs.declared.route.Method.TheVariants as by
use Rattle.ts_http.specs.declared.refusal.Refusal.{Refusal}
use Rattle.ts_http.specs.declared.refusal.Refusal.TheVariants.{NotFound, MethodNotAllowed, LengthRequired, BadLength, BodyTooLarge, EncodingNotSupported}

-- ---- the target: a path, and parameters after a question mark

abbrev pub is_question : ℕ → Bool
is_question b = b == 63

abbrev pub path_of : Text → Text
path_of = before_first is_question

abbrev pub target_query : Text → Text
target_query = after_first is_question

unfoldable pub route_of : Text → Route
route_of path =
    if same_text path (codes "/write") then to.Write
    else if same_text path (codes "/query") then to.Query
    else if same_text path (codes "/maintain") then to.Maintain
    else if same_text path (codes "/rules") then to.Rules
    else if same_text path (codes "/ping") then to.Ping
    else to.Other

unfoldable pub method_of : Text → Method
method_of name =
    if same_text name (codes "GET") then by.Get
    else if same_text name (codes "HEAD") then by.Head
    else if same_text name (codes "POST") then by.Post
    else if same_text name (codes "DELETE") then by.Delete
    else by.Other

-- the methods of each path
abbrev pub is_allowed : Route → Method → Bool
is_allowed to.Write by.Post = true
is_allowed to.Query by.Get = true
is_allowed to.Query by.Post = true
is_allowed to.Maintain by.Post = true
is_allowed to.Rules by.Delete = true
is_allowed to.Rules by.Post = true
is_allowed to.Ping by.Get = true
is_allowed to.Ping by.Head = true
is_allowed route method = false

-- the methods as `Allow` writes them
abbrev pub allowed_methods : Route → Text
allowed_methods to.Write = codes "POST"
allowed_methods to.Query = codes "GET, POST"
allowed_methods to.Maintain = codes "POST"
allowed_methods to.Rules = codes "DELETE, POST"
allowed_methods to.Ping = codes "GET, HEAD"
allowed_methods to.Other = []

abbrev pub is_post : Method → Bool
is_post by.Post = true
is_post method = false

abbrev pub is_known : Route → Bool
is_known to.Other = false
is_known route = true

abbrev pub is_write : Route → Bool
is_write to.Write = true
is_write route = false

-- ---- fields: names and values

abbrev pub Fields : Type 0
Fields = List (Text × Text)

abbrev pub same_ignoring_case : Text → Text → Bool
same_ignoring_case a b = same_text (map to_ascii_lowercase a) (map to_ascii_lowercase b)

abbrev pub is_field_named : Text → Text × Text → Bool
is_field_named name field = same_ignoring_case field.0 name

abbrev pub has_field : Text → Fields → Bool
has_field name fields = list_any (is_field_named name) fields

-- the values of the fields with a name
abbrev pub parameter_values : Text → Fields → List Text
parameter_values name [] = []
parameter_values name (field ∷ fields) =
    if is_field_named name field then field.1 ∷ parameter_values name fields else parameter_values name fields

-- ---- the length of the body

abbrev pub body_limit : ℕ
body_limit = 1048576

-- 1 to 18 digits
abbrev pub is_short_number : Text → Bool
is_short_number value = are_digits value && nat_le (length value) 18

-- there is at most one length, and it has this form
abbrev pub is_good_length : List Text → Bool
is_good_length [] = true
is_good_length (value ∷ []) = is_short_number value
is_good_length (value ∷ other ∷ others) = false

-- without a length the body is empty
abbrev pub length_given : List Text → ℕ
length_given [] = 0
length_given (value ∷ others) = digits_value 10 value

abbrev pub lengths_of : Fields → List Text
lengths_of fields = parameter_values (codes "content-length") fields

abbrev pub is_given : List Text → Bool
is_given [] = false
is_given (value ∷ values) = true

-- a Content-Encoding other than identity
abbrev pub is_coded : Text × Text → Bool
is_coded field = is_field_named (codes "content-encoding") field && not (same_ignoring_case field.1 (codes "identity"))

-- the reason why the body of a POST isn't read
abbrev pub body_refused : Route → Fields → Option Refusal
body_refused route fields =
    unless (not (has_field (codes "transfer-encoding") fields)
    && (not (is_write route) || is_given (lengths_of fields))) LengthRequired
    (unless (is_good_length (lengths_of fields)) BadLength
    (unless (nat_le (length_given (lengths_of fields)) body_limit) BodyTooLarge
    (unless (not (list_any is_coded fields)) EncodingNotSupported None)))

-- ---- a head

abbrev pub fields_of : RequestHead → Fields
fields_of head = map name_and_value head.fields

-- the first reason, in this order, why a head is refused
abbrev pub refused : Route → Method → Fields → Option Refusal
refused route method fields =
    unless (is_known route) NotFound
    (unless (is_allowed route method) (MethodNotAllowed route)
    (if is_post method then body_refused route fields else None))

-- the length of the body
abbrev pub body_length : Method → Fields → ℕ
body_length method fields = if is_post method then length_given (lengths_of fields) else 0
