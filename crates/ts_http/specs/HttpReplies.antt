-- The bytes of a reply. (RFC 9112, section 4; InfluxData 1.8, API reference: status codes and responses. Own rules: the
-- fields of a reply, and closing the connection after it.)
use Rattle.std.specs.Prelude.{ℕ, Bool, [], ◌∷◌, ◌++◌, length, codes, if◌then◌else◌, Option, Some, None, option_map, unwrap_or, decimal}
use Rattle.http.specs.StatusCode.{code_digits, reason_phrase}
use Rattle.ts_core.specs.facts.Facts.{Text}
use Rattle.ts_http.specs.Requests.{allowed_methods}
use Rattle.ts_http.specs.declared.head.HeadFault.TheVariants.{EndsEarly, TooLarge, Malformed}
use Rattle.ts_http.specs.declared.refusal.Refusal.{Refusal}
use Rattle.ts_http.specs.declared.refusal.Refusal.TheVariants.{Head, NotFound, MethodNotAllowed, LengthRequired, BadLength, BodyTooLarge, EncodingNotSupported, BodyEndsEarly, BodyNotText, BadPrecision, BadEpoch, BadExplain, BadSteps, MissingQuery, MissingName, OutOfMemory}
use Rattle.ts_http.specs.declared.status.Status.{Status}
use Rattle.ts_http.specs.declared.status.Status.TheVariants as status

abbrev pub status_code : Status → ℕ
status_code status.Success = 200
status_code status.NoContent = 204
status_code status.BadRequest = 400
status_code status.NotFound = 404
status_code status.MethodNotAllowed = 405
status_code status.LengthRequired = 411
status_code status.PayloadTooLarge = 413
status_code status.UnsupportedMediaType = 415
status_code status.FieldsTooLarge = 431
status_code status.ServerError = 500

-- a code and its phrase
abbrev pub status_text : Status → Text
status_text s = code_digits (status_code s) ++ (32 ∷ unwrap_or (reason_phrase (status_code s)) [])

-- CR LF, the end of a line
abbrev pub line_end : Text
line_end = 13 ∷ 10 ∷ []

-- the field Allow, unless there are no methods
abbrev pub allow_text : Text → Text
allow_text [] = []
allow_text (b ∷ bs) = codes "Allow: " ++ ((b ∷ bs) ++ line_end)

-- type and length of the body, if there is one
abbrev pub length_text : Option ℕ → Text
length_text None = []
length_text (Some n) =
    codes "Content-Type: application/json" ++ (line_end ++ (codes "Content-Length: " ++ (decimal n ++ line_end)))

abbrev pub reply_head : Status → Text → Option ℕ → Text
reply_head s allow n = codes "HTTP/1.1 " ++ (status_text s ++ (line_end
    ++ (allow_text allow ++ (length_text n ++ (codes "Connection: close" ++ (line_end ++ line_end))))))

abbrev pub reply_text : Status → Text → Option Text → Text
reply_text s allow body = reply_head s allow (option_map length body) ++ unwrap_or body []

-- JSON with an error; the text has no quotes, backslashes or control characters
abbrev pub error_json : Text → Text
error_json text = codes "{\"error\":\"" ++ (text ++ codes "\"}")

-- ---- refusals

abbrev pub refusal_status : Refusal → Status
refusal_status (Head EndsEarly) = status.BadRequest
refusal_status (Head TooLarge) = status.FieldsTooLarge
refusal_status (Head Malformed) = status.BadRequest
refusal_status NotFound = status.NotFound
refusal_status (MethodNotAllowed route) = status.MethodNotAllowed
refusal_status LengthRequired = status.LengthRequired
refusal_status BadLength = status.BadRequest
refusal_status BodyTooLarge = status.PayloadTooLarge
refusal_status EncodingNotSupported = status.UnsupportedMediaType
refusal_status BodyEndsEarly = status.BadRequest
refusal_status BodyNotText = status.BadRequest
refusal_status BadPrecision = status.BadRequest
refusal_status BadEpoch = status.BadRequest
refusal_status BadExplain = status.BadRequest
refusal_status BadSteps = status.BadRequest
refusal_status MissingQuery = status.BadRequest
refusal_status MissingName = status.BadRequest
refusal_status OutOfMemory = status.ServerError

abbrev pub refusal_message : Refusal → Text
refusal_message (Head EndsEarly) = codes "head ended early"
refusal_message (Head TooLarge) = codes "head too large"
refusal_message (Head Malformed) = codes "bad head"
refusal_message NotFound = codes "not found"
refusal_message (MethodNotAllowed route) = codes "method not allowed"
refusal_message LengthRequired = codes "length required"
refusal_message BadLength = codes "bad length"
refusal_message BodyTooLarge = codes "body too large"
refusal_message EncodingNotSupported = codes "encoding not supported"
refusal_message BodyEndsEarly = codes "body ended early"
refusal_message BodyNotText = codes "body is not UTF-8"
refusal_message BadPrecision = codes "bad precision"
refusal_message BadEpoch = codes "bad epoch"
refusal_message BadExplain = codes "bad explain"
refusal_message BadSteps = codes "bad steps"
refusal_message MissingQuery = codes "missing q"
refusal_message MissingName = codes "missing name"
refusal_message OutOfMemory = codes "out of memory"

abbrev pub refusal_allow : Refusal → Text
refusal_allow (MethodNotAllowed route) = allowed_methods route
refusal_allow refusal = []

-- the body of a reply, which a HEAD doesn't get
abbrev pub unless_head : Bool → Text → Option Text
unless_head to_head body = if to_head then None else Some body

-- the reply to a refused request
abbrev pub refusal_reply : Bool → Refusal → Text
refusal_reply to_head r =
    reply_text (refusal_status r) (refusal_allow r) (unless_head to_head (error_json (refusal_message r)))
