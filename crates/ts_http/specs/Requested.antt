-- A request, by its bytes: its head, and then its body. (RFC 9112, sections 2 to 6. Own rules: the body is read whole
-- before anything is executed; bytes after it mean nothing.)
use Rattle.std.specs.Prelude.{◌≡◌, ◌<◌, Bool, true, false, ◌++◌, length, Some, None}
use Rattle.httparse.specs.Grammar.{RequestHead}
use Rattle.ts_core.specs.facts.Facts.{Text}
use Rattle.ts_http.specs.Heads.{Nothing, Fault, IsWholeHead, ReadsHead}
use Rattle.ts_http.specs.Requests.{path_of, target_query, route_of, method_of, fields_of, refused, body_length}
use Rattle.ts_http.specs.declared.head.HeadFault.{HeadFault}
use Rattle.ts_http.specs.declared.refusal.Refusal.{Refusal}
use Rattle.ts_http.specs.declared.refusal.Refusal.TheVariants.{Head, BodyEndsEarly, OutOfMemory}
use Rattle.ts_http.specs.declared.route.Route.{Route}
use Rattle.ts_http.specs.declared.route.Route.TheVariants as to
use Rattle.ts_http.specs.declared.route.Method.{Method}
use Rattle.ts_http.specs.declared.route.Method.TheVariants as by

-- The kinds of requests.
pub data Request : Type 0 where
  NoRequest : Request
  -- The request is refused before anything is executed. The boolean is true if its head was read whole, and was a HEAD.
  Refuses : Refusal → Route → Bool → Request
  -- a path and its method, the parameters of the target, and a body
  Wants : Route → Method → Text → Text → Request

abbrev pub is_head : Method → Bool
is_head by.Head = true
is_head method = false

abbrev pub route_in : RequestHead → Route
route_in head = route_of (path_of head.target)

abbrev pub method_in : RequestHead → Method
method_in head = method_of head.method

abbrev pub refused_in : RequestHead → Refusal → Type 0
refused_in head r = refused (route_in head) (method_in head) (fields_of head) ≡ Some r

abbrev pub is_taken : RequestHead → Type 0
is_taken head = refused (route_in head) (method_in head) (fields_of head) ≡ None

-- The requests that these bytes may be.
pub data Asks (bytes : Text) : Request → Type 0 where
  nothing : ReadsHead bytes Nothing → Asks bytes NoRequest
  no_head : (fault : HeadFault) → ReadsHead bytes (Fault fault) → Asks bytes (Refuses (Head fault) to.Other false)
  refuses : (head : RequestHead) (rest : Text) (r : Refusal) → IsWholeHead bytes head rest
      → refused_in head r → Asks bytes (Refuses r (route_in head) (is_head (method_in head)))
  cut : (head : RequestHead) (rest : Text) → IsWholeHead bytes head rest → is_taken head
      → length rest < body_length (method_in head) (fields_of head)
      → Asks bytes (Refuses BodyEndsEarly (route_in head) false)
  -- out of memory for a body that isn't empty
  wants_memory : (head : RequestHead) (rest : Text) → IsWholeHead bytes head rest → is_taken head
      → 0 < body_length (method_in head) (fields_of head) → Asks bytes (Refuses OutOfMemory (route_in head) false)
  wants : (head : RequestHead) (rest body others : Text) → IsWholeHead bytes head rest
      → is_taken head → rest ≡ body ++ others → length body ≡ body_length (method_in head) (fields_of head)
      → Asks bytes (Wants (route_in head) (method_in head) (target_query head.target) body)
