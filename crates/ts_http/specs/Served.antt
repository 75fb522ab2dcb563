-- A request served: the bytes read, the store afterwards, and the bytes written. (Own rules.)
use Rattle.std.specs.Prelude.{◌≡◌, ℕ, ℤ, Bool, ◌+◌, ◌≤◌, [], Option, Result, Ok, Err, IfOk}
use Rattle.std.specs.Io.KnownBytes.{Consumes, Appends}
use Rattle.ts_core.specs.facts.Facts.{Text}
use Rattle.ts_core.specs.io.Devices.{Input, Output, AppendsFront}
use Rattle.ts_core.specs.store.StoreData.{StoreData}
use Rattle.ts_core.specs.text.FaultTexts.{fault_text}
use Rattle.ts_core.specs.declared.text.fault_code.FaultCode.{FaultCode}
use Rattle.ts_core.specs.declared.text.fault_code.FaultCode.TheVariants as code
use Rattle.ts_core.specs.declared.text.fault_text.FaultDetail.TheVariants.{Alone}
use Rattle.ts_http.specs.Acts.{Replied, Acts, LeavesStore}
use Rattle.ts_store.specs.store.WholeStates.{WholeState, IsWholeStateOf}
use Rattle.ts_http.specs.HttpReplies.{refusal_status, refusal_reply, reply_text}
use Rattle.ts_http.specs.HeadsRead.{request_of}
use Rattle.ts_http.specs.Requested.{NoRequest, Refuses, Wants, Asks}
use Rattle.ts_http.specs.declared.refusal.Refusal.{Refusal}
use Rattle.ts_http.specs.declared.route.Method.{Method}
use Rattle.ts_http.specs.declared.route.Route.{Route}
use Rattle.ts_http.specs.declared.serve.IoFault.{IoFault}
use Rattle.ts_http.specs.declared.serve.IoFault.TheVariants.{Reader, Writer}
use Rattle.ts_http.specs.declared.serve.Served.{Served}
use Rattle.ts_http.specs.declared.serve.Served.TheVariants as served
use Rattle.ts_http.specs.declared.status.Status.{Status}

-- the most reads of a request: one per byte of the longest head and body, and one for the end
abbrev pub request_reads : ℕ
request_reads = 1056769

-- From `old`, at a moment, a request of these bytes may be served so, be answered with these, and leave that.
pub data Serves (now : ℤ) (old : WholeState) (bytes : Text) : Served → Text → WholeState → Type 0 where
  nothing : Asks bytes NoRequest → Serves now old bytes served.Nothing [] old
  refuses : (r : Refusal) (route : Route) (to_head : Bool) → Asks bytes (Refuses r route to_head)
      → Serves now old bytes (served.Reply (refusal_status r) route) (refusal_reply to_head r) old
  acts : (route : Route) (method : Method) (query body : Text) (reply : Replied) (new : WholeState)
      → Asks bytes (Wants route method query body)
      → Acts now old query body route method reply new → Serves now old bytes (served.Reply reply.0 route) reply.1 new

-- Whatever a store stands for, also where no history leads to it: a request of these bytes may be served so and be
-- answered with these; and the store stays as it is, unless the request may have changed it. `Quiet` holds once a
-- request came whole.
pub data Answers (bytes : Text) (Quiet : Type 0) (old new : StoreData) : Served → Text → Type 0 where
  nothing : Asks bytes NoRequest → new ≡ old → Answers bytes Quiet old new served.Nothing []
  refuses : (r : Refusal) (route : Route) (to_head : Bool) → Asks bytes (Refuses r route to_head)
      → new ≡ old → Answers bytes Quiet old new (served.Reply (refusal_status r) route) (refusal_reply to_head r)
  acts : (route : Route) (method : Method) (query body : Text) (status : Status) (allow : Text) (content : Option Text)
      → Asks bytes (Wants route method query body) → Quiet → (LeavesStore route query body status → new ≡ old)
      → Answers bytes Quiet old new (served.Reply status route) (reply_text status allow content)

-- The request was served so, in each state that the store was in, and its whole reply or a prefix of it was sent.
pub record ServedAs (now : ℤ) (bytes : Text)
    (Quiet : Type 0) (old : StoreData) (served : Served) (new : StoreData) (Sent : Text → Type 0) : Type 0 where
  pub reply : Text
  pub sent : Sent reply
  pub answers : Answers bytes Quiet old new served reply
  pub states : (s : WholeState)
      → IsWholeStateOf s old → (s' : WholeState) × Serves now s bytes served reply s' × IsWholeStateOf s' new

-- the code of each in the table of all faults
abbrev pub io_fault_code : IoFault → FaultCode
io_fault_code Reader = code.ConnectionReaderFailed
io_fault_code Writer = code.ConnectionWriterFailed

abbrev pub io_fault_text : IoFault → Text
io_fault_text fault = fault_text (io_fault_code fault) Alone

-- the failures that a call adds to its reader's, and to its writer's
abbrev pub one_if_request_reader : {T : Type 0} → Result T IoFault → ℕ
one_if_request_reader (Ok x) = 0
one_if_request_reader (Err Reader) = 1
one_if_request_reader (Err Writer) = 0

abbrev pub one_if_reply_writer : {T : Type 0} → Result T IoFault → ℕ
one_if_reply_writer (Ok x) = 0
one_if_reply_writer (Err Reader) = 0
one_if_reply_writer (Err Writer) = 1

-- One request served. If a reader's bytes are unknown, the request's are those that were read. Nothing is read after a
-- whole request: no read meets the end then.
pub record IsServed (now : ℤ) (old : StoreData) (source : Input)
    (sink : Output) (result : Result Served IoFault) (new : StoreData) (source' : Input) (sink' : Output) : Type 0 where
  pub answered : IfOk result (λ served. (came : Text) × Consumes source.remaining source'.remaining came
      × ServedAs now (request_of came source') (source'.ends ≡ source.ends) old served new
      (Appends sink.contents sink'.contents))
  -- the request was executed, and a prefix of the reply was sent
  pub begun : result ≡ Err Writer
      → (came : Text) × Consumes source.remaining source'.remaining came
      × ((served : Served) × ServedAs now (request_of came source') (source'.ends ≡ source.ends) old served new
      (AppendsFront sink.contents sink'.contents))
  -- nothing was executed, and nothing was written
  pub unread : result ≡ Err Reader → (new ≡ old) × (sink' ≡ sink)
  pub reader : source'.failures ≡ source.failures + one_if_request_reader result
  pub writer : sink'.failures ≡ sink.failures + one_if_reply_writer result
  pub reads : source'.reads ≤ source.reads + request_reads
