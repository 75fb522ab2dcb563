-- The steps of serving a request, in sequence.
use Rattle.std.proofs.Common.{◌≡◌, ◌≢◌, ◌⊎◌, ⊎_elim, ℕ, ℤ, ◌+◌, ◌≤◌, List, [], ◌∷◌, ◌++◌, length, take, drop, map, string_bytes, Bool, false, Option, Some, None, Result, Ok, Err, refl, sym, ap, ◌∙◌, subst, arith}
use Rattle.std.specs.List.{AllByRecursion}
use Rattle.std.specs.Io.KnownBytes.{Consumes}
use Rattle.std.proofs.KnownBytes.{Appends-nil}
use Rattle.std.proofs.lemmas.List.Elements.{recursion_from_All}
use Rattle.httparse.specs.Grammar.{RequestHead}
use Rattle.httparse.specs.Spans.{IsHeaderWithin, IsRequestWithin, IsRequestAt, header_bytes, span_bytes}
use Rattle.httparse.specs.declared.spans.HeaderSpan.{HeaderSpan}
use Rattle.httparse.specs.declared.spans.RequestSpans.{RequestSpans}
use Rattle.ts_core.specs.facts.Facts.{Text}
use Rattle.ts_core.specs.io.Devices.{Input}
use Rattle.ts_core.specs.store.StoreData.{StoreData}
use Rattle.httparse.proofs.GrammarLemmas.{ReadsRequest-append}
use Rattle.ts_core.specs.io.Devices.{Output}
use Rattle.ts_http.specs.Acts.{Acts}
use Rattle.ts_http.specs.HttpReplies.{reply_text, refusal_allow, refusal_message, unless_head, error_json}
use Rattle.ts_http.specs.Heads.{IsWholeHead, ReadsHead, Nothing}
use Rattle.ts_http.specs.HeadsRead.{request_of}
use Rattle.ts_http.specs.Requests.{path_of, target_query, route_of, method_of, fields_of, refused, body_length}
use Rattle.ts_http.specs.Requested.{Refuses, Wants, Asks, is_head, route_in, method_in, refused_in, is_taken}
use Rattle.ts_http.specs.Served.{Serves, Answers, IsServed, request_reads}
use Rattle.ts_http.specs.ServeSteps.{ActedOn, IsSent}
use Rattle.ts_http.specs.declared.refusal.Refusal.{Refusal}
use Rattle.ts_http.specs.declared.refusal.Refusal.TheVariants as refusals
use Rattle.ts_http.specs.declared.route.Method.{Method}
use Rattle.ts_http.specs.declared.route.Method.TheVariants as by
use Rattle.ts_http.specs.declared.serve.IoFault.{IoFault}
use Rattle.ts_http.specs.declared.serve.IoFault.TheVariants.{Reader, Writer}
use Rattle.ts_http.specs.declared.serve.Served.{Served}
use Rattle.ts_http.specs.declared.serve.Served.TheVariants as served
use Rattle.ts_store.specs.store.WholeStates.{WholeState, IsWholeStateOf}
use Rattle.ts_http.specs.OutcomeReplies.{WritesAs, QueriesAs, MaintainsAs, AddsAs, DropsAs, ActsAs, reply_of}
use Rattle.ts_http.specs.declared.outcome.RequestOutcome.{RequestOutcome}
use Rattle.ts_http.specs.declared.outcome.RequestOutcome.TheVariants as outcomes
use Rattle.ts_http.specs.declared.route.Route.{Route}
use Rattle.ts_http.specs.declared.route.Route.TheVariants as to
use Rattle.ts_http.specs.declared.status.Status.{Status}
use Rattle.ts_http.specs.declared.status.Status.TheVariants as status

-- ---- the effect of a request, by its path

-- a request that isn't done leaves the store
not_done : (s : Status) (old new : StoreData) → (s ≡ status.Success) ⊎ (new ≡ old) → s ≢ status.Success → new ≡ old
not_done s old new why other = ⊎_elim {C = new ≡ old} (λ is. absurd (other is)) (λ same. same) why

module _ (now : ℤ) (method : Method) (query body : Text) (old new : StoreData) (o : RequestOutcome) where
  pub acted_write : WritesAs now query body old o new → ActsAs now to.Write method query body old o new
  acted_write w = (λ s i. let d = w.0 s i in (d.0, Acts.writes method (reply_of false o) d.0 d.1, d.2), w.1)

  pub acted_maintain : MaintainsAs now query old o new → ActsAs now to.Maintain method query body old o new
  acted_maintain m = (λ s i. let d = m.0 s i in (d.0, Acts.maintains method (reply_of false o) d.0 d.1, d.2), not_done (reply_of false o).0 old new m.1)

  pub acted_add : method ≡ by.Post → AddsAs body old o new → ActsAs now to.Rules method query body old o new
  acted_add is a = (
    λ s i.
        let d = a.0 s i in
        (d.0, subst (λ (m : Method). Acts now s query body to.Rules m (reply_of false o) d.0) (sym is) (Acts.adds (reply_of false o) d.0 d.1), d.2),
    not_done (reply_of false o).0 old new a.1,
  )

  pub acted_drop : method ≡ by.Delete → DropsAs query old o new → ActsAs now to.Rules method query body old o new
  acted_drop is a = (
    λ s i.
        let d = a.0 s i in
        (d.0, subst (λ (m : Method). Acts now s query body to.Rules m (reply_of false o) d.0) (sym is) (Acts.drops (reply_of false o) d.0 d.1), d.2),
    not_done (reply_of false o).0 old new a.1,
  )

pub acted_query : (now : ℤ) (method : Method) (query body : Text) (k : StoreData) (o : RequestOutcome) → QueriesAs now query body k o → ActsAs now to.Query method query body k o k
acted_query now method query body k o q = (λ s i. (s, Acts.queries method (reply_of false o) (q s i), i), λ e. refl)

pub acted_ping : (now : ℤ) (method : Method) (query body : Text) (k : StoreData) → ActsAs now to.Ping method query body k outcomes.Done k
acted_ping now method query body k = (λ s i. (s, Acts.pings method, i), λ e. refl)

-- ---- spans within the bytes that came

header_within : (n m : ℕ) (h : HeaderSpan) → n ≤ m → IsHeaderWithin n h → IsHeaderWithin m h
header_within n m h le w = ((w.0.0, omega (arith, w.0.1, le)), (w.1.0, omega (arith, w.1.1, le)))

spans_by_parts : (n m : ℕ) (hs : List HeaderSpan) → n ≤ m → AllByRecursion (IsHeaderWithin n) hs → AllByRecursion (IsHeaderWithin m) hs
spans_by_parts n m [] le all = tt
spans_by_parts n m (h ∷ hs) le all = (header_within n m h le all.0, spans_by_parts n m hs le all.1)

pub spans_within : (came : Text) (spans : List HeaderSpan) (found : RequestSpans) → IsRequestWithin came spans found → AllByRecursion (IsHeaderWithin (length came)) (take found.headers spans)
spans_within came spans found w = spans_by_parts found.len (length came) (take found.headers spans) w.section.len_fits (recursion_from_All (IsHeaderWithin found.len) (take found.headers spans) w.section.headers_fit)

-- ---- the parts of a head

-- the reply of an outcome, and the effect on the store
pub record Told (now : ℤ) (bytes : Text) (Quiet : Type 0) (to_head : Bool) (route : Route) (old new : StoreData) (o : RequestOutcome) : Type 0 where
  pub answers : Answers bytes Quiet old new (served.Reply (reply_of to_head o).0 route) (reply_of to_head o).1
  pub states : (s : WholeState) → IsWholeStateOf s old → (s' : WholeState) × Serves now s bytes (served.Reply (reply_of to_head o).0 route) (reply_of to_head o).1 s' × IsWholeStateOf s' new

pub refusal_told : (now : ℤ) (bytes : Text) (Quiet : Type 0) (to_head : Bool) (route : Route) (k : StoreData) (r : Refusal) → Asks bytes (Refuses r route to_head) → Told now bytes Quiet to_head route k k (outcomes.Refused r)
refusal_told now bytes Quiet to_head route k r asks = record { answers = Answers.refuses r route to_head asks refl; states = λ s i. (s, Serves.refuses r route to_head asks, i) }

refused_then : (now : ℤ) (bytes : Text) (Quiet : Type 0) (route : Route) (old new : StoreData) (o : RequestOutcome) (r : Refusal) → o ≡ outcomes.Refused r → new ≡ old → Asks bytes (Refuses r route false) → Told now bytes Quiet false route old new o
refused_then now bytes Quiet route old new o r oe ne asks =
    subst (λ (p : RequestOutcome). Told now bytes Quiet false route old new p) (sym oe) (subst (λ (k : StoreData). Told now bytes Quiet false route old k (outcomes.Refused r)) (sym ne) (refusal_told now bytes Quiet false route old r asks))

some_reply : (to_head : Bool) (o : RequestOutcome) → (allow : Text) × (content : Option Text) × ((reply_of to_head o).1 ≡ reply_text (reply_of to_head o).0 allow content)
some_reply to_head (outcomes.Refused r) = (refusal_allow r, unless_head to_head (error_json (refusal_message r)), refl)
some_reply to_head outcomes.Done = ([], None, refl)
some_reply to_head (outcomes.Brief s body) = ([], Some body.bytes, refl)
some_reply to_head (outcomes.Answered s body) = ([], Some (string_bytes body), refl)

acted_then : (now : ℤ) (bytes : Text) (Quiet : Type 0) (route : Route) (method : Method) (query body : Text) (old new : StoreData) (o : RequestOutcome) → Asks bytes (Wants route method query body) → Quiet → ActsAs now route method query body old o new → Told now bytes Quiet false route old new o
acted_then now bytes Quiet route method query body old new o asks quiet did =
    let r = some_reply false o in
    record {
      answers = subst (Answers bytes Quiet old new (served.Reply (reply_of false o).0 route)) (sym r.2) (Answers.acts route method query body (reply_of false o).0 r.0 r.1 asks quiet did.1);
      states = λ s i. let d = did.0 s i in (d.0, Serves.acts route method query body (reply_of false o) d.0 asks d.1, d.2);
    }

module _ (came : Text) (spans : List HeaderSpan) (found : RequestSpans) (head : RequestHead) (at : IsRequestAt came spans found head) where
  -- a head that is refused
  pub asks_refused : (bytes rest : Text) (route : Route) (method : Method) (r : Refusal) → IsWholeHead bytes head rest
      → route ≡ route_of (path_of (span_bytes came found.path)) → method ≡ method_of (span_bytes came found.method)
      → refused route method (map (header_bytes came) (take found.headers spans)) ≡ Some r → Asks bytes (Refuses r route (is_head method))
  asks_refused bytes rest route method r whole er em e =
      let route_is : route ≡ route_in head = er ∙ ap (λ t. route_of (path_of t)) at.path in
      let method_is : method ≡ method_in head = em ∙ ap method_of at.method in
      let why : refused_in head r = sym (λ i. refused (route_is i) (method_is i) (at.fields i)) ∙ e in
      subst (λ q. Asks bytes (Refuses r q (is_head method))) (sym route_is) (subst (λ m. Asks bytes (Refuses r (route_in head) (is_head m))) (sym method_is) (Asks.refuses head rest r whole why))

  -- a head that is accepted, and the outcome of the bytes after it
  pub asks_taken : (bytes rest : Text) (now : ℤ) (route : Route) (method : Method) (query : Text) (len : ℕ) (BodyQuiet Quiet : Type 0) (old new : StoreData) (o : RequestOutcome) → IsWholeHead bytes head rest
      → route ≡ route_of (path_of (span_bytes came found.path)) → method ≡ method_of (span_bytes came found.method) → query ≡ target_query (span_bytes came found.path)
      → refused route method (map (header_bytes came) (take found.headers spans)) ≡ None → len ≡ body_length method (map (header_bytes came) (take found.headers spans))
      → (BodyQuiet → Quiet) → ActedOn now route method query rest len BodyQuiet old o new → Told now bytes Quiet false route old new o
  asks_taken bytes rest now route method query len BodyQuiet Quiet old new o whole er em eq e size quiet acted =
      let route_is : route ≡ route_in head = er ∙ ap (λ t. route_of (path_of t)) at.path in
      let method_is : method ≡ method_in head = em ∙ ap method_of at.method in
      let query_is : query ≡ target_query head.target = eq ∙ ap target_query at.path in
      let taken : is_taken head = sym (λ j. refused (route_is j) (method_is j) (at.fields j)) ∙ e in
      let len_is : len ≡ body_length (method_in head) (fields_of head) = size ∙ (λ j. body_length (method_is j) (at.fields j)) in
      ⊎_elim {C = Told now bytes Quiet false route old new o}
      (λ w.
      let asks : Asks bytes (Wants route method query w.0) = subst (λ q. Asks bytes (Wants q method query w.0)) (sym route_is)
      (subst (λ m. Asks bytes (Wants (route_in head) m query w.0)) (sym method_is) (subst (λ q. Asks bytes (Wants (route_in head) (method_in head) q w.0)) (sym query_is) (Asks.wants head rest w.0 w.1 whole taken w.2 (w.3 ∙ len_is)))) in
      acted_then now bytes Quiet route method query w.0 old new o asks (quiet w.4) w.5)
      (λ w. ⊎_elim {C = Told now bytes Quiet false route old new o}
      (λ cut.
      let asks : Asks bytes (Refuses refusals.BodyEndsEarly route false) = subst (λ q. Asks bytes (Refuses refusals.BodyEndsEarly q false)) (sym route_is) (Asks.cut head rest whole taken (omega (arith, cut.0, len_is))) in
      refused_then now bytes Quiet route old new o refusals.BodyEndsEarly cut.1 cut.2 asks)
      (λ want.
      let asks : Asks bytes (Refuses refusals.OutOfMemory route false) = subst (λ q. Asks bytes (Refuses refusals.OutOfMemory q false)) (sym route_is) (Asks.wants_memory head rest whole taken (omega (arith, want.0, len_is))) in
      refused_then now bytes Quiet route old new o refusals.OutOfMemory want.1 want.2 asks)
      w)
      acted

-- ---- a head, whatever bytes follow

pub whole_more : (came more bytes rest : Text) (spans : List HeaderSpan) (found : RequestSpans) (h : RequestHead) → IsRequestAt came spans found h → IsWholeHead bytes h rest → IsWholeHead (came ++ more) h (drop found.len came ++ more)
whole_more came more bytes rest spans found h at w = record { reads = ReadsRequest-append came h (drop found.len came) more at.reads; short = w.short; few = w.few }

-- ---- the promises of a call

abbrev pub Given : Type 0
Given = Result Served IoFault

abbrev pub failed_by : IoFault → Given
failed_by f = Err f

not_writer : failed_by Reader ≡ failed_by Writer → ⊥
not_writer e = absurd cc

pub read_failed : (now : ℤ) (old new : StoreData) (source source' : Input) (sink : Output) (result : Result Served IoFault) → result ≡ Err Reader → new ≡ old → source'.failures ≡ source.failures + 1 → source'.reads ≤ source.reads + request_reads
    → IsServed now old source sink result new source' sink
read_failed now old new source source' sink result e same f t = subst (λ (r : Result Served IoFault). IsServed now old source sink r new source' sink) (sym e) record {
  answered = tt;
  begun = λ b. absurd cc;
  unread = λ _. (same, refl);
  reader = f;
  writer = omega arith;
  reads = t;
}

pub nothing_served : (now : ℤ) (old : StoreData) (source source' : Input) (sink : Output) (came : Text) → Consumes source.remaining source'.remaining came → ReadsHead (request_of came source') Nothing → source'.failures ≡ source.failures → source'.reads ≤ source.reads + request_reads
    → IsServed now old source sink (Ok served.Nothing) old source' sink
nothing_served now old source source' sink came c h f t = record {
  answered = (came, c, record { reply = []; sent = Appends-nil sink.contents; answers = Answers.nothing (Asks.nothing h) refl; states = λ s i. (s, Serves.nothing (Asks.nothing h), i) });
  begun = λ b. absurd cc;
  unread = λ b. absurd cc;
  reader = omega (arith, f);
  writer = omega arith;
  reads = t;
}

pub sent_told : (now : ℤ) (old new : StoreData) (source source' : Input) (sink sink' : Output) (o : RequestOutcome) (route : Route) (to_head : Bool) (came : Text) (result : Result Served IoFault) → IsSent o route to_head sink result sink' → Consumes source.remaining source'.remaining came
    → Told now (request_of came source') (source'.ends ≡ source.ends) to_head route old new o → source'.failures ≡ source.failures → source'.reads ≤ source.reads + request_reads → IsServed now old source sink result new source' sink'
sent_told now old new source source' sink sink' o route to_head came (Ok x) sent c told f t =
    let bytes : Text = request_of came source' in
    let reply : Text = (reply_of to_head o).1 in
    record {
      answered = (
        came,
        c,
        record {
          reply = reply;
          sent = sent.ok.1;
          answers = subst (λ (v : Served). Answers bytes (source'.ends ≡ source.ends) old new v reply) (sym sent.ok.0) told.answers;
          states = λ s i. let d = told.states s i in (d.0, subst (λ (v : Served). Serves now s bytes v reply d.0) (sym sent.ok.0) d.1, d.2);
        },
      );
      begun = λ b. absurd cc;
      unread = λ b. absurd cc;
      reader = omega (arith, f);
      writer = omega (arith, sent.failures);
      reads = t;
    }
sent_told now old new source source' sink sink' o route to_head came (Err Writer) sent c told f t = record {
  answered = tt;
  begun = λ _. (came, c, (served.Reply (reply_of to_head o).0 route, record { reply = (reply_of to_head o).1; sent = sent.err; answers = told.answers; states = told.states }));
  unread = λ b. absurd cc;
  reader = omega (arith, f);
  writer = omega (arith, sent.failures);
  reads = t;
}
sent_told now old new source source' sink sink' o route to_head came (Err Reader) sent c told f t = absurd (not_writer sent.writer)
