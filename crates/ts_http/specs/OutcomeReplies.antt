-- The code's outcomes, as replies. (Own rules.)
use Rattle.std.specs.Prelude.{◌≡◌, ◌⊎◌, ℤ, Bool, false, [], Some, None, Option, Result, Ok, Err, string_bytes}
use Rattle.ts_core.specs.facts.Facts.{Text}
use Rattle.ts_core.specs.store.StoreData.{StoreData}
use Rattle.ts_reply.specs.declared.answering.QueryReply.{QueryReply}
use Rattle.ts_http.specs.Acts.{Replied, refusing, done_reply, answer_reply, Writes, Queries, Maintains, PostsRule, name_in, DeletesRule, Acts, LeavesStore}
use Rattle.ts_store.specs.store.WholeStates.{WholeState, IsWholeStateOf}
use Rattle.ts_http.specs.HttpReplies.{reply_text, refusal_status, refusal_reply}
use Rattle.ts_http.specs.declared.outcome.RequestOutcome.{RequestOutcome}
use Rattle.ts_http.specs.declared.outcome.RequestOutcome.TheVariants.{Refused, Done, Brief, Answered}
use Rattle.ts_http.specs.declared.refusal.Refusal.{Refusal}
use Rattle.ts_http.specs.declared.refusal.Refusal.TheVariants.{OutOfMemory}
use Rattle.ts_http.specs.declared.route.Method.{Method}
use Rattle.ts_http.specs.declared.route.Route.{Route}
use Rattle.ts_http.specs.declared.route.Route.TheVariants as to
use Rattle.ts_http.specs.declared.status.Status.TheVariants as status

abbrev pub reply_of : Bool → RequestOutcome → Replied
reply_of to_head (Refused r) = (refusal_status r, refusal_reply to_head r)
reply_of to_head Done = done_reply
reply_of to_head (Brief s body) = (s, reply_text s [] (Some body.bytes))
reply_of to_head (Answered s body) = (s, reply_text s [] (Some (string_bytes body)))

-- the value, or out of memory, or this refusal if there is none
abbrev pub IsValueOr : {X : Type 0} → Option X → Refusal → Result X Refusal → Type 0
IsValueOr value refusal (Ok x) = value ≡ Some x
IsValueOr value refusal (Err r) = (r ≡ OutOfMemory) ⊎ ((value ≡ None) × (r ≡ refusal))

-- the effect on the state that a store was in
abbrev pub FromEach : StoreData → StoreData → (WholeState → WholeState → Type 0) → Type 0
FromEach old new P = (s : WholeState) → IsWholeStateOf s old → (s' : WholeState) × P s s' × IsWholeStateOf s' new

-- the store stays unless the reply has status 200
abbrev pub StaysUnlessDone : StoreData → RequestOutcome → StoreData → Type 0
StaysUnlessDone old outcome new = ((reply_of false outcome).0 ≡ status.Success) ⊎ (new ≡ old)

-- a /write in each state that its store was in
abbrev pub WritesAs : ℤ → Text → Text → StoreData → RequestOutcome → StoreData → Type 0
WritesAs now query body old outcome new = FromEach old new (λ s s'. Writes now s query body (reply_of false outcome) s')
    × (LeavesStore to.Write query body (reply_of false outcome).0 → new ≡ old)

-- a /query in each state that its store is in
abbrev pub QueriesAs : ℤ → Text → Text → StoreData → RequestOutcome → Type 0
QueriesAs now query body k outcome = (s : WholeState)
    → IsWholeStateOf s k → Queries now s query body (reply_of false outcome)

-- a /maintain in each state that its store was in
abbrev pub MaintainsAs : ℤ → Text → StoreData → RequestOutcome → StoreData → Type 0
MaintainsAs now query old outcome new =
    FromEach old new (λ s s'. Maintains now s query (reply_of false outcome) s') × StaysUnlessDone old outcome new

-- a POST of /rules in each state that its store was in
abbrev pub AddsAs : Text → StoreData → RequestOutcome → StoreData → Type 0
AddsAs body old outcome new =
    FromEach old new (λ s s'. PostsRule s body (reply_of false outcome) s') × StaysUnlessDone old outcome new

-- a DELETE of /rules in each state that its store was in
abbrev pub DropsAs : Text → StoreData → RequestOutcome → StoreData → Type 0
DropsAs query old outcome new =
    FromEach old new (λ s s'. DeletesRule s query (reply_of false outcome) s') × StaysUnlessDone old outcome new

-- dropping the rule with a name, in each state that the store was in
abbrev pub DropsNamed : Text → StoreData → RequestOutcome → StoreData → Type 0
DropsNamed name old outcome new = (query : Text) → name_in query ≡ Some name → DropsAs query old outcome new

-- a request in each state that its store was in
abbrev pub ActsAs : ℤ → Route → Method → Text → Text → StoreData → RequestOutcome → StoreData → Type 0
ActsAs now route method query body old outcome new =
    FromEach old new (λ s s'. Acts now s query body route method (reply_of false outcome) s')
    × (LeavesStore route query body (reply_of false outcome).0 → new ≡ old)

-- the reply to queries, or out of memory
abbrev pub answered_reply : {E : Type 0} → Result QueryReply E → Replied
answered_reply (Ok r) = answer_reply r.good (string_bytes r.body)
answered_reply (Err e) = refusing OutOfMemory
