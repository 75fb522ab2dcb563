-- The effect of a request, and its reply. (InfluxData 1.8, API reference: /ping, /query, /write. Own rules: /maintain,
-- /rules; parameters that aren't named here are ignored, and each path examines its own in this order.)
use Rattle.std.specs.Prelude.{◌≡◌, ◌≢◌, ◌⊎◌, ⊤, ℕ, ℤ, Bool, true, false, IsTrue, List, [], ◌∷◌, ◌++◌, length, codes, if◌then◌else◌, Option, Some, None, Ok, Err}
use Rattle.std.specs.Fmt.{signed_decimal}
use Rattle.std.specs.Str.{IsUtf8}
use Rattle.ts_core.specs.facts.Facts.{Text, same_text}
use Rattle.ts_core.specs.store.Marks.{marks_of}
use Rattle.ts_core.specs.settings.Settings.{Rule}
use Rattle.ts_core.specs.settings.SettingsFaults.{is_named, settings_fault_text, unknown_rule_text}
use Rattle.ts_core.specs.declared.settings.settings_fault.SettingsFault.{SettingsFault}
use Rattle.ts_core.specs.facts.TimeUnits.{precision_of}
use Rattle.ts_core.specs.declared.facts.time_unit.TimeUnit.{TimeUnit}
use Rattle.ts_core.specs.declared.facts.time_unit.TimeUnit.TheVariants.{Nanoseconds}
use Rattle.ts_reply.specs.Answering.{IsReply}
use Rattle.ts_reply.specs.Explaining.{IsExplanation}
use Rattle.ts_reply.specs.Epochs.{epoch_of}
use Rattle.ts_reply.specs.declared.epoch.Epoch.{Epoch}
use Rattle.ts_reply.specs.declared.epoch.Epoch.TheVariants as epochs
use Rattle.ts_store.specs.store.WholeStates.{WholeState, AddsRuleTo, left_in, state_without_rule}
use Rattle.ts_store.specs.rules.RuleTexts.{rule_for, settings_in, low_in}
use Rattle.ts_store.specs.declared.write.write_text.LineOutcome.{LineOutcome}
use Rattle.ts_http.specs.Batches.{TakesLines, StopsAtLine, body_lines, refusals_of, partial_text}
use Rattle.ts_http.specs.Maintaining.{steps_of_parameter, OpensRun, RunsSteps, run_text}
use Rattle.ts_http.specs.HttpReplies.{reply_text, error_json, refusal_status, refusal_reply}
use Rattle.ts_http.specs.Parameters.{parameters, first_named}
use Rattle.ts_http.specs.declared.refusal.Refusal.{Refusal}
use Rattle.ts_http.specs.declared.refusal.Refusal.TheVariants.{BodyNotText, BadPrecision, BadEpoch, BadExplain, BadSteps, MissingQuery, MissingName, OutOfMemory}
use Rattle.ts_http.specs.declared.route.Method.{Method}
use Rattle.ts_http.specs.declared.route.Method.TheVariants as by
use Rattle.ts_http.specs.declared.route.Route.{Route}
use Rattle.ts_http.specs.declared.route.Route.TheVariants as to
use Rattle.ts_http.specs.declared.status.Status.{Status}
use Rattle.ts_http.specs.declared.status.Status.TheVariants as status

-- a reply: its status and its bytes
abbrev pub Replied : Type 0
Replied = Status × Text

-- a refusal after the body was read; no such request is by HEAD
abbrev pub refusing : Refusal → Replied
refusing r = (refusal_status r, refusal_reply false r)

-- everything is done
abbrev pub done_reply : Replied
done_reply = (status.NoContent, reply_text status.NoContent [] None)

abbrev pub bad_reply : Text → Replied
bad_reply body = (status.BadRequest, reply_text status.BadRequest [] (Some body))

abbrev pub answer_reply : Bool → Text → Replied
answer_reply true body = (status.Success, reply_text status.Success [] (Some body))
answer_reply false body = bad_reply body

-- ---- /write

-- without one, timestamps are in nanoseconds
abbrev pub precision_parameter : Option Text → Option TimeUnit
precision_parameter None = Some Nanoseconds
precision_parameter (Some name) = precision_of name

abbrev pub precision_in : Text → Option TimeUnit
precision_in query = precision_parameter (first_named (codes "precision") (parameters query))

-- the reply to lines of which these were refused, with their numbers and fault texts
abbrev pub batch_reply : List (ℕ × Text) → Replied
batch_reply [] = done_reply
batch_reply (first ∷ others) = bad_reply (error_json (partial_text first (length (first ∷ others))))

-- ---- /query

-- without one, times are texts
abbrev pub epoch_parameter : Option Text → Option Epoch
epoch_parameter None = Some epochs.Text
epoch_parameter (Some name) = if same_text name (codes "text") then None else epoch_of name

-- the parameter `explain`: true if the reply has plans
abbrev pub explain_parameter : Option Text → Option Bool
explain_parameter None = Some false
explain_parameter (Some value) =
    if same_text value (codes "0") then Some false
    else if same_text value (codes "1") then Some true
    else None

-- the first value with a name; the parameters of the target come before those of the body
abbrev pub value_in : Text → Text → Text → Option Text
value_in name query body = first_named name (parameters query ++ parameters body)

-- ---- /write and /query

-- From `old`, a request may have this reply and lead to this state.
module _ (now : ℤ) (old : WholeState) (query body : Text) where
  pub data Writes : Replied → WholeState → Type 0 where
    not_text : (IsUtf8 body → ⊥) → Writes (refusing BodyNotText) old
    bad_precision : IsUtf8 body → precision_in query ≡ None → Writes (refusing BadPrecision) old
    wants_memory : IsUtf8 body → Writes (refusing OutOfMemory) old
    writes : (precision : TimeUnit) (outcomes : List LineOutcome) (new : WholeState)
        → IsUtf8 body → precision_in query ≡ Some precision
        → TakesLines precision now old (body_lines body) outcomes new → Writes (batch_reply (refusals_of outcomes)) new
    -- out of memory at a line; the lines before it are written, and this one in part
    stops : (precision : TimeUnit) (new : WholeState) → IsUtf8 body → precision_in query ≡ Some precision
        → StopsAtLine precision now old (body_lines body) new → Writes (refusing OutOfMemory) new

  pub data Queries : Replied → Type 0 where
    not_text : (IsUtf8 body → ⊥) → Queries (refusing BodyNotText)
    bad_epoch : IsUtf8 body → epoch_parameter (value_in (codes "epoch") query body) ≡ None → Queries (refusing BadEpoch)
    bad_explain : (epoch : Epoch) → IsUtf8 body → epoch_parameter (value_in (codes "epoch") query body) ≡ Some epoch
        → explain_parameter (value_in (codes "explain") query body) ≡ None → Queries (refusing BadExplain)
    missing : (epoch : Epoch) (explain : Bool) → IsUtf8 body
        → epoch_parameter (value_in (codes "epoch") query body) ≡ Some epoch
        → explain_parameter (value_in (codes "explain") query body) ≡ Some explain
        → value_in (codes "q") query body ≡ None → Queries (refusing MissingQuery)
    wants_memory : IsUtf8 body → Queries (refusing OutOfMemory)
    answers : (epoch : Epoch) (text : Text) (good : Bool) (answer : Text)
        → IsUtf8 body → epoch_parameter (value_in (codes "epoch") query body) ≡ Some epoch
        → explain_parameter (value_in (codes "explain") query body) ≡ Some false
        → value_in (codes "q") query body ≡ Some text
        → IsReply old.store.opening old.store.history now text (value_in (codes "cert") query body) epoch good answer
        → Queries (answer_reply good answer)
    explains : (epoch : Epoch) (text : Text) (good : Bool) (answer : Text)
        → IsUtf8 body → epoch_parameter (value_in (codes "epoch") query body) ≡ Some epoch
        → explain_parameter (value_in (codes "explain") query body) ≡ Some true
        → value_in (codes "q") query body ≡ Some text
        → IsExplanation old.store.opening old.store.history now text good answer → Queries (answer_reply good answer)

-- ---- /maintain

-- The run is open then, and begins if it wasn't; and at most this number of its steps are taken.
pub data Maintains (now : ℤ) (old : WholeState) (query : Text) : Replied → WholeState → Type 0 where
  bad_steps : steps_of_parameter query ≡ None → Maintains now old query (refusing BadSteps) old
  wants_memory : Maintains now old query (refusing OutOfMemory) old
  steps : (n : ℕ) (opened new : WholeState)
      → steps_of_parameter query ≡ Some n → OpensRun now old opened → RunsSteps n opened new
      → Maintains now old query
      (answer_reply true (run_text n (left_in opened) (marks_of opened.store.opening opened.store.history).raw)) new

-- ---- /rules

-- JSON with the low index and the name of a rule that was added
abbrev pub added_text : Text → ℤ → Text
added_text name low = codes "{\"low\":" ++ (signed_decimal low ++ (codes ",\"name\":\"" ++ (name ++ codes "\"}")))

-- JSON with the name of a rule that was dropped
abbrev pub dropped_body : Text → Text
dropped_body name = codes "{\"dropped\":\"" ++ (name ++ codes "\"}")

-- a POST: the body is a rule, which is added
pub data PostsRule (old : WholeState) (body : Text) : Replied → WholeState → Type 0 where
  not_text : (IsUtf8 body → ⊥) → PostsRule old body (refusing BodyNotText) old
  wants_memory : IsUtf8 body → PostsRule old body (refusing OutOfMemory) old
  refuses : (fault : SettingsFault) → IsUtf8 body → rule_for (settings_in old.store) body ≡ Err fault
      → PostsRule old body (bad_reply (error_json (settings_fault_text fault))) old
  adds : (r : Rule) (new : WholeState) → IsUtf8 body → rule_for (settings_in old.store) body ≡ Ok r
      → AddsRuleTo old r new → PostsRule old body (answer_reply true (added_text r.name (low_in old.store r))) new

-- the name of a rule, as a parameter of the target
abbrev pub name_in : Text → Option Text
name_in query = first_named (codes "name") (parameters query)

-- a DELETE: the rule with this name is dropped
pub data DeletesRule (old : WholeState) (query : Text) : Replied → WholeState → Type 0 where
  missing : name_in query ≡ None → DeletesRule old query (refusing MissingName) old
  wants_memory : DeletesRule old query (refusing OutOfMemory) old
  refuses : (name : Text) → name_in query ≡ Some name → is_named (settings_in old.store).rules name ≡ false
      → DeletesRule old query (bad_reply (error_json unknown_rule_text)) old
  drops : (name : Text) → name_in query ≡ Some name → IsTrue (is_named (settings_in old.store).rules name)
      → DeletesRule old query (answer_reply true (dropped_body name)) (state_without_rule name old)

-- The effect of a request that isn't refused by its head, after its body was read.
pub data Acts (now : ℤ) (old : WholeState) (query body : Text) : Route → Method → Replied → WholeState → Type 0 where
  pings : (method : Method) → Acts now old query body to.Ping method done_reply old
  writes : (method : Method) (reply : Replied) (new : WholeState)
      → Writes now old query body reply new → Acts now old query body to.Write method reply new
  queries : (method : Method) (reply : Replied)
      → Queries now old query body reply → Acts now old query body to.Query method reply old
  maintains : (method : Method) (reply : Replied) (new : WholeState)
      → Maintains now old query reply new → Acts now old query body to.Maintain method reply new
  adds : (reply : Replied) (new : WholeState)
      → PostsRule old body reply new → Acts now old query body to.Rules by.Post reply new
  drops : (reply : Replied) (new : WholeState)
      → DeletesRule old query reply new → Acts now old query body to.Rules by.Delete reply new

-- A request with this status leaves the store as it is, whatever the store stands for, if this holds.
abbrev pub LeavesStore : Route → Text → Text → Status → Type 0
LeavesStore to.Write query body s = (IsUtf8 body → ⊥) ⊎ (precision_in query ≡ None)
LeavesStore to.Maintain query body s = s ≢ status.Success
LeavesStore to.Rules query body s = s ≢ status.Success
LeavesStore route query body s = ⊤
