-- The effects of requests, case by case of the code.
use Rattle.std.proofs.Common.{◌≡◌, ◌⊎◌, ⊎_elim, ℤ, List, [], ◌∷◌, ◌++◌, map, Bool, true, false, cond, Option, Some, None, Result, Ok, Err, IfOk, refl, sym, ap, ◌∙◌, subst, arith, append_assoc, codes, string_bytes}
use Rattle.std.specs.Str.{IsUtf8}
use Rattle.std.specs.Io.KnownBytes.{Appends}
use Rattle.std.proofs.KnownBytes.{Appends-trans}
use Rattle.std.proofs.lemmas.Option.{none-some}
use Rattle.ts_core.specs.facts.Facts.{Text, same_text}
use Rattle.ts_core.specs.store.StoreData.{StoreData, OfEachHistory}
use Rattle.ts_core.specs.io.Devices.{Output, IsPut, AppendsFront}
use Rattle.ts_core.specs.declared.facts.time_unit.TimeUnit.{TimeUnit}
use Rattle.ts_reply.specs.Answering.{IsReply}
use Rattle.ts_reply.specs.Explaining.{IsExplanation}
use Rattle.ts_reply.specs.declared.answering.QueryReply.{QueryReply}
use Rattle.ts_reply.specs.declared.epoch.Epoch.{Epoch}
use Rattle.ts_http.specs.Acts.{Replied, refusing, batch_reply, precision_in, epoch_parameter, explain_parameter, value_in, Writes, Queries}
use Rattle.ts_store.specs.write.LineTexts.{refusal_text}
use Rattle.ts_store.specs.store.WholeStates.{WholeState, IsWholeStateOf}
use Rattle.ts_store.specs.declared.write.write_text.LineOutcome.{LineOutcome}
use Rattle.ts_http.specs.Batches.{refusals_of}
use Rattle.ts_http.specs.OutcomeReplies.{reply_of, WritesAs, QueriesAs, answered_reply}
use Rattle.ts_http.specs.Parameters.{Parameters, first_named}
use Rattle.ts_http.specs.Tallies.{TallyIs, WritesLines}
use Rattle.ts_http.specs.declared.batch.BatchTally.{BatchTally}
use Rattle.ts_http.specs.declared.outcome.RequestOutcome.{RequestOutcome}
use Rattle.ts_http.specs.declared.outcome.RequestOutcome.TheVariants as outcomes
use Rattle.ts_http.specs.declared.refusal.Refusal.{Refusal}
use Rattle.ts_http.specs.declared.refusal.Refusal.TheVariants as refusals

-- ---- parameters of the target, and of the body

front_by : (name value : Text) (x : Text × Text) (xs zs : Parameters) (b : Bool) → same_text x.0 name ≡ b → (first_named name xs ≡ Some value → first_named name zs ≡ Some value) → first_named name (x ∷ xs) ≡ Some value → first_named name (x ∷ zs) ≡ Some value
front_by name value x xs zs true is more h = ap (λ t. cond t (Some x.1) (first_named name zs)) is ∙ sym (ap (λ t. cond t (Some x.1) (first_named name xs)) is) ∙ h
front_by name value x xs zs false is more h = ap (λ t. cond t (Some x.1) (first_named name zs)) is ∙ more (sym (ap (λ t. cond t (Some x.1) (first_named name xs)) is) ∙ h)

pub named_in_front : (name value : Text) (xs ys : Parameters) → first_named name xs ≡ Some value → first_named name (xs ++ ys) ≡ Some value
named_in_front name value [] ys e = absurd cc
named_in_front name value (x ∷ xs) ys e = front_by name value x xs (xs ++ ys) (same_text x.0 name) refl (named_in_front name value xs ys) e

some_is_not_none : (v : Text) → Some v ≡ None → ⊥
some_is_not_none v e = absurd cc

behind_by : (name : Text) (x : Text × Text) (xs zs ys : Parameters) (b : Bool) → same_text x.0 name ≡ b → (first_named name xs ≡ None → first_named name zs ≡ first_named name ys) → first_named name (x ∷ xs) ≡ None → first_named name (x ∷ zs) ≡ first_named name ys
behind_by name x xs zs ys true is more h = absurd (some_is_not_none x.1 (sym (ap (λ t. cond t (Some x.1) (first_named name xs)) is) ∙ h))
behind_by name x xs zs ys false is more h = ap (λ t. cond t (Some x.1) (first_named name zs)) is ∙ more (sym (ap (λ t. cond t (Some x.1) (first_named name xs)) is) ∙ h)

pub named_behind : (name : Text) (xs ys : Parameters) → first_named name xs ≡ None → first_named name (xs ++ ys) ≡ first_named name ys
named_behind name [] ys e = refl
named_behind name (x ∷ xs) ys e = behind_by name x xs (xs ++ ys) ys (same_text x.0 name) refl (named_behind name xs ys) e

-- ---- sending

pub front_sent : (old new : Option Text) (head body : Text) → AppendsFront old new head → AppendsFront old new (head ++ body)
front_sent old new head body a = (a.0, a.1 ++ body, ap (λ (t : Text). t ++ body) a.2 ∙ append_assoc a.0 a.1 body, a.3)

pub both_put : {T E : Type 0} (old mid new : Output) (r : Result T E) (head body : Text) → Appends old.contents mid.contents head → mid.failures ≡ old.failures → IsPut mid r body new → IsPut old r (head ++ body) new
both_put old mid new (Ok x) head body a f p = record { ok = Appends-trans old.contents mid.contents new.contents head body a p.ok; err = tt; failures = omega (arith, p.failures, f) }
both_put old mid new (Err e) head body a f p = record {
  ok = tt;
  err = (head ++ p.err.0, p.err.1, ap (λ (t : Text). head ++ t) p.err.2 ∙ sym (append_assoc head p.err.0 p.err.1), Appends-trans old.contents mid.contents new.contents head p.err.0 a p.err.3);
  failures = omega (arith, p.failures, f);
}

-- ---- /write

module _ (now : ℤ) (query body : Text) (k : StoreData) where
  pub write_refused : (r : Refusal) → IsUtf8 body → (r ≡ refusals.OutOfMemory) ⊎ ((precision_in query ≡ None) × (r ≡ refusals.BadPrecision)) → WritesAs now query body k (outcomes.Refused r) k
  write_refused r utf8 why = (
    λ s i. (s, ⊎_elim {C = Writes now s query body (refusing r) s} (λ e. subst (λ q. Writes now s query body (refusing q) s) (sym e) (Writes.wants_memory utf8)) (λ w. subst (λ q. Writes now s query body (refusing q) s) (sym w.1) (Writes.bad_precision utf8 w.0)) why, i),
    λ l. refl,
  )

  pub write_no_text : (IsUtf8 body → ⊥) → WritesAs now query body k (outcomes.Refused refusals.BodyNotText) k
  write_no_text none = (λ s i. (s, Writes.not_text none, i), λ l. refl)

  -- a body that is read isn't refused
  was_read : (precision : TimeUnit) (P : Type 0) → IsUtf8 body → precision_in query ≡ Some precision → (IsUtf8 body → ⊥) ⊎ (precision_in query ≡ None) → P
  was_read precision P utf8 p why = ⊎_elim {C = P} (λ no. absurd (no utf8)) (λ none. absurd (none-some precision (sym none ∙ p))) why

  pub lines_written : (E : Type 0) (precision : TimeUnit) (new : StoreData) (tally : BatchTally) (o : RequestOutcome) → IsUtf8 body → precision_in query ≡ Some precision → ((s : WholeState) → IsWholeStateOf s k → WritesLines precision now s body {E = E} (Ok tally) new)
      → ((os : List LineOutcome) → TallyIs (map refusal_text os) tally → reply_of false o ≡ batch_reply (refusals_of os)) → WritesAs now query body k o new
  lines_written E precision new tally o utf8 p did told = (
    λ s i.
        let d = did s i in
        (d.1, subst (λ (r : Replied). Writes now s query body r d.1) (sym (told d.0 d.3)) (Writes.writes precision d.0 d.1 utf8 p d.2), d.4),
    was_read precision (new ≡ k) utf8 p,
  )

  pub lines_stopped : (E : Type 0) (precision : TimeUnit) (new : StoreData) (e : E) → IsUtf8 body → precision_in query ≡ Some precision → ((s : WholeState) → IsWholeStateOf s k → WritesLines precision now s body {E = E} (Err e) new) → WritesAs now query body k (outcomes.Refused refusals.OutOfMemory) new
  lines_stopped E precision new e utf8 p did = (
    λ s i.
        let d = did s i in
        (d.0, Writes.stops precision d.0 utf8 p d.1, d.2),
    was_read precision (new ≡ k) utf8 p,
  )

-- ---- /query

module _ (now : ℤ) (query body : Text) (k : StoreData) (utf8 : IsUtf8 body) where
  pub query_no_memory : QueriesAs now query body k (outcomes.Refused refusals.OutOfMemory)
  query_no_memory = λ s i. Queries.wants_memory utf8

  pub epoch_refused : (r : Refusal) → (r ≡ refusals.OutOfMemory) ⊎ ((epoch_parameter (value_in (codes "epoch") query body) ≡ None) × (r ≡ refusals.BadEpoch)) → QueriesAs now query body k (outcomes.Refused r)
  epoch_refused r why = λ s i.
      ⊎_elim {C = Queries now s query body (refusing r)} (λ e. subst (λ q. Queries now s query body (refusing q)) (sym e) (Queries.wants_memory utf8)) (λ w. subst (λ q. Queries now s query body (refusing q)) (sym w.1) (Queries.bad_epoch utf8 w.0)) why

  module _ (epoch : Epoch) (e : epoch_parameter (value_in (codes "epoch") query body) ≡ Some epoch) where
    pub explain_refused : (r : Refusal) → (r ≡ refusals.OutOfMemory) ⊎ ((explain_parameter (value_in (codes "explain") query body) ≡ None) × (r ≡ refusals.BadExplain)) → QueriesAs now query body k (outcomes.Refused r)
    explain_refused r why = λ s i.
        ⊎_elim {C = Queries now s query body (refusing r)} (λ m. subst (λ q. Queries now s query body (refusing q)) (sym m) (Queries.wants_memory utf8)) (λ w. subst (λ q. Queries now s query body (refusing q)) (sym w.1) (Queries.bad_explain epoch utf8 e w.0)) why

    pub query_missing : (explain : Bool) → explain_parameter (value_in (codes "explain") query body) ≡ Some explain → value_in (codes "q") query body ≡ None → QueriesAs now query body k (outcomes.Refused refusals.MissingQuery)
    query_missing explain x none = λ s i. Queries.missing epoch explain utf8 e x none

    pub answered_so : {E : Type 0} (text : Text) (r : Result QueryReply E) (o : RequestOutcome) → explain_parameter (value_in (codes "explain") query body) ≡ Some false → value_in (codes "q") query body ≡ Some text
        → IfOk r (λ reply. OfEachHistory k (λ opening h. IsReply opening h now text (value_in (codes "cert") query body) epoch reply.good (string_bytes reply.body))) → reply_of false o ≡ answered_reply r → QueriesAs now query body k o
    answered_so text (Ok reply) o x q is told = λ s i. subst (Queries now s query body) (sym told) (Queries.answers epoch text reply.good (string_bytes reply.body) utf8 e x q (is s.store.opening s.store.history i.store.stands))
    answered_so text (Err f) o x q is told = λ s i. subst (Queries now s query body) (sym told) (Queries.wants_memory utf8)

    pub explained_so : {E : Type 0} (text : Text) (r : Result QueryReply E) (o : RequestOutcome) → explain_parameter (value_in (codes "explain") query body) ≡ Some true → value_in (codes "q") query body ≡ Some text
        → IfOk r (λ reply. OfEachHistory k (λ opening h. IsExplanation opening h now text reply.good (string_bytes reply.body))) → reply_of false o ≡ answered_reply r → QueriesAs now query body k o
    explained_so text (Ok reply) o x q is told = λ s i. subst (Queries now s query body) (sym told) (Queries.explains epoch text reply.good (string_bytes reply.body) utf8 e x q (is s.store.opening s.store.history i.store.stands))
    explained_so text (Err f) o x q is told = λ s i. subst (Queries now s query body) (sym told) (Queries.wants_memory utf8)
