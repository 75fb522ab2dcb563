-- Steps of a run, by /maintain.
use Rattle.std.proofs.Common.{◌≡◌, ◌⊎◌, ⊎_elim, ℕ, ◌+◌, ◌<◌, ◌≤◌, ℤ, Bool, true, false, true≢false, cond, Some, None, refl, sym, ap, ◌∙◌, subst, arith, inl, inr}
use Rattle.std.proofs.lemmas.Bool.{le-leb, lt-leb}
use Rattle.std.proofs.Math.Nat.{min-eq_left, min-eq_right}
use Rattle.ts_core.specs.facts.Facts.{Text}
use Rattle.ts_core.specs.store.History.{Begin}
use Rattle.ts_core.specs.store.Marks.{marks_of}
use Rattle.ts_core.specs.store.StoreData.{StoreData, GoesOn}
use Rattle.ts_core.specs.moves.StoreMoves.{run_begun}
use Rattle.ts_store.specs.store.Inventories.{all_waiting}
use Rattle.ts_store.specs.retain.WholeRuns.{TakesStep}
use Rattle.ts_store.specs.store.WholeStates.{WholeState, IsWholeStateOf, with_begin, left_in}
use Rattle.ts_store.specs.declared.retain.StepAnswer.TheVariants.{Done}
use Rattle.ts_http.specs.Acts.{Replied, refusing, answer_reply, Maintains}
use Rattle.ts_http.specs.Maintaining.{steps_of_parameter, OpensRun, RunsSteps, progress_text, run_text}
use Rattle.ts_http.specs.MaintainSteps.{run_opened, HasRun, HasStepped}
use Rattle.ts_http.specs.OutcomeReplies.{reply_of, MaintainsAs}
use Rattle.ts_http.specs.declared.outcome.RequestOutcome.{RequestOutcome}
use Rattle.ts_http.specs.declared.outcome.RequestOutcome.TheVariants as outcomes
use Rattle.ts_http.specs.declared.refusal.Refusal.{Refusal}
use Rattle.ts_http.specs.declared.refusal.Refusal.TheVariants as refusals
use Rattle.ts_store.proofs.retain.RunsStay.{begun_waiting}
use Rattle.ts_store.proofs.store.WholeStatesKept.{Steps, last_step}

-- ---- the run begins if none is open

opens_by : (now : ℤ) (s : WholeState) (k : StoreData) (b : Bool) → k.running ≡ b → (k.running ≡ false → GoesOn k (Begin now) (run_begun now k)) → IsWholeStateOf s k
    → (opened : WholeState) × OpensRun now s opened × IsWholeStateOf opened (cond b k (run_begun now k))
opens_by now s k true e begins i = (s, OpensRun.goes_on (i.store.stands.running.0 e), i)
opens_by now s k false e begins i = (
  with_begin now s,
  OpensRun.begins (λ runs. true≢false (sym (i.store.stands.running.1 runs) ∙ e)),
  record { store = record { stands = begins e s.store.opening s.store.history i.store.stands; series = i.store.series }; inventory = begun_waiting now k ∙ ap all_waiting i.inventory },
)

pub opens : (now : ℤ) (s : WholeState) (k : StoreData) → (k.running ≡ false → GoesOn k (Begin now) (run_begun now k)) → IsWholeStateOf s k → (opened : WholeState) × OpensRun now s opened × IsWholeStateOf opened (run_opened now k)
opens now s k begins i = opens_by now s k k.running refl begins i

-- ---- steps

module _ (n : ℕ) (s : WholeState) where
  -- all n steps were taken, and the run is still open
  pub goes_on : (new : StoreData) → Steps s n new → HasRun n s n false new
  goes_on new so =
      let some : 1 ≤ left_in so.mid = omega arith in
      let before = so.left in
      let few : n < left_in s = omega (arith, some, before) in
      record { after = so.mid; runs = RunsSteps.goes_on so.mid few so.took; here = so.here; count = sym (min-eq_left (omega (arith, few))); ended = sym (lt-leb (left_in s) n few) }

  -- a step ended the run
  pub ends : (taken : ℕ) (mid new : StoreData) → taken < n → mid.running ≡ true → TakesStep mid new Done → Steps s taken mid → HasRun n s (taken + 1) true new
  ends taken mid new before runs t so =
      let d = last_step s taken mid new runs t so in
      let all : left_in s ≡ taken + 1 = d.3 in
      let few : left_in s ≤ n = omega (arith, all, before) in
      record { after = d.0; runs = RunsSteps.ends taken so.mid d.0 all few so.took d.1; here = d.2; count = sym (min-eq_right few ∙ all); ended = sym (le-leb (left_in s) n few) }

-- ---- the request

module _ (now : ℤ) (query : Text) (old : StoreData) where
  pub steps_refused : (r : Refusal) → (r ≡ refusals.OutOfMemory) ⊎ ((steps_of_parameter query ≡ None) × (r ≡ refusals.BadSteps)) → MaintainsAs now query old (outcomes.Refused r) old
  steps_refused r why = (
    λ s i. (s, ⊎_elim {C = Maintains now s query (refusing r) s} (λ e. subst (λ q. Maintains now s query (refusing q) s) (sym e) Maintains.wants_memory) (λ w. subst (λ q. Maintains now s query (refusing q) s) (sym w.1) (Maintains.bad_steps w.0)) why, i),
    inr refl,
  )

  pub maintained : (n : ℕ) (new : StoreData) (taken : ℕ) (done : Bool) (o : RequestOutcome) → steps_of_parameter query ≡ Some n → (old.running ≡ false → GoesOn old (Begin now) (run_begun now old)) → HasStepped n (run_opened now old) new taken done
      → reply_of false o ≡ answer_reply true (progress_text done new.raw_mark taken) → MaintainsAs now query old o new
  maintained n new taken done o asked begins did reply = (
    λ s i.
        let opened = opens now s old begins i in
        let left : ℕ = left_in opened.0 in
        let ran = did.states opened.0 opened.2 in
        let raw : new.raw_mark ≡ (marks_of opened.0.store.opening opened.0.store.history).raw = ap (λ m. m.raw) (did.marks ∙ opened.2.store.stands.marks) in
        let same : reply_of false o ≡ answer_reply true (run_text n left (marks_of opened.0.store.opening opened.0.store.history).raw) =
        reply ∙ (λ j. answer_reply true (progress_text (ran.ended j) (raw j) (ran.count j))) in
        (ran.after, subst (λ (r : Replied). Maintains now s query r ran.after) (sym same) (Maintains.steps n opened.0 ran.after asked opened.1 ran.runs), ran.here),
    inl (ap (λ (r : Replied). r.0) reply),
  )
