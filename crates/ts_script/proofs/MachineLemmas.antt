-- The machine's effect for a command, in each state.
use Rattle.std.proofs.Common.{◌≡◌, ◌⊎◌, List, ℕ, ℤ, ◌<ℤ◌, ◌≤ℤ◌, ◌≤◌, ◌<◌, [], length, codes, sym, ap, ◌∙◌, subst, Bool, true, false, IsTrue, Option, Some, None, Result, Ok, Err, OnOk, OnErr, IsErr, ◌↔◌, IfOk, is_err, zero, suc, ◌∷◌, true≢false, inl, inr, refl}
use Rattle.std.specs.Fmt.{decimal}
use Rattle.std.specs.Str.{IsUtf8}
use Rattle.ts_core.specs.facts.Facts.{Text}
use Rattle.ts_core.specs.settings.Settings.{Settings}
use Rattle.ts_core.specs.settings.SettingsFaults.{settings_fault_text}
use Rattle.ts_core.specs.settings.SettingsTexts.{settings_read}
use Rattle.ts_core.specs.declared.settings.settings_fault.SettingsFault.{SettingsFault}
use Rattle.ts_core.specs.store.StoreData.{StoreData, OfEachHistory, GoesOn, store_settings, store_marks, state_of}
use Rattle.ts_core.specs.moves.StoreMoves.{run_begun}
use Rattle.ts_core.specs.store.Marks.{Marks, marks_of}
use Rattle.ts_core.specs.store.StoreStates.{StandsFor}
use Rattle.ts_core.specs.store.History.{History, Begin, IsRunOpen}
use Rattle.ts_store.specs.write.LineTexts.{LineState as StoreState, IsStateOf as IsStoreIn, opened as opened_store, parts_in, WritesFrom}
use Rattle.ts_store.specs.store.Inventories.{Inventory, inventory_of, new_inventory, all_waiting, facts_of_text, GrowsAfter, steps_in, LeavesRecent}
use Rattle.ts_store.specs.store.WholeStates.{WholeState, IsWholeStateOf, rules_in, lows_in, with_begin, LineWrites}
use Rattle.ts_store.specs.read.PointsRead.{all_raw}
use Rattle.ts_store.specs.write.StoreFaultTexts.{run_in_progress_text}
use Rattle.ts_store.specs.retain.WholeRuns.{steps_taken, whole_run, TakesStep, Retains}
use Rattle.ts_store.specs.declared.retain.StepAnswer.{StepAnswer}
use Rattle.ts_store.specs.declared.write.write_text.LineOutcome.{LineOutcome}
use Rattle.ts_core.specs.declared.facts.time_unit.TimeUnit.{TimeUnit}
use Rattle.ts_core.specs.text.FaultTexts.{memory_text}
use Rattle.ts_reply.specs.Answering.{IsReply}
use Rattle.ts_reply.specs.Explaining.{IsExplanation}
use Rattle.ts_reply.specs.declared.epoch.Epoch.{Epoch}
use Rattle.ts_store.proofs.retain.RunsStay.{begun_waiting}
use Rattle.ts_store.proofs.store.WholeStatesKept.{line_written, step_taken}
use Rattle.ts_script.specs.ScriptLines.{script_line_limit}
use Rattle.ts_script.specs.ScriptCertificates.{with_line_feeds}
use Rattle.ts_script.specs.Commands.{SetSettings, At, SetPrecision, SetEpoch, Write, Live, Retain, BeginRun, StepRun, SetCertificate, Query, Explain, Count, CountFault, Unknown, is_skipped, command_of}
use Rattle.ts_script.specs.MarksTexts.{marks_text}
use Rattle.ts_script.specs.ScriptReplies.{line, text_of, step_text, written_text, unknown_text, bad_range_text}
use Rattle.ts_script.specs.declared.reply.Reply.{Reply}
use Rattle.ts_script.specs.declared.reply.Reply.TheVariants.{OutOfMemory}
use Rattle.ts_script.specs.Machine.{State, no_longer_fresh, with_certificate, with_store, opened_with, whole_state, with_whole, with_open_run, with_run, RunsWhole, current_marks_text, at_moment, in_precision, in_epoch, Counts, Transition, Step, opens, refuses_settings, opens_no_memory, opens_late, moves, sets, shows, writes, writes_no_memory, retains, refuses_retain, retains_no_memory, begins, refuses_begin, begins_no_memory, steps, steps_idle, sets_certificate, sets_certificate_no_memory, replies, replies_no_memory, explains, explains_no_memory, tells_live, counts, counts_nothing, refuses_count, refuses_unknown, too_long, no_text, skips, does}
use Rattle.ts_script.specs.MachineState.{MachineState, keeping, IsMachineIn, HasReply, HasExplanation, TransitionTo, Refused, StepTo}

-- ---- writing

-- a machine of these parts
abbrev pub serving : ℤ → TimeUnit → Epoch → Bool → Option Text → StoreData → MachineState
serving t p e f c k = record { moment = t; precision = p; epoch = e; fresh = f; certificate = c; kept = k }

-- a machine whose store is in this state
pub storing : (s : State) (m : MachineState) (new : StoreState) (k : StoreData) → IsMachineIn s m → IsStoreIn new k → IsMachineIn (with_store new (inventory_of k) s) (keeping k m)
storing s m new k i is = record { moment = i.moment; precision = i.precision; epoch = i.epoch; fresh = i.fresh; certificate = i.certificate; store = is; inventory = refl }

-- the same, with the inventory
pub storing_whole : (s : State) (m : MachineState) (new : WholeState) (k : StoreData) → IsMachineIn s m → IsWholeStateOf new k → IsMachineIn (with_whole new s) (keeping k m)
storing_whole s m new k i is = record { moment = i.moment; precision = i.precision; epoch = i.epoch; fresh = i.fresh; certificate = i.certificate; store = is.store; inventory = is.inventory }

pub whole_in : (s : State) (m : MachineState) → IsMachineIn s m → IsWholeStateOf (whole_state s) m.kept
whole_in s m i = record { store = i.store; inventory = i.inventory }

wrote_as : {E : Type 0} (text : Text) (r : Result LineOutcome E) (s : State) (m : MachineState) (k : StoreData) → IsMachineIn s m → LineWrites s.precision s.moment (whole_state s) text r k → TransitionTo (Write text) s (written_text r) (keeping k m)
wrote_as text (Ok outcome) s m k i w = (with_whole w.0 s, writes text outcome w.0 w.1, storing_whole s m w.0 k i w.2)
wrote_as text (Err e) s m k i w = (with_whole w.0 s, writes_no_memory text w.0 w.1, storing_whole s m w.0 k i w.2)

-- the effect of a text is one in the state's precision, at its moment
pub wrote : {E : Type 0} (text : Text) (r : Result LineOutcome E) (s : State) (m : MachineState) (k : StoreData) → IsMachineIn s m → ((t : StoreState) → IsStoreIn t m.kept → WritesFrom m.precision m.moment t text r k)
    → GrowsAfter (store_settings m.kept).rules (store_marks m.kept).lows (facts_of_text (parts_in m.precision m.moment text)) r (inventory_of m.kept) (inventory_of k) → TransitionTo (Write text) s (written_text r) (keeping k m)
wrote {E} text r s m k i each grows =
    let w = line_written {E = E} m.precision m.moment text r m.kept k each grows (whole_state s) (whole_in s m i) in
    wrote_as {E = E} text r s m k i (subst (λ (t : ℤ). LineWrites s.precision t (whole_state s) text {E = E} r k) i.moment (subst (λ (p : TimeUnit). LineWrites p m.moment (whole_state s) text {E = E} r k) i.precision w))

-- ---- the other commands

pub moved : (t : ℤ) (s : State) (m : MachineState) → IsMachineIn s m → TransitionTo (At t) s [] (record m { moment = t })
moved t s m i = (
  at_moment t s,
  moves t,
  record { moment = refl; precision = i.precision; epoch = i.epoch; fresh = i.fresh; certificate = i.certificate; store = i.store; inventory = i.inventory },
)

pub was_set : (p : TimeUnit) (s : State) (m : MachineState) → IsMachineIn s m → TransitionTo (SetPrecision p) s [] (record m { precision = p })
was_set p s m i = (
  in_precision p s,
  sets p,
  record { moment = i.moment; precision = refl; epoch = i.epoch; fresh = i.fresh; certificate = i.certificate; store = i.store; inventory = i.inventory },
)

pub was_shown : (e : Epoch) (s : State) (m : MachineState) → IsMachineIn s m → TransitionTo (SetEpoch e) s [] (record m { epoch = e })
was_shown e s m i = (
  in_epoch e s,
  shows e,
  record { moment = i.moment; precision = i.precision; epoch = refl; fresh = i.fresh; certificate = i.certificate; store = i.store; inventory = i.inventory },
)

pub was_counted : (measurement field answer : Text) (a b : ℤ) (s : State) (m : MachineState) → IsMachineIn s m → a <ℤ b → OfEachHistory m.kept (λ opening h. Counts opening h measurement field a b answer) → TransitionTo (Count measurement field a b) s answer m
was_counted measurement field answer a b s m i some each = (s, counts measurement field answer a b some (each s.store.opening s.store.history i.store.stands), i)

pub none_counted : (measurement field : Text) (a b : ℤ) (s : State) (m : MachineState) → IsMachineIn s m → b ≤ℤ a → TransitionTo (Count measurement field a b) s (line (codes "0")) m
none_counted measurement field a b s m i none = (s, counts_nothing measurement field a b none, i)

-- ---- settings

pub was_opened : (text : Text) (settings : Settings) (s : State) (m : MachineState) (k : StoreData) → IsMachineIn s m → m.fresh ≡ true → settings_read text ≡ Ok settings → IsStoreIn (opened_store settings) k → inventory_of k ≡ new_inventory settings → TransitionTo (SetSettings text) s [] (keeping k m)
was_opened text settings s m k i fresh read empty none = (
  opened_with settings s,
  opens text settings (sym i.fresh ∙ fresh) read,
  record { moment = i.moment; precision = i.precision; epoch = i.epoch; fresh = i.fresh; certificate = i.certificate; store = empty; inventory = none },
)

pub opened_no_memory : (text : Text) (s : State) (m : MachineState) → IsMachineIn s m → m.fresh ≡ true → TransitionTo (SetSettings text) s (line memory_text) m
opened_no_memory text s m i fresh = (s, opens_no_memory text (sym i.fresh ∙ fresh), i)

pub settings_refused : (text : Text) (answer : Reply) (fault : SettingsFault) (s : State) (m : MachineState) → IsMachineIn s m → m.fresh ≡ true → settings_read text ≡ Err fault
    → (text_of answer ≡ line (settings_fault_text fault)) ⊎ (answer ≡ OutOfMemory) → TransitionTo (SetSettings text) s (text_of answer) m
settings_refused text answer fault s m i fresh read told =
    elim told as (λ _. TransitionTo (SetSettings text) s (text_of answer) m) [
      | inl is ↦ (s, subst (λ (a : Text). Transition s (SetSettings text) a s) (sym is) (refuses_settings text fault (sym i.fresh ∙ fresh) read), i)
      | inr want ↦ subst (λ (a : Reply). TransitionTo (SetSettings text) s (text_of a) m) (sym want) (opened_no_memory text s m i fresh)
    ]

pub opened_late : (text : Text) (s : State) (m : MachineState) → IsMachineIn s m → m.fresh ≡ false → TransitionTo (SetSettings text) s (line unknown_text) m
opened_late text s m i late = (s, opens_late text (sym i.fresh ∙ late), i)

-- ---- retention

-- steps leave the marks
steps_marks : (opening : Settings) (n : ℕ) (h : History) → marks_of opening (steps_taken n h) ≡ marks_of opening h
steps_marks opening zero h = refl
steps_marks opening (suc n) h = steps_marks opening n h

-- no run is open
abbrev IsClosed : State → Type 0
IsClosed s = IsRunOpen s.store.history → ⊥

pub retained : (answer : Text) (s : State) (m : MachineState) (k : StoreData) → IsMachineIn s m → IsClosed s → Retains m.moment m.kept k → answer ≡ line (marks_text (store_settings k) (store_marks k)) → TransitionTo Retain s answer (keeping k m)
retained answer s m k i idle r told =
    let stands : StandsFor s.store.opening (whole_run s.moment r.steps s.store.history) (state_of k) = subst (λ (t : ℤ). StandsFor s.store.opening (whole_run t r.steps s.store.history) (state_of k)) i.moment (r.history s.store.opening s.store.history i.store.stands) in
    let new : State = with_run r.steps (inventory_of k) s in
    let marks : answer ≡ line (current_marks_text new) = told ∙ (λ j. line (marks_text (stands.settings j) (stands.marks j))) in
    let lows : (store_marks k).lows ≡ lows_in (with_begin s.moment (whole_state s)) = ap (λ (z : Marks). z.lows) (stands.marks ∙ steps_marks s.store.opening r.steps (Begin s.moment ∷ s.store.history)) in
    let whole : RunsWhole s r.steps (inventory_of k) = record {
      count = r.inventory_steps ∙ (λ j. steps_in (lows j) (all_waiting (i.inventory j)));
      left = subst (λ (z : Inventory). LeavesRecent (rules_in (whole_state s)) (lows_in (with_begin s.moment (whole_state s))) z (inventory_of k)) i.inventory
          (subst (λ (ls : List ℤ). LeavesRecent (rules_in (whole_state s)) ls (inventory_of m.kept) (inventory_of k)) lows
          (subst (λ (z : Settings). LeavesRecent z.rules (store_marks k).lows (inventory_of m.kept) (inventory_of k)) i.store.stands.settings r.inventory));
    } in (
      new,
      subst (λ (a : Text). Transition s Retain a new) (sym marks) (retains r.steps (inventory_of k) idle whole),
      storing s m new.store k i (record { stands = stands; series = r.series ∙ i.store.series }),
    )

pub retained_no_memory : (s : State) (m : MachineState) → IsMachineIn s m → TransitionTo Retain s (line memory_text) m
retained_no_memory s m i = (s, retains_no_memory, i)

pub begun : (answer : Text) (s : State) (m : MachineState) (k : StoreData) → IsMachineIn s m → IsClosed s → k ≡ run_begun m.moment m.kept → GoesOn m.kept (Begin m.moment) k → answer ≡ line (marks_text (store_settings k) (store_marks k)) → TransitionTo BeginRun s answer (keeping k m)
begun answer s m k i idle is goes told =
    let stands : StandsFor s.store.opening (Begin s.moment ∷ s.store.history) (state_of k) = subst (λ (t : ℤ). StandsFor s.store.opening (Begin t ∷ s.store.history) (state_of k)) i.moment (goes s.store.opening s.store.history i.store.stands) in
    let marks : answer ≡ line (current_marks_text (with_open_run s)) = told ∙ (λ j. line (marks_text (stands.settings j) (stands.marks j))) in (
      with_open_run s,
      subst (λ (a : Text). Transition s BeginRun a (with_open_run s)) (sym marks) (begins idle),
      record {
        moment = i.moment;
        precision = i.precision;
        epoch = i.epoch;
        fresh = i.fresh;
        certificate = i.certificate;
        store = record { stands = stands; series = ap (λ (z : StoreData). z.series) is ∙ i.store.series };
        inventory = ap inventory_of is ∙ begun_waiting m.moment m.kept ∙ ap all_waiting i.inventory;
      },
    )

pub begun_no_memory : (s : State) (m : MachineState) → IsMachineIn s m → TransitionTo BeginRun s (line memory_text) m
begun_no_memory s m i = (s, begins_no_memory, i)

pub when_ok : {T E : Type 0} (r : Result T E) (P : Type 0) → OnOk r P → is_err r ≡ false → P
when_ok {T} {E} (Ok x) P ok none = ok
when_ok {T} {E} (Err x) P ok none = absurd (true≢false none)

pub when_err : {T E : Type 0} (r : Result T E) (P : Type 0) → OnErr r P → is_err r ≡ true → P
when_err {T} {E} (Ok x) P err some = absurd (true≢false (sym some))
when_err {T} {E} (Err x) P err some = err

-- a call that began a run found none open
pub was_closed : {T E : Type 0} (r : Result T E) (s : State) (m : MachineState) → IsMachineIn s m → IsErr r ↔ IsTrue m.kept.running → is_err r ≡ false → IsClosed s
was_closed r s m i refused none = λ runs. true≢false (sym (refused.1 (i.store.stands.running.1 runs)) ∙ none)

-- a call was refused, since a run is open
pub retain_refused : {T E : Type 0} (r : Result T E) (s : State) (m : MachineState) (k : StoreData) → IsMachineIn s m → IsErr r ↔ IsTrue m.kept.running → OnErr r (k ≡ m.kept) → is_err r ≡ true → TransitionTo Retain s (line run_in_progress_text) (keeping k m)
retain_refused r s m k i refused same some = (s, refuses_retain (i.store.stands.running.0 (refused.0 some)), subst (λ (z : StoreData). IsMachineIn s (keeping z m)) (sym (when_err r (k ≡ m.kept) same some)) i)

pub begin_refused : {T E : Type 0} (r : Result T E) (s : State) (m : MachineState) (k : StoreData) → IsMachineIn s m → IsErr r ↔ IsTrue m.kept.running → OnErr r (k ≡ m.kept) → is_err r ≡ true → TransitionTo BeginRun s (line run_in_progress_text) (keeping k m)
begin_refused r s m k i refused same some = (s, refuses_begin (i.store.stands.running.0 (refused.0 some)), subst (λ (z : StoreData). IsMachineIn s (keeping z m)) (sym (when_err r (k ≡ m.kept) same some)) i)

-- ---- steps

stepped_by : (running : Bool) (answer : StepAnswer) (s : State) (m : MachineState) (k : StoreData) → m.kept.running ≡ running → IsMachineIn s m → TakesStep m.kept k answer → TransitionTo StepRun s (step_text answer) (keeping k m)
stepped_by true answer s m k e i t =
    let d = step_taken answer (whole_state s) m.kept k e t (whole_in s m i) in
    (with_whole d.0 s, steps answer d.0 (i.store.stands.running.0 e) d.1, storing_whole s m d.0 k i d.2)
stepped_by false answer s m k e i t =
    let none : IsRunOpen s.store.history → ⊥ = λ runs. true≢false (sym (i.store.stands.running.1 runs) ∙ e) in
    let idle = t.idle e in (
      s,
      subst (λ (a : StepAnswer). Transition s StepRun (step_text a) s) (sym idle.0) (steps_idle none),
      subst (λ (z : StoreData). IsMachineIn s (keeping z m)) (sym idle.1) i,
    )

pub stepped : (answer : StepAnswer) (s : State) (m : MachineState) (k : StoreData) → IsMachineIn s m → TakesStep m.kept k answer → TransitionTo StepRun s (step_text answer) (keeping k m)
stepped answer s m k i t = stepped_by m.kept.running answer s m k refl i t

-- ---- certificates and queries

-- a machine with this certificate instead of its own
abbrev pub holding : Option Text → MachineState → MachineState
holding certificate m = record m { certificate = certificate }

pub held : (certificate : Option Text) (s : State) (m : MachineState) → IsMachineIn s m → IsMachineIn (with_certificate certificate s) (holding certificate m)
held certificate s m i = record { moment = i.moment; precision = i.precision; epoch = i.epoch; fresh = i.fresh; certificate = refl; store = i.store; inventory = i.inventory }

pub was_given : (text certificate : Text) (s : State) (m : MachineState) → IsMachineIn s m → certificate ≡ with_line_feeds text → TransitionTo (SetCertificate text) s [] (holding (Some certificate) m)
was_given text certificate s m i e = (
  with_certificate (Some certificate) s,
  subst (λ (c : Text). Transition s (SetCertificate text) [] (with_certificate (Some c) s)) (sym e) (sets_certificate text),
  held (Some certificate) s m i,
)

pub given_no_memory : (text : Text) (s : State) (m : MachineState) → IsMachineIn s m → TransitionTo (SetCertificate text) s (line memory_text) m
given_no_memory text s m i = (s, sets_certificate_no_memory text, i)

-- the body of a reply, or of an explanation, with an LF
pub reply_ended : {X E : Type 0} (r : Result X E) (bytes : X → Text) (text body : Text) (certificate : Option Text) (good : Bool) (m : MachineState) → IfOk r (λ x. bytes x ≡ line body)
    → OfEachHistory m.kept (λ opening h. IsReply opening h m.moment text certificate m.epoch good body) → IfOk r (λ x. (s : State) → IsMachineIn s m → HasReply s text certificate (bytes x))
reply_ended {X} {E} (Err x) bytes text body certificate good m e each = tt
reply_ended {X} {E} (Ok x) bytes text body certificate good m e each = λ s i.
    let reply : IsReply s.store.opening s.store.history s.moment text certificate s.epoch good body = subst (λ (t : ℤ). IsReply s.store.opening s.store.history t text certificate s.epoch good body) i.moment
    (subst (λ (u : Epoch). IsReply s.store.opening s.store.history m.moment text certificate u good body) i.epoch (each s.store.opening s.store.history i.store.stands)) in
    (body, (good, reply), e)

pub explanation_ended : {X E : Type 0} (r : Result X E) (bytes : X → Text) (text body : Text) (good : Bool) (m : MachineState) → IfOk r (λ x. bytes x ≡ line body)
    → OfEachHistory m.kept (λ opening h. IsExplanation opening h m.moment text good body) → IfOk r (λ x. (s : State) → IsMachineIn s m → HasExplanation s text (bytes x))
explanation_ended {X} {E} (Err x) bytes text body good m e each = tt
explanation_ended {X} {E} (Ok x) bytes text body good m e each = λ s i.
    (body, (good, subst (λ (t : ℤ). IsExplanation s.store.opening s.store.history t text good body) i.moment (each s.store.opening s.store.history i.store.stands)), e)

-- the certificate is forgotten
forgotten : (after : Option Text) (s : State) (m : MachineState) → IsMachineIn s m → after ≡ None → IsMachineIn (with_certificate None s) (holding after m)
forgotten after s m i none = subst (λ (k : Option Text). IsMachineIn (with_certificate None s) (holding k m)) (sym none) (held None s m i)

pub was_replied : (text answer : Text) (certificate after : Option Text) (s : State) (m : MachineState) → IsMachineIn s m → certificate ≡ m.certificate → after ≡ None
    → ((t : State) → IsMachineIn t (holding after m) → HasReply t text certificate answer) → TransitionTo (Query text) s answer (holding after m)
was_replied text answer certificate after s m i own none each =
    let here : IsMachineIn (with_certificate None s) (holding after m) = forgotten after s m i none in
    let r = each (with_certificate None s) here in
    let reply : IsReply s.store.opening s.store.history s.moment text s.certificate s.epoch r.1.0 r.0 = subst (λ (c : Option Text). IsReply s.store.opening s.store.history s.moment text c s.epoch r.1.0 r.0) (own ∙ i.certificate) r.1.1 in
    (with_certificate None s, subst (λ (a : Text). Transition s (Query text) a (with_certificate None s)) (sym r.2) (replies text r.0 r.1.0 reply), here)

pub replied_no_memory : (text : Text) (after : Option Text) (s : State) (m : MachineState) → IsMachineIn s m → after ≡ None → TransitionTo (Query text) s (line memory_text) (holding after m)
replied_no_memory text after s m i none = (with_certificate None s, replies_no_memory text, forgotten after s m i none)

pub was_explained : (text answer : Text) (s : State) (m : MachineState) → IsMachineIn s m → HasExplanation s text answer → TransitionTo (Explain text) s answer m
was_explained text answer s m i r = (s, subst (λ (a : Text). Transition s (Explain text) a s) (sym r.2) (explains text r.0 r.1.0 r.1.1), i)

pub explained_no_memory : (text : Text) (s : State) (m : MachineState) → IsMachineIn s m → TransitionTo (Explain text) s (line memory_text) m
explained_no_memory text s m i = (s, explains_no_memory text, i)

pub told_live : (n : ℕ) (s : State) (m : MachineState) → IsMachineIn s m → OfEachHistory m.kept (λ opening h. n ≡ length (all_raw m.kept.waiting opening h)) → TransitionTo Live s (line (decimal n)) m
told_live n s m i each =
    let same : n ≡ length (all_raw s.inventory.waiting s.store.opening s.store.history) = each s.store.opening s.store.history i.store.stands ∙ ap (λ (z : Inventory). length (all_raw z.waiting s.store.opening s.store.history)) i.inventory in
    (s, subst (λ (k : ℕ). Transition s Live (line (decimal k)) s) (sym same) tells_live, i)

pub count_refused : (s : State) (m : MachineState) → IsMachineIn s m → TransitionTo CountFault s (line bad_range_text) m
count_refused s m i = (s, refuses_count, i)

pub not_known : (s : State) (m : MachineState) → IsMachineIn s m → TransitionTo Unknown s (line unknown_text) m
not_known s m i = (s, refuses_unknown, i)

-- ---- lines

-- settings may no longer come
begun_in : (s : State) (m : MachineState) → IsMachineIn s m → IsMachineIn (no_longer_fresh s) (record m { fresh = false })
begun_in s m i = record { moment = i.moment; precision = i.precision; epoch = i.epoch; fresh = refl; certificate = i.certificate; store = i.store; inventory = i.inventory }

pub did_it : (bytes answer : Text) (s : State) (m : MachineState) → length bytes ≤ script_line_limit → IsUtf8 bytes → is_skipped bytes ≡ false → TransitionTo (command_of bytes) s answer m → StepTo bytes s answer (record m { fresh = false })
did_it bytes answer s m short text some d = (no_longer_fresh d.0, does bytes answer d.0 short text some d.1, begun_in d.0 m d.2)

pub was_skipped : (bytes : Text) (s : State) (m : MachineState) → length bytes ≤ script_line_limit → IsUtf8 bytes → is_skipped bytes ≡ true → IsMachineIn s m → StepTo bytes s [] m
was_skipped bytes s m short text none i = (s, skips bytes short text none, i)

pub was_not_read : (s : State) (m : MachineState) → IsMachineIn s m → Refused s (line unknown_text) (record m { fresh = false })
was_not_read s m i = (refl, begun_in s m i)

pub was_no_text : (bytes answer : Text) (s : State) (m : MachineState) → (IsUtf8 bytes → ⊥) → Refused s answer m → StepTo bytes s answer m
was_no_text bytes answer s m not_text r = (no_longer_fresh s, subst (λ (a : Text). Step s bytes a (no_longer_fresh s)) (sym r.0) (no_text bytes not_text), r.1)

pub was_too_long : (text answer : Text) (s : State) (m : MachineState) → script_line_limit < length text → Refused s answer m → StepTo text s answer m
was_too_long text answer s m long r = (no_longer_fresh s, subst (λ (a : Text). Step s text a (no_longer_fresh s)) (sym r.0) (too_long text long), r.1)
