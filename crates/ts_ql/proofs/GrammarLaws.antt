-- Reading by the machine: exactly the texts of the grammar, up to the first fault of any other.
use Rattle.std.proofs.Common.{◌≡◌, ◌⊎◌, inl, inr, ℤ, List, [], ◌∷◌, ◌++◌, map, Bool, true, false, Some, None, Result, Ok, Err, refl, sym, ap, ◌∙◌, subst, append_assoc, arith}
use Rattle.std.proofs.lemmas.List.{append-nil}
use Rattle.ts_ql.specs.declared.state.State.{State}
use Rattle.ts_ql.specs.declared.state.State.TheVariants as states
use Rattle.ts_ql.specs.declared.token.Kind.{Kind}
use Rattle.ts_ql.specs.declared.token.Kind.TheVariants as kinds
use Rattle.ts_ql.specs.QueryFaults.{Fault, unexpected}
use Rattle.ts_ql.specs.Grammar.{Script}
use Rattle.ts_ql.specs.Laws.{Reach, Within, Whole, At, ReadsTokens, Says, MayBecome, HasFault, IsFirstQueryFault}
use Rattle.ts_ql.specs.Meanings.{script_queries}
use Rattle.ts_ql.specs.MomentSteps.{narrowed, bounded_by, moment_time, moment_step, moment_at}
use Rattle.ts_ql.specs.Reading.{Progress, Advance, start_progress, finish_time_at, finish_time_step, narrowed_in, step, is_done, after_finishing_time, builder_step, next_clause}
use Rattle.ts_ql.specs.Selects.{Select}
use Rattle.ts_ql.specs.Productions.{spell}
use Rattle.ts_ql.specs.Tokens.{Lexeme}
use Rattle.ts_ql.proofs.Completions.{completes}
use Rattle.ts_ql.proofs.CountLemmas.{Counts, counts}
use Rattle.ts_ql.proofs.MachineAnswers.{answers}
use Rattle.ts_ql.proofs.MachineLeads.{CountedAt, leads}
use Rattle.ts_ql.proofs.MomentRuns.{timing}
use Rattle.ts_ql.proofs.Rests.{Rest, left, all_said, Sound, Suits}
use Rattle.ts_ql.proofs.RunLemmas.{run, run_then, split, run-append_ok, run-append_err}
use Rattle.ts_ql.proofs.StandLemmas.{stands}
use Rattle.ts_ql.proofs.Steps.{at, Answer, Faulty, Leads, IsPending, IsPendingAt, Stands}

-- ---- from trees to the machine

-- at the end of the tokens the machine is in a state with a rest, or at the fault
abbrev Met : ℤ → Reach → List (Result Select Fault) → Advance → Type 0
Met now reach said r =
    ((n : Progress) × (q : Rest n.state) × (r ≡ Ok n) × Stands reach n × (said ≡ all_said now n q)) ⊎ ((f : Fault) × (reach ≡ At f) × (r ≡ Err f))

run_meets : (ts : List Lexeme) (now : ℤ) (s : Progress) (q : Rest s.state) (reach : Reach) → Sound s → Suits s q → CountedAt s.state s.count
    → ReadsTokens (left now s q) ts reach → Met now reach (all_said now s q) (run now s ts)
run_meets [] now s q reach sound suits some v = inl (s, q, refl, stands now s q reach v, refl)
run_meets (t ∷ ts) now s q reach sound suits some v =
    elim (step now t s) as (λ r. step now t s ≡ r → Answer now s t r → Leads now s q ts reach r → Counts r → Met now reach (all_said now s q) (run_then (λ (n : Progress). run now n ts) r)) [
      | Ok n ↦ λ e answer led counted.
          subst (λ (said : List (Result Select Fault)). Met now reach said (run now n ts)) (sym led.3)
          (run_meets ts now n led.0 reach answer.0 led.1 counted led.2)
      | Err f ↦ λ e answer led counted. inr (f, led.1, refl)
    ]
    refl (answers now s t sound) (leads now s q t ts reach sound suits some v) (counts now t s some)

-- a tree from the beginning on
tree_meets : (now : ℤ) (script : Script) (ts : List Lexeme) (reach : Reach) → ReadsTokens (spell now script) ts reach → Met now reach (script_queries now script) (run now start_progress ts)
tree_meets now script ts reach v = run_meets ts now start_progress (Some (script.first, script.rest)) reach refl tt tt v

-- ---- from the machine to trees

-- each rest of the state follows the tokens in some tree
pub record Viable (now : ℤ) (s : Progress) (read : List Lexeme) : Type 0 where
  pub sound : Sound s
  pub grows : (q : Rest s.state) → Suits s q → (script : Script)
      × ((ts : List Lexeme) (reach : Reach) → ReadsTokens (left now s q) ts reach → ReadsTokens (spell now script) (read ++ ts) reach) × (script_queries now script ≡ all_said now s q)

start_grows : (now : ℤ) (q : Rest states.Statement) → Suits start_progress q → (script : Script)
    × ((ts : List Lexeme) (reach : Reach) → ReadsTokens (left now start_progress q) ts reach → ReadsTokens (spell now script) ts reach) × (script_queries now script ≡ all_said now start_progress q)
start_grows now None suits = absurd (omega (arith, suits))
start_grows now (Some p) suits = (record { first = p.0; rest = p.1 }, (λ ts reach v. v), refl)

start_viable : (now : ℤ) → Viable now start_progress []
start_viable now = record { sound = refl; grows = λ q suits. start_grows now q suits }

step_viable : (now : ℤ) (s n : Progress) (read : List Lexeme) (t : Lexeme) → Viable now s read → step now t s ≡ Ok n → Viable now n (read ++ t ∷ [])
step_viable now s n read t w e =
    let answer : Answer now s t (Ok n) = subst (λ (r : Advance). Answer now s t r) e (answers now s t w.sound) in
    record {
      sound = answer.0;
      grows = λ q suits.
          let back = answer.1 q suits in
          let tree = w.grows back.0 back.1 in (
            tree.0,
            (λ ts reach v. subst (λ (xs : List Lexeme). ReadsTokens (spell now tree.0) xs reach) (sym (append_assoc read (t ∷ []) ts)) (tree.1 (t ∷ ts) reach (back.2 ts reach v))),
            tree.2 ∙ back.3,
          );
    }

run_viable : (ts : List Lexeme) (now : ℤ) (s n : Progress) (read : List Lexeme) → Viable now s read → run now s ts ≡ Ok n → Viable now n (read ++ ts)
run_viable [] now s n read w e =
    let same : s ≡ n = cc in
    subst (λ (m : Progress). Viable now m (read ++ [])) same (subst (λ (xs : List Lexeme). Viable now s xs) (sym (append-nil read)) w)
run_viable (t ∷ ts) now s n read w e =
    elim (step now t s) as (λ r. step now t s ≡ r → run_then (λ (m : Progress). run now m ts) r ≡ Ok n → Viable now n (read ++ t ∷ ts)) [
      | Ok m ↦ λ took f. subst (λ (xs : List Lexeme). Viable now n xs) (append_assoc read (t ∷ []) ts) (run_viable ts now m n (read ++ t ∷ []) (step_viable now s m read t w took) f)
      | Err g ↦ λ took f. absurd cc
    ]
    refl e

pub viable : (now : ℤ) (n : Progress) (ts : List Lexeme) → run now start_progress ts ≡ Ok n → Viable now n ts
viable now n ts e = run_viable ts now start_progress n [] (start_viable now) e

-- ---- queries

says_at : (p : State) (now : ℤ) (s : Progress) (ts : List Lexeme) → is_done p ≡ true → Viable now (at p s) ts → Says now ts s.queries
says_at states.Done now s ts done w =
    let tree = w.grows tt tt in
    (tree.0, subst (λ (xs : List Lexeme). ReadsTokens (spell now tree.0) xs Whole) (append-nil ts) (tree.1 [] Whole refl), tree.2 ∙ append-nil (map Ok s.queries))
says_at p now s ts done w = absurd cc

pub says : (now : ℤ) (s : Progress) (ts : List Lexeme) → run now start_progress ts ≡ Ok s → is_done s.state ≡ true → Says now ts s.queries
says now s ts e done = says_at s.state now s ts done (viable now s ts e)

oks_same : (xs ys : List Select) → map {B = Result Select Fault} Ok xs ≡ map Ok ys → xs ≡ ys
oks_same [] [] e = refl
oks_same [] (y ∷ ys) e = absurd cc
oks_same (x ∷ xs) [] e = absurd cc
oks_same (x ∷ xs) (y ∷ ys) e = let heads : x ≡ y = cc in let tails : map {B = Result Select Fault} Ok xs ≡ map Ok ys = cc in rw (heads, oks_same xs ys tails) refl

done_said : (p : State) (now : ℤ) (s : Progress) (q : Rest p) → is_done p ≡ true → all_said now (at p s) q ≡ map Ok s.queries
done_said states.Done now s q done = append-nil (map Ok s.queries)
done_said p now s q done = absurd cc

says_by : (now : ℤ) (ts : List Lexeme) (queries : List Select) (w : Says now ts queries) → Met now Whole (script_queries now w.0) (run now start_progress ts)
    → (s : Progress) × (run now start_progress ts ≡ Ok s) × (s.queries ≡ queries)
says_by now ts queries w (inl m) = (m.0, m.2, oks_same m.0.queries queries (sym (done_said m.0.state now m.0 m.1 m.3) ∙ sym m.4 ∙ w.2))
says_by now ts queries w (inr m) = let other : Whole ≡ At m.0 = m.1 in absurd cc

-- tokens that mean queries are read as these
pub says_only : (now : ℤ) (ts : List Lexeme) (queries : List Select) → Says now ts queries → (s : Progress) × (run now start_progress ts ≡ Ok s) × (s.queries ≡ queries)
says_only now ts queries w = says_by now ts queries w (tree_meets now w.0 ts Whole w.1)

-- ---- the first fault

begins_if : (now : ℤ) (s : Progress) (ts : List Lexeme) → Viable now s ts → (b : Bool) → is_done s.state ≡ b → MayBecome now ts
begins_if now s ts w true done = let said = says_at s.state now s ts done w in (said.0, inr said.1)
begins_if now s ts w false live =
    let rest = completes now s live in
    let tree = w.grows rest.0 rest.1 in
    (tree.0, inl (subst (λ (xs : List Lexeme). ReadsTokens (spell now tree.0) xs Within) (append-nil ts) (tree.1 [] Within rest.2)))

-- tokens that the machine takes may go on to be a text
pub begins : (now : ℤ) (s : Progress) (ts : List Lexeme) → run now start_progress ts ≡ Ok s → MayBecome now ts
begins now s ts e = begins_if now s ts (viable now s ts e) (is_done s.state) refl

-- tokens that may go on to be a text are taken
taken_by : (now : ℤ) (said : List (Result Select Fault)) (reach : Reach) (r : Advance) → ((f : Fault) → reach ≡ At f → ⊥) → Met now reach said r → (s : Progress) × (r ≡ Ok s)
taken_by now said reach r fine (inl m) = (m.0, m.2)
taken_by now said reach r fine (inr m) = absurd (fine m.0 m.1)

within_fine : (f : Fault) → Within ≡ At f → ⊥
within_fine f e = cc

whole_fine : (f : Fault) → Whole ≡ At f → ⊥
whole_fine f e = cc

taken : (now : ℤ) (ts : List Lexeme) → MayBecome now ts → (s : Progress) × (run now start_progress ts ≡ Ok s)
taken now ts (script, inl v) = taken_by now (script_queries now script) Within (run now start_progress ts) within_fine (tree_meets now script ts Within v)
taken now ts (script, inr v) = taken_by now (script_queries now script) Whole (run now start_progress ts) whole_fine (tree_meets now script ts Whole v)

-- a moment goes on with plus and minus
plus_taken : (now : ℤ) (s : Progress) (t : Lexeme) → t.kind ≡ kinds.Plus → timing s states.AfterMoment (moment_at now states.AfterMoment t.kind t s.builder.moment) ≡ Ok (at states.MomentPlus s)
plus_taken now s t e =
    subst (λ (k : Kind). timing s states.AfterMoment (moment_at now states.AfterMoment k t s.builder.moment) ≡ Ok (at states.MomentPlus s)) (sym e) refl

minus_taken : (now : ℤ) (s : Progress) (t : Lexeme) → t.kind ≡ kinds.Minus → timing s states.AfterMoment (moment_at now states.AfterMoment t.kind t s.builder.moment) ≡ Ok (at states.MomentLess s)
minus_taken now s t e =
    subst (λ (k : Kind). timing s states.AfterMoment (moment_at now states.AfterMoment k t s.builder.moment) ≡ Ok (at states.MomentLess s)) (sym e) refl

not_refused : (r : Advance) (n : Progress) (f g : Fault) → r ≡ Ok n → r ≡ Err f → f ≡ g
not_refused r n f g fine refused = cc

-- a moment that isn't a valid time is reported before the token that ends it
late_told : (now : ℤ) (s : Progress) (t : Lexeme) (f g : Fault) → moment_time s.builder.moment ≡ Err g
    → after_finishing_time now t (at states.AfterMoment s) (narrowed_in s.builder (narrowed s.builder.moment s.builder.range)) ≡ Err f → f ≡ g
unfolding narrowed
late_told now s t f g late refused =
    let told : after_finishing_time now t (at states.AfterMoment s) (narrowed_in s.builder (narrowed s.builder.moment s.builder.range)) ≡ Err g =
    ap (λ (r : Result ℤ Fault). after_finishing_time now t (at states.AfterMoment s) (narrowed_in s.builder (bounded_by s.builder.moment.comparison s.builder.range r))) late in
    cc

pending_kind : (now : ℤ) (s : Progress) (k : Kind) (t : Lexeme) (f g : Fault) → t.kind ≡ k → moment_time s.builder.moment ≡ Err g
    → after_finishing_time now t (at states.AfterMoment s) (finish_time_at states.AfterMoment k s.builder) ≡ Err f → f ≡ g
unfolding builder_step next_clause moment_step
pending_kind now s kinds.Plus t f g e late refused =
    not_refused (timing s states.AfterMoment (moment_at now states.AfterMoment t.kind t s.builder.moment)) (at states.MomentPlus s) f g (plus_taken now s t e) refused
pending_kind now s kinds.Minus t f g e late refused =
    not_refused (timing s states.AfterMoment (moment_at now states.AfterMoment t.kind t s.builder.moment)) (at states.MomentLess s) f g (minus_taken now s t e) refused
pending_kind now s k t f g e late refused = late_told now s t f g late refused

pending_at : (p : State) (now : ℤ) (s : Progress) (t : Lexeme) (f g : Fault) → IsPendingAt p (at p s) g → step now t (at p s) ≡ Err f → f ≡ g
unfolding step finish_time_step
pending_at states.AfterMoment now s t f g late refused = pending_kind now s t.kind t f g refl late refused
pending_at p now s t f g late refused = absurd late

-- the check that fails at a token that the machine refuses is the fault that it reports
examined_by : (now : ℤ) (said : List (Result Select Fault)) (s : Progress) (t : Lexeme) (f other : Fault) (r : Advance) → r ≡ Ok s → step now t s ≡ Err f → Met now (At other) said r → f ≡ other
examined_by now said s t f other r runs refused (inl m) =
    let same : m.0 ≡ s = cc in
    pending_at s.state now s t f other (subst (λ (n : Progress). IsPending n other) same m.3) refused
examined_by now said s t f other r runs refused (inr m) = absurd cc

examined_with : (now : ℤ) (said : List (Result Select Fault)) (f other : Fault) (r : Advance) → r ≡ Err f → Met now (At other) said r → f ≡ other
examined_with now said f other r refused (inl m) = absurd cc
examined_with now said f other r refused (inr m) = let same : At other ≡ At m.0 = m.1 in cc

run_refused : (now : ℤ) (s : Progress) (front : List Lexeme) (t : Lexeme) (f : Fault) → run now start_progress front ≡ Ok s → step now t s ≡ Err f
    → run now start_progress (front ++ t ∷ []) ≡ Err f
run_refused now s front t f runs refused = run-append_ok now start_progress s front (t ∷ []) runs ∙ ap (run_then (λ (n : Progress). run now n [])) refused

examined : (now : ℤ) (s : Progress) (front : List Lexeme) (t : Lexeme) (f other : Fault) → run now start_progress front ≡ Ok s → step now t s ≡ Err f
    → HasFault now front t other → f ≡ other
examined now s front t f other runs refused (script, inl v) =
    examined_by now (script_queries now script) s t f other (run now start_progress front) runs refused (tree_meets now script front (At other) v)
examined now s front t f other runs refused (script, inr v) =
    examined_with now (script_queries now script) f other (run now start_progress (front ++ t ∷ [])) (run_refused now s front t f runs refused) (tree_meets now script (front ++ t ∷ []) (At other) v)

-- a fault of the tokens so far is one of some tree
faulty : (now : ℤ) (s : Progress) (front : List Lexeme) (t : Lexeme) (f : Fault) → Viable now s front → Faulty now s t f → HasFault now front t f
faulty now s front t f w (q, suits, inl v) =
    let tree = w.grows q suits in
    (tree.0, inl (subst (λ (xs : List Lexeme). ReadsTokens (spell now tree.0) xs (At f)) (append-nil front) (tree.1 [] (At f) v)))
faulty now s front t f w (q, suits, inr v) = let tree = w.grows q suits in (tree.0, inr (tree.1 (t ∷ []) (At f) v))

known_by : (now : ℤ) (s : Progress) (front : List Lexeme) (t : Lexeme) (f : Fault) → Viable now s front → Answer now s t (Err f) → HasFault now front t f ⊎ (f ≡ unexpected t)
known_by now s front t f w (inl v) = inl (faulty now s front t f w v)
known_by now s front t f w (inr same) = inr same

known : (now : ℤ) (s : Progress) (front : List Lexeme) (t : Lexeme) (f : Fault) → run now start_progress front ≡ Ok s → step now t s ≡ Err f → HasFault now front t f ⊎ (f ≡ unexpected t)
known now s front t f runs refused =
    let w : Viable now s front = viable now s front runs in
    known_by now s front t f w (subst (λ (r : Advance). Answer now s t r) refused (answers now s t w.sound))

refused_ends : (now : ℤ) (s : Progress) (front : List Lexeme) (t : Lexeme) (f : Fault) → run now start_progress front ≡ Ok s → step now t s ≡ Err f → MayBecome now (front ++ t ∷ []) → ⊥
refused_ends now s front t f runs refused may =
    let m = taken now (front ++ t ∷ []) may in
    let fault : run now start_progress (front ++ t ∷ []) ≡ Err f = run_refused now s front t f runs refused in
    let fine : run now start_progress (front ++ t ∷ []) ≡ Ok m.0 = m.1 in
    cc

pub first_fault : (now : ℤ) (ts : List Lexeme) (f : Fault) → run now start_progress ts ≡ Err f → IsFirstQueryFault now ts f
first_fault now ts f e =
    let w = split now start_progress ts f e in
    record {
      before = w.front;
      token = w.token;
      after = w.back;
      parts = w.parts;
      begins = begins now w.before w.front w.runs;
      ends = refused_ends now w.before w.front w.token f w.runs w.refused;
      examined = λ other has. examined now w.before w.front w.token f other w.runs w.refused has;
      known = known now w.before w.front w.token f w.runs w.refused;
    }

-- a first fault is the one that the machine reports
same_fault : (now : ℤ) (ts : List Lexeme) (f : Fault) (w : IsFirstQueryFault now ts f) (s : Progress) → run now start_progress w.before ≡ Ok s → (g : Fault) → step now w.token s ≡ Err g
    → HasFault now w.before w.token f ⊎ (f ≡ unexpected w.token) → HasFault now w.before w.token g ⊎ (g ≡ unexpected w.token) → f ≡ g
same_fault now ts f w s runs g e (inl has) other = sym (examined now s w.before w.token g f runs e has)
same_fault now ts f w s runs g e (inr same) (inl has) = w.examined g has
same_fault now ts f w s runs g e (inr same) (inr told) = same ∙ sym told

refused_as : (now : ℤ) (ts : List Lexeme) (f : Fault) (w : IsFirstQueryFault now ts f) (s : Progress) → run now start_progress w.before ≡ Ok s → (r : Advance) → step now w.token s ≡ r
    → run now start_progress ts ≡ Err f
refused_as now ts f w s runs (Ok n) e =
    let taken : run now start_progress (w.before ++ w.token ∷ []) ≡ Ok n = run-append_ok now start_progress s w.before (w.token ∷ []) runs ∙ ap (run_then (λ (m : Progress). run now m [])) e in
    absurd (w.ends (begins now n (w.before ++ w.token ∷ []) taken))
refused_as now ts f w s runs (Err g) e =
    let same : f ≡ g = same_fault now ts f w s runs g e w.known (known now s w.before w.token g runs e) in
    let short : run now start_progress (w.before ++ w.token ∷ []) ≡ Err g = run_refused now s w.before w.token g runs e in
    let whole : (w.before ++ w.token ∷ []) ++ w.after ≡ ts = append_assoc w.before (w.token ∷ []) w.after ∙ sym w.parts in
    ap (λ (xs : List Lexeme). run now start_progress xs) (sym whole) ∙ run-append_err now start_progress (w.before ++ w.token ∷ []) w.after g short ∙ ap Err (sym same)

pub fault_only : (now : ℤ) (ts : List Lexeme) (f : Fault) → IsFirstQueryFault now ts f → run now start_progress ts ≡ Err f
fault_only now ts f w =
    let m = taken now w.before w.begins in
    refused_as now ts f w m.0 m.1 (step now w.token m.0) refl
