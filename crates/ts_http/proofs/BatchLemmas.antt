-- The lines of a batch, one by one.
use Rattle.std.proofs.Common.{◌≡◌, ◌≢◌, ℕ, ℤ, suc, ◌+◌, ◌<◌, ◌==◌, cond, List, [], ◌∷◌, ◌++◌, length, map, get_or, Option, Some, None, option_map, Ok, Err, refl, sym, ap, ◌∙◌, subst, arith, append_assoc, append-nil, length-append}
use Rattle.std.proofs.lemmas.Bool.Decides.{nat_tests}
use Rattle.std.proofs.lemmas.List.{map-append}
use Rattle.ts_core.specs.facts.Facts.{Text}
use Rattle.ts_core.specs.store.StoreData.{StoreData}
use Rattle.ts_core.specs.declared.facts.time_unit.TimeUnit.{TimeUnit}
use Rattle.ts_store.specs.write.LineTexts.{refusal_of, refusal_text, line_refusal_text}
use Rattle.ts_store.specs.store.WholeStates.{WholeState, IsWholeStateOf, TakesText, LineWrites}
use Rattle.ts_store.specs.declared.write.write_text.LineOutcome.{LineOutcome}
use Rattle.ts_store.specs.declared.write.write_text.LineRefusal.{LineRefusal}
use Rattle.ts_http.specs.Batches.{TakesLines, body_lines, onto_first_reply, refusals_from}
use Rattle.ts_http.specs.Tallies.{TallyIs, WritesLines, numbered_refusal, first_of}
use Rattle.ts_http.specs.declared.batch.BatchTally.{BatchTally}

-- ---- tallies

more_none : (n : ℕ) (os : List (Option Text)) → refusals_from n (os ++ None ∷ []) ≡ refusals_from n os
more_none n [] = refl
more_none n (None ∷ os) = more_none (n + 1) os
more_none n (Some t ∷ os) = ap (λ (l : List (ℕ × Text)). (n, t) ∷ l) (more_none (n + 1) os)

more_some : (n m : ℕ) (t : Text) (os : List (Option Text)) → m ≡ n + length os → refusals_from n (os ++ Some t ∷ []) ≡ refusals_from n os ++ (m, t) ∷ []
more_some n m t [] e = ap (λ (k : ℕ). (k, t) ∷ []) (omega (arith, e))
more_some n m t (None ∷ os) e = more_some (n + 1) m t os (omega (arith, e))
more_some n m t (Some u ∷ os) e = ap (λ (l : List (ℕ × Text)). (n, u) ∷ l) (more_some (n + 1) m t os (omega (arith, e)))

pub counted_none : (os : List (Option Text)) (t : BatchTally) → TallyIs os t → TallyIs (os ++ None ∷ []) (record { lines = t.lines + 1; dropped = t.dropped; first = t.first })
counted_none os t is = record {
  lines = omega (arith, is.lines, length-append os (None ∷ []));
  dropped = is.dropped ∙ sym (ap length (more_none 1 os));
  first = is.first ∙ sym (ap first_of (more_none 1 os));
}

first_stays : (xs : List (ℕ × Text)) (x y : ℕ × Text) → Some x ≡ first_of xs → Some x ≡ first_of (xs ++ y ∷ [])
first_stays [] x y e = absurd cc
first_stays (z ∷ xs) x y e = e

first_comes : (xs : List (ℕ × Text)) (y : ℕ × Text) → None ≡ first_of xs → Some y ≡ first_of (xs ++ y ∷ [])
first_comes [] y e = refl
first_comes (z ∷ xs) y e = absurd cc

counted_first : (os : List (Option Text)) (lines : ℕ) (r : LineRefusal) (first : Option (ℕ × LineRefusal)) → first ≡ None → lines ≡ length os → option_map numbered_refusal first ≡ first_of (refusals_from 1 os)
    → Some (numbered_refusal (lines + 1, r)) ≡ first_of (refusals_from 1 (os ++ Some (line_refusal_text r) ∷ []))
counted_first os lines r first none e is =
    first_comes (refusals_from 1 os) (lines + 1, line_refusal_text r) (sym (ap (option_map numbered_refusal) none) ∙ is) ∙ sym (ap first_of (more_some 1 (lines + 1) (line_refusal_text r) os (omega (arith, e))))

counted_again : (os : List (Option Text)) (lines : ℕ) (text : Text) (first : Option (ℕ × LineRefusal)) → first ≢ None → lines ≡ length os → option_map numbered_refusal first ≡ first_of (refusals_from 1 os)
    → option_map numbered_refusal first ≡ first_of (refusals_from 1 (os ++ Some text ∷ []))
counted_again os lines text None some e is = absurd (some refl)
counted_again os lines text (Some x) some e is =
    first_stays (refusals_from 1 os) (numbered_refusal x) (lines + 1, text) is ∙ sym (ap first_of (more_some 1 (lines + 1) text os (omega (arith, e))))

one_dropped : (os : List (Option Text)) (text : Text) (dropped lines : ℕ) → lines ≡ length os → dropped ≡ length (refusals_from 1 os) → dropped + 1 ≡ length (refusals_from 1 (os ++ Some text ∷ []))
one_dropped os text dropped lines l d =
    omega (arith, d, ap length (more_some 1 (lines + 1) text os (omega (arith, l))), length-append (refusals_from 1 os) ((lines + 1, text) ∷ []))

pub counted_some_first : (os : List (Option Text)) (t : BatchTally) (r : LineRefusal) → t.first ≡ None → TallyIs os t → TallyIs (os ++ Some (line_refusal_text r) ∷ []) (record { lines = t.lines + 1; dropped = t.dropped + 1; first = Some (t.lines + 1, r) })
counted_some_first os t r none is = record {
  lines = omega (arith, is.lines, length-append os (Some (line_refusal_text r) ∷ []));
  dropped = one_dropped os (line_refusal_text r) t.dropped t.lines is.lines is.dropped;
  first = counted_first os t.lines r t.first none is.lines is.first;
}

pub counted_some_more : (os : List (Option Text)) (t : BatchTally) (text : Text) → t.first ≢ None → TallyIs os t → TallyIs (os ++ Some text ∷ []) (record { lines = t.lines + 1; dropped = t.dropped + 1; first = t.first })
counted_some_more os t text some is = record {
  lines = omega (arith, is.lines, length-append os (Some text ∷ []));
  dropped = one_dropped os text t.dropped t.lines is.lines is.dropped;
  first = counted_again os t.lines text t.first some is.lines is.first;
}

-- ---- lines one after another

took_more : (precision : TimeUnit) (now : ℤ) (old mid new : WholeState) (texts : List Text) (os : List LineOutcome) (text : Text) (o : LineOutcome)
    → TakesLines precision now old texts os mid → TakesText precision now mid text o new → TakesLines precision now old (texts ++ text ∷ []) (os ++ o ∷ []) new
took_more precision now old mid new [] [] text o t l = (new, subst (λ (s : WholeState). TakesText precision now s text o new) t l, refl)
took_more precision now old mid new (u ∷ us) (p ∷ ps) text o t l = (t.0, t.1, took_more precision now t.0 mid new us ps text o t.2 l)
took_more precision now old mid new [] (p ∷ ps) text o t l = absurd t
took_more precision now old mid new (u ∷ us) [] text o t l = absurd t

-- one more outcome, as the tally sees it
tallied : (os : List LineOutcome) (o : LineOutcome) (refusal : Option LineRefusal) (t : BatchTally) → refusal ≡ refusal_of o → TallyIs (map refusal_text os ++ option_map line_refusal_text refusal ∷ []) t → TallyIs (map refusal_text (os ++ o ∷ [])) t
tallied os o refusal t is tally = subst (λ (l : List (Option Text)). TallyIs l t) (ap (λ (r : Option LineRefusal). map refusal_text os ++ option_map line_refusal_text r ∷ []) is ∙ sym (map-append refusal_text os (o ∷ []))) tally

-- ---- lines of a body

abbrev pub HasNoLf : Text → Type 0
HasNoLf text = (i : ℕ) → i < length text → get_or text i 0 ≢ 10

not_lf : (b : ℕ) (x y : List Text) → b ≢ 10 → cond (b == 10) x y ≡ y
not_lf b x y other = grind (arith, nat_tests)

pub last_line : (text : Text) → HasNoLf text → body_lines text ≡ text ∷ []
last_line [] none = refl
last_line (b ∷ bs) none = not_lf b _ _ (none 0 (omega arith)) ∙ ap (onto_first_reply b) (last_line bs (λ i h. none (suc i) (omega arith)))

first_line : (first others : Text) → HasNoLf first → body_lines (first ++ (10 ∷ others)) ≡ first ∷ body_lines others
first_line [] others none = refl
first_line (b ∷ bs) others none = not_lf b _ _ (none 0 (omega arith)) ∙ ap (onto_first_reply b) (first_line bs others (λ i h. none (suc i) (omega arith)))

pub next_line : (text first others : Text) → text ≡ first ++ (10 ∷ others) → HasNoLf first → body_lines text ≡ first ∷ body_lines others
next_line text first others e none = ap body_lines e ∙ first_line first others none

-- ---- the loop

-- the progress of a batch: these lines of a body were written, and these come before the rest of it
pub record SoFar (precision : TimeUnit) (now : ℤ) (s : WholeState) (lines : List Text) (t : BatchTally) (left : List Text) (new : StoreData) : Type 0 where
  pub done : List Text
  pub outcomes : List LineOutcome
  pub mid : WholeState
  pub lines_are : lines ≡ done ++ left
  pub took : TakesLines precision now s done outcomes mid
  pub tally : TallyIs (map refusal_text outcomes) t
  pub here : IsWholeStateOf mid new

pub begins : (precision : TimeUnit) (now : ℤ) (s : WholeState) (lines : List Text) (t : BatchTally) (k : StoreData) → TallyIs [] t → IsWholeStateOf s k → SoFar precision now s lines t lines k
begins precision now s lines t k tally i = record { done = []; outcomes = []; mid = s; lines_are = refl; took = refl; tally = tally; here = i }

module _ (E : Type 0) (precision : TimeUnit) (now : ℤ) (s : WholeState) (lines : List Text) (t t' : BatchTally) (text : Text) (left rest : List Text) (k k' : StoreData) (o : LineOutcome) (refusal : Option LineRefusal)
    (so : SoFar precision now s lines t left k) (is : left ≡ text ∷ rest) (did : (m : WholeState) → IsWholeStateOf m k → LineWrites precision now m text {E = E} (Ok o) k') (of : refusal ≡ refusal_of o)
    (counts : (os : List (Option Text)) → TallyIs os t → TallyIs (os ++ option_map line_refusal_text refusal ∷ []) t') where
  pub goes_on : SoFar precision now s lines t' rest k'
  goes_on =
      let d = did so.mid so.here in
      record {
        done = so.done ++ text ∷ [];
        outcomes = so.outcomes ++ o ∷ [];
        mid = d.0;
        lines_are = so.lines_are ∙ ap (λ (l : List Text). so.done ++ l) is ∙ sym (append_assoc so.done (text ∷ []) rest);
        took = took_more precision now s so.mid d.0 so.done so.outcomes text o so.took d.1;
        tally = tallied so.outcomes o refusal t' of (counts (map refusal_text so.outcomes) so.tally);
        here = d.2;
      }

pub all_done : (E : Type 0) (precision : TimeUnit) (now : ℤ) (s : WholeState) (body : Text) (t : BatchTally) (k : StoreData) → SoFar precision now s (body_lines body) t [] k → WritesLines precision now s body {E = E} (Ok t) k
all_done E precision now s body t k so =
    (so.outcomes, so.mid, subst (λ (l : List Text). TakesLines precision now s l so.outcomes so.mid) (sym (so.lines_are ∙ append-nil so.done)) so.took, so.tally, so.here)

pub stopped : (E : Type 0) (precision : TimeUnit) (now : ℤ) (s : WholeState) (body : Text) (t : BatchTally) (text : Text) (left rest : List Text) (k k' : StoreData) (e : E) → SoFar precision now s (body_lines body) t left k → left ≡ text ∷ rest
    → ((m : WholeState) → IsWholeStateOf m k → LineWrites precision now m text {E = E} (Err e) k') → WritesLines precision now s body {E = E} (Err e) k'
stopped E precision now s body t text left rest k k' e so is did =
    let d = did so.mid so.here in
    (d.0, record { done = so.done; line = text; others = rest; lines_are = so.lines_are ∙ ap (λ (l : List Text). so.done ++ l) is; outcomes = so.outcomes; mid = so.mid; took = so.took; stopped = d.1 }, d.2)
