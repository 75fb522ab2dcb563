-- Lines and their parts.
use Rattle.std.proofs.Common.{◌≡◌, ◌≢◌, cond, ℕ, zero, suc, ◌+◌, ◌<◌, slice_index, List, [], ◌∷◌, ◌++◌, length, drop, Bool, true, false, Option, Some, None, refl, sym, ap, ◌∙◌, append_assoc, arith, subst, not, nat_lt, Result, Ok, Err}
use Rattle.std.proofs.lemmas.Bool.Decides.{nat_tests}
use Rattle.std.specs.Io.KnownBytes.{Consumes, prepend_known, Keeps, IsAtEnd}
use Rattle.ts_core.specs.io.Devices.{Input}
use Rattle.ts_core.specs.io.ReadingAhead.{Ahead, pending, IsFilled}
use Rattle.ts_core.specs.declared.io.read_ahead.ReadFault.{ReadFault}
use Rattle.ts_script.specs.ScriptLines.{onto_first, lines_of, ended_lines}
use Rattle.ts_script.specs.ReaderState.{ReaderState}
use Rattle.memchr.specs.Find.{Nowhere, Passes, is_byte}
use Rattle.ts_script.specs.LineReading.{first_line, after_line, has_lf, IsLineEnd, LineIs, AreEnded, AreLines, IsTextOf, EndIsOver, IsNext, lines_to_come, next_after_line, result_at_end}
use Rattle.ts_script.specs.declared.line_reader.Next.{Next}
use Rattle.ts_script.specs.declared.line_reader.Next.TheVariants.{Line, End}

-- ---- the first LF

is_false : (x : Bool) → (x ≡ true → ⊥) → x ≡ false
is_false true n = absurd (n refl)
is_false false n = refl

pub ends_there : (bytes : List ℕ) (at : ℕ) → at < length bytes → is_byte 10 (slice_index bytes at) ≡ true → Nowhere (Passes (is_byte 10) bytes) 0 at → IsLineEnd bytes at
ends_there [] at l e none = absurd (omega (arith, l))
ends_there (b ∷ bs) zero l e none = record {
  within = omega arith;
  line = ap (λ x. cond x [] (b ∷ first_line bs)) (sym e);
  rest = ap (λ x. cond x bs (after_line bs)) (sym e);
  found = (λ h. l, λ h. ap (λ x. cond x true (has_lf bs)) e);
}
ends_there (b ∷ bs) (suc at) l e none =
    let other : is_byte 10 b ≡ false = is_false (is_byte 10 b) (none 0 (omega arith) (omega arith)) in
    let behind = ends_there bs at (omega (arith, l)) e (λ k z h f. none (suc k) (omega arith) (omega (arith, h)) f) in
    record {
      within = omega (arith, behind.within);
      line = ap (λ xs. b ∷ xs) behind.line ∙ ap (λ x. cond x [] (b ∷ first_line bs)) (sym other);
      rest = ap (λ (n : ℕ). drop n (b ∷ bs)) (let more : suc at + 1 ≡ suc (at + 1) = omega arith in more) ∙ behind.rest ∙ ap (λ x. cond x bs (after_line bs)) (sym other);
      found = (λ h. l, λ h. ap (λ x. cond x true (has_lf bs)) other ∙ behind.found.1 (omega (arith, l)));
    }

pub ends_nowhere : (bytes : List ℕ) → Nowhere (Passes (is_byte 10) bytes) 0 (length bytes) → IsLineEnd bytes (length bytes)
ends_nowhere [] none = record { within = omega arith; line = refl; rest = refl; found = (λ h. absurd (cc), λ h. absurd (omega (arith, h))) }
ends_nowhere (b ∷ bs) none =
    let other : is_byte 10 b ≡ false = is_false (is_byte 10 b) (none 0 (omega arith) (omega arith)) in
    let behind = ends_nowhere bs (λ k z h f. none (suc k) (omega arith) (omega (arith, h)) f) in
    record {
      within = omega arith;
      line = ap (λ xs. b ∷ xs) behind.line ∙ ap (λ x. cond x [] (b ∷ first_line bs)) (sym other);
      rest = ap (λ (n : ℕ). drop n (b ∷ bs)) (let more : suc (length bs) + 1 ≡ suc (length bs + 1) = omega arith in more) ∙ behind.rest ∙ ap (λ x. cond x bs (after_line bs)) (sym other);
      found = (λ h. absurd (let i = behind.found.0 (ap (λ x. cond x true (has_lf bs)) (sym other) ∙ h) in omega (arith, i)), λ h. absurd (omega (arith, h)));
    }

-- ---- lines of two parts

pub has_lf-append : (s t : List ℕ) → has_lf s ≡ false → has_lf (s ++ t) ≡ has_lf t
has_lf-append [] t h = refl
has_lf-append (b ∷ bs) t h = grind (arith, nat_tests, has_lf-append bs t)

pub first-append : (s t : List ℕ) → has_lf s ≡ false → first_line (s ++ t) ≡ s ++ first_line t
first-append [] t h = refl
first-append (b ∷ bs) t h = grind (arith, nat_tests, first-append bs t)

first-no_lf : (t : List ℕ) → has_lf (first_line t) ≡ false
first-no_lf [] = refl
first-no_lf (b ∷ bs) = grind (arith, nat_tests, first-no_lf bs)

pub after-append : (s t : List ℕ) → has_lf s ≡ false → after_line (s ++ t) ≡ after_line t
after-append [] t h = refl
after-append (b ∷ bs) t h = grind (arith, nat_tests, after-append bs t)

pub first-front : (t u : List ℕ) → has_lf t ≡ true → first_line (t ++ u) ≡ first_line t
first-front [] u h = cc
first-front (b ∷ bs) u h = grind (arith, nat_tests, first-front bs u)

pub after-front : (t u : List ℕ) → has_lf t ≡ true → after_line (t ++ u) ≡ after_line t ++ u
after-front [] u h = cc
after-front (b ∷ bs) u h = grind (arith, nat_tests, after-front bs u)

pub first-whole : (t : List ℕ) → has_lf t ≡ false → first_line t ≡ t
first-whole [] h = refl
first-whole (b ∷ bs) h = grind (arith, nat_tests, first-whole bs)

pub after-whole : (t : List ℕ) → has_lf t ≡ false → after_line t ≡ []
after-whole [] h = refl
after-whole (b ∷ bs) h = grind (arith, nat_tests, after-whole bs)

-- ---- the bytes of a line among those still to come

-- the bytes so far have no LF, and come before those still to come
pub record SoFar (all : Option (List ℕ)) (now : Option (List ℕ)) (bytes line : List ℕ) (long : Bool) : Type 0 where
  pub no_lf : has_lf bytes ≡ false
  pub before : Consumes all now bytes
  pub kept : LineIs bytes line long

pub lines_of-cons : (b : ℕ) (bs : List ℕ) → lines_of (b ∷ bs) ≡ first_line (b ∷ bs) ∷ lines_of (after_line (b ∷ bs))
lines_of-cons b [] = grind (arith, nat_tests)
lines_of-cons b (c ∷ cs) = grind (arith, nat_tests, ap (onto_first b) (lines_of-cons c cs))

pub lines_of-more : (bytes : List ℕ) → bytes ≢ [] → lines_of bytes ≡ first_line bytes ∷ lines_of (after_line bytes)
lines_of-more [] h = absurd (h refl)
lines_of-more (b ∷ bs) h = lines_of-cons b bs

-- ---- the lines of a text

pub cut_at_lf : (t : List ℕ) → has_lf t ≡ true → t ≡ first_line t ++ 10 ∷ after_line t
cut_at_lf [] h = cc
cut_at_lf (b ∷ bs) h = grind (arith, nat_tests, cut_at_lf bs)

lines_of-ended : (text more : List ℕ) → has_lf text ≡ false → lines_of ((text ++ 10 ∷ []) ++ more) ≡ text ∷ lines_of more
lines_of-ended [] more h = refl
lines_of-ended (b ∷ bs) more h = grind (arith, nat_tests, lines_of-ended bs more)

ended_lines-ended : (text more : List ℕ) → has_lf text ≡ false → ended_lines ((text ++ 10 ∷ []) ++ more) ≡ text ∷ ended_lines more
ended_lines-ended [] more h = refl
ended_lines-ended (b ∷ bs) more h = grind (arith, nat_tests, ended_lines-ended bs more)

-- a text without an LF, and an LF, is one line
pub one_ended : (text : List ℕ) → has_lf text ≡ false → AreEnded (text ++ 10 ∷ []) (text ∷ [])
one_ended text h = λ more. (lines_of-ended text more h, ended_lines-ended text more h)

-- a text without an LF has no line that is ended
pub none_ended : (text : List ℕ) → has_lf text ≡ false → ended_lines text ≡ []
none_ended [] h = refl
none_ended (b ∷ bs) h = grind (arith, nat_tests, none_ended bs)

one_line : (text : List ℕ) → has_lf text ≡ false → text ≢ [] → lines_of text ≡ text ∷ []
one_line text h some = lines_of-more text some ∙ ap (λ l. l ∷ lines_of (after_line text)) (first-whole text h) ∙ ap (λ l. text ∷ lines_of l) (after-whole text h)

pub no_lines : AreEnded [] []
no_lines = λ more. (refl, refl)

-- lines that follow ended lines
pub lines_join : (ended : Bool) (s t : List ℕ) (ks ls : List (List ℕ)) → AreEnded s ks → AreLines ended t ls → AreLines ended (s ++ t) (ks ++ ls)
lines_join false s t ks ls a b = λ more. (
  ap lines_of (append_assoc s t more) ∙ (a (t ++ more)).0 ∙ ap (λ l. ks ++ l) (b more).0 ∙ sym (append_assoc ks ls (lines_of more)),
  ap ended_lines (append_assoc s t more) ∙ (a (t ++ more)).1 ∙ ap (λ l. ks ++ l) (b more).1 ∙ sym (append_assoc ks ls (ended_lines more)),
)
lines_join true s t ks ls a b = (a t).0 ∙ ap (λ l. ks ++ l) b

-- ---- the next line

-- the text of a line that was found
told : (text line : List ℕ) (long : Bool) → LineIs text line long → IsTextOf text (next_after_line long) line
told text line true kept = kept
told text line false kept = kept.0

regrouped : (s t u v : List ℕ) → s ++ ((t ++ 10 ∷ u) ++ v) ≡ ((s ++ t) ++ 10 ∷ []) ++ (u ++ v)
regrouped s t u v = simp (append_assoc)

no_lf_before : (s t : List ℕ) → has_lf s ≡ false → has_lf (s ++ first_line t) ≡ false
no_lf_before s t h = has_lf-append s (first_line t) h ∙ first-no_lf t

found_came : (all : Option (List ℕ)) (buffered : List ℕ) (remaining : Option (List ℕ)) (bytes : List ℕ) → Consumes all (prepend_known buffered remaining) bytes → has_lf buffered ≡ true
    → Consumes all (prepend_known (after_line buffered) remaining) ((bytes ++ first_line buffered) ++ 10 ∷ [])
found_came None buffered remaining bytes p lf = tt
found_came (Some xs) buffered None bytes p lf = absurd p
found_came (Some xs) buffered (Some r) bytes p lf =
    p ∙ ap (λ l. bytes ++ (l ++ r)) (cut_at_lf buffered lf) ∙ regrouped bytes (first_line buffered) (after_line buffered) r

consumed_more : (all remaining now : Option (List ℕ)) (bytes buffered : List ℕ) → Consumes all (prepend_known buffered remaining) bytes → Keeps remaining now → Consumes all now (bytes ++ buffered)
consumed_more None remaining now bytes buffered p k = tt
consumed_more (Some xs) None now bytes buffered p k = absurd p
consumed_more (Some xs) (Some r) None bytes buffered p k = absurd k
consumed_more (Some xs) (Some r) (Some r') bytes buffered p k = p ∙ sym (append_assoc bytes buffered r) ∙ ap (λ l. (bytes ++ buffered) ++ l) (sym k)

kept_rest : (remaining now : Option (List ℕ)) → Keeps (prepend_known [] remaining) now → Keeps remaining now
kept_rest None now k = tt
kept_rest (Some r) None k = absurd k
kept_rest (Some r) (Some r') k = k

-- at first no byte is there
pub nothing_yet : (all : Option (List ℕ)) (line : List ℕ) (long : Bool) → LineIs [] line long → SoFar all all [] line long
nothing_yet None line long kept = record { no_lf = refl; before = tt; kept = kept }
nothing_yet (Some xs) line long kept = record { no_lf = refl; before = refl; kept = kept }

-- the bytes grow by a chunk without an LF
pub so_far_more : (all : Option (List ℕ)) (buffered : List ℕ) (remaining now : Option (List ℕ)) (bytes line line' : List ℕ) (long long' : Bool)
    → SoFar all (prepend_known buffered remaining) bytes line long → has_lf buffered ≡ false → LineIs (bytes ++ first_line buffered) line' long'
    → Keeps (prepend_known (after_line buffered) remaining) now → SoFar all now (bytes ++ first_line buffered) line' long'
so_far_more all buffered remaining now bytes line line' long long' so lf kept keeps =
    let f = first-whole buffered lf in
    let k : Keeps (prepend_known [] remaining) now = subst (λ (l : List ℕ). Keeps (prepend_known l remaining) now) (after-whole buffered lf) keeps in
    record {
      no_lf = has_lf-append bytes (first_line buffered) so.no_lf ∙ ap has_lf f ∙ lf;
      before = rw f (consumed_more all remaining now bytes buffered so.before (kept_rest remaining now k));
      kept = kept;
    }

-- an LF ends a line, and never the script
pub next_is_some : (long : Bool) → next_after_line long ≡ End → ⊥
next_is_some true e = cc
next_is_some false e = cc

result_at_end-cons : (b : ℕ) (line : List ℕ) → result_at_end (b ∷ line) false ≡ Line
result_at_end-cons b line = grind (arith, nat_tests)

-- the input has ended
last_line : (bytes line : List ℕ) (long : Bool) → has_lf bytes ≡ false → LineIs bytes line long → result_at_end line long ≢ End → IsTextOf bytes (result_at_end line long) line × (lines_of bytes ≡ bytes ∷ [])
last_line bytes line true no_lf kept some = (kept, one_line bytes no_lf (λ n. omega (arith, kept, ap length n)))
last_line bytes [] false no_lf kept some = absurd (some refl)
last_line bytes (b ∷ line) false no_lf kept some = (rw (result_at_end-cons b line) kept.0, one_line bytes no_lf (λ n. let k = kept.0 in cc))

last_over : (bytes line : List ℕ) (long : Bool) → LineIs bytes line long → result_at_end line long ≡ End → bytes ≡ []
last_over bytes line true kept e = cc
last_over bytes [] false kept e = sym kept.0
last_over bytes (b ∷ line) false kept e = let r = result_at_end-cons b line in cc

-- ---- the passes of the loop: start is the reader with its line cleared, and now the reader at the loop's head

abbrev pub Kept : ReaderState → ReaderState → Type 0
Kept now new = (before : List ℕ) → LineIs before now.line now.long → LineIs (before ++ first_line now.ahead.buffered) new.line new.long

pub found_told : (begun start now new : ReaderState) (input input' : Input) (next : Next) (bytes : List ℕ) → begun.ahead.ended ≡ false → new.ahead.ended ≡ false → start.ahead.buffered ≡ begun.ahead.buffered
    → SoFar (lines_to_come start input) (lines_to_come now input') bytes now.line now.long → has_lf now.ahead.buffered ≡ true → Kept now new → new.ahead.buffered ≡ after_line now.ahead.buffered → next ≡ next_after_line new.long
    → IsNext begun input next new input'
found_told begun start now new input input' next bytes going goes same so lf kept left is =
    let text = bytes ++ first_line now.ahead.buffered in
    let came = found_came (lines_to_come start input) now.ahead.buffered input'.remaining bytes so.before lf in
    record {
      bytes = text ++ 10 ∷ [];
      came = subst (λ (l : List ℕ). Consumes (prepend_known l input.remaining) (lines_to_come new input') (text ++ 10 ∷ [])) same
          (subst (λ (l : List ℕ). Consumes (lines_to_come start input) (prepend_known l input'.remaining) (text ++ 10 ∷ [])) (sym left) came);
      line = λ some.
          let text_is = subst (λ (n : Next). IsTextOf text n new.line) (sym is) (told text new.line new.long (kept bytes so.kept)) in
          let lines = subst (λ (e : Bool). AreLines e (text ++ 10 ∷ []) (text ∷ [])) (sym goes) (one_ended text (no_lf_before bytes now.ahead.buffered so.no_lf)) in
          (going, (text, text_is, lines));
      over = λ e. absurd (next_is_some new.long (sym is ∙ e));
    }

pub last_told : (begun start new : ReaderState) (input input' : Input) (next : Next) (bytes : List ℕ) → begun.ahead.ended ≡ false → new.ahead.ended ≡ true → start.ahead.buffered ≡ begun.ahead.buffered
    → SoFar (lines_to_come start input) (lines_to_come new input') bytes new.line new.long → next ≡ result_at_end new.line new.long → IsNext begun input next new input'
last_told begun start new input input' next bytes going over same so is =
    record {
      bytes = bytes;
      came = subst (λ (l : List ℕ). Consumes (prepend_known l input.remaining) (lines_to_come new input') bytes) same so.before;
      line = λ some.
          let l = last_line bytes new.line new.long so.no_lf so.kept (λ e. some (is ∙ e)) in
          let text_is = subst (λ (n : Next). IsTextOf bytes n new.line) (sym is) l.0 in
          let lines = subst (λ (e : Bool). AreLines e bytes (bytes ∷ [])) (sym over) l.1 in
          (going, (bytes, text_is, lines));
      over = λ e. (last_over bytes new.line new.long so.kept (sym is ∙ e), over);
    }

pub more_told : (all : Option (List ℕ)) (now mid new : ReaderState) (input input' : Input) (bytes : List ℕ) → SoFar all (lines_to_come now input) bytes now.line now.long
    → has_lf now.ahead.buffered ≡ false → Kept now mid → mid.ahead.buffered ≡ after_line now.ahead.buffered → Keeps (lines_to_come mid input) (lines_to_come new input') → new.line ≡ mid.line → new.long ≡ mid.long
    → (bytes' : List ℕ) × SoFar all (lines_to_come new input') bytes' new.line new.long
more_told all now mid new input input' bytes so lf kept left keeps line long =
    let k = subst (λ (l : List ℕ). Keeps (prepend_known l input.remaining) (lines_to_come new input')) left keeps in
    let r = so_far_more all now.ahead.buffered input.remaining (lines_to_come new input') bytes now.line mid.line now.long mid.long so lf (kept bytes so.kept) k in (
      bytes ++ first_line now.ahead.buffered,
      subst (λ (b : Bool). SoFar all (lines_to_come new input') (bytes ++ first_line now.ahead.buffered) new.line b) (sym long)
          (subst (λ (l : List ℕ). SoFar all (lines_to_come new input') (bytes ++ first_line now.ahead.buffered) l mid.long) (sym line) r),
    )

pub flipped : (more ended : Bool) → more ≡ not ended → more ≡ false → ended ≡ true
flipped more true e h = refl
flipped more false e h = cc

pub flipped_back : (more ended : Bool) → more ≡ not ended → more ≡ true → ended ≡ false
flipped_back more true e h = cc
flipped_back more false e h = refl

-- ---- one read

-- the end of input leaves no byte buffered
none_left : (bytes : List ℕ) → nat_lt 0 (length bytes) ≡ false → bytes ≡ []
none_left [] h = refl
none_left (b ∷ bs) h = grind (arith, nat_tests, h)

left_nothing : (remaining : Option (List ℕ)) (bytes : List ℕ) → bytes ≡ [] → IsAtEnd (prepend_known bytes remaining) → IsAtEnd remaining
left_nothing None bytes e h = tt
left_nothing (Some r) bytes e h = ap (λ l. l ++ r) (sym e) ∙ h

ended_over : (new : Ahead) (source' : Input) (more : Bool) → more ≡ not new.ended → more ≡ nat_lt 0 (length new.buffered) → new.ended ≡ true → IsAtEnd (pending new source') → (new.buffered ≡ []) × IsAtEnd source'.remaining
ended_over new source' more m n e h =
    let none = none_left new.buffered (sym n ∙ m ∙ ap not e) in
    (none, left_nothing source'.remaining new.buffered none h)

pub over_at_end : (old : Ahead) (source : Input) (result : Result Bool ReadFault) (new : Ahead) (source' : Input) → IsFilled old source result new source' → EndIsOver new source'
over_at_end old source (Ok more) new source' f = λ e. ended_over new source' more f.more f.some e (f.end e)
over_at_end old source (Err fault) new source' f = λ e. let s = f.stays in cc
