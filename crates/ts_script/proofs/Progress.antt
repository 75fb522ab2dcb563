-- The progress of a run.
use Rattle.std.proofs.Common.{◌≡◌, ◌≢◌, List, [], ◌∷◌, ◌++◌, Bool, true, false, Option, Some, None, refl, sym, ap, ◌∙◌, subst, append_assoc, append-nil, Result, Ok, Err}
use Rattle.std.specs.List.{concat}
use Rattle.std.specs.Io.KnownBytes.{prepend_known, Consumes}
use Rattle.std.proofs.KnownBytes.{Appends-nil, Consumes-trans}
use Rattle.std.proofs.lemmas.List.Folds.{concat-append}
use Rattle.ts_core.specs.facts.Facts.{Text}
use Rattle.ts_core.specs.io.Devices.{Input, AppendsFront}
use Rattle.ts_core.specs.io.OutputBuffering.{AreWrittenBut}
use Rattle.ts_core.proofs.io.OutputBufferLemmas.{two_puts, second_refused, all_written}
use Rattle.ts_script.specs.ScriptLines.{lines_of, ended_lines, lines_read}
use Rattle.ts_script.specs.LineReading.{has_lf, AreLines, EndIsOver, IsTextOf, IsNext, IsCut, lines_to_come}
use Rattle.ts_script.specs.ReaderState.{ReaderState}
use Rattle.ts_script.specs.Machine.{State, start, Step, Prints}
use Rattle.ts_script.specs.MachineState.{MachineState, IsMachineIn, StepTo}
use Rattle.ts_script.specs.Script.{IsScript, AnswersAll, AnswersSome}
use Rattle.ts_core.specs.io.ReadingAhead.{one_if_device}
use Rattle.ts_core.specs.declared.io.read_ahead.ReadFault.{ReadFault}
use Rattle.ts_core.specs.declared.io.read_ahead.ReadFault.TheVariants as read
use Rattle.ts_script.specs.RunFaults.{fault_of_read, one_if_reader, one_if_writer}
use Rattle.ts_script.specs.declared.run_fault.RunFault.{RunFault}
use Rattle.ts_script.specs.declared.run_fault.RunFault.TheVariants.{OutOfMemory, Writer}
use Rattle.ts_script.specs.declared.line_reader.Next.{Next}
use Rattle.ts_script.specs.declared.line_reader.Next.TheVariants.{End}
use Rattle.ts_script.proofs.LineScan.{lines_join, no_lines, none_ended}

-- the lines of the bytes that were taken are answered; the last bytes of their answers are buffered
pub record Progress (input left : Option Text) (ended : Bool) (old new : Option Text) (kept : Text) (m : MachineState) : Type 0 where
  pub taken : Text
  pub before : Consumes input left taken
  pub done : List Text
  pub lines : AreLines ended taken done
  pub answers : List Text
  pub state : State
  pub run : Prints start done answers state
  pub is_in : IsMachineIn state m
  pub written : AreWrittenBut old new (concat answers) kept

nothing_taken : (input : Option Text) (buffered : Text) → buffered ≡ [] → Consumes input (prepend_known buffered input) []
nothing_taken None buffered e = tt
nothing_taken (Some bytes) buffered e = ap (λ (l : Text). l ++ bytes) (sym e)

pub begins : (input : Option Text) (contents : Option Text) (buffered : Text) (ended : Bool) (m : MachineState) → buffered ≡ [] → ended ≡ false → IsMachineIn start m → (kept : Text) → kept ≡ [] → Progress input (prepend_known buffered input) ended contents contents kept m
begins input contents buffered ended m e going i kept none = record {
  taken = [];
  before = nothing_taken input buffered e;
  done = [];
  lines = subst (λ (b : Bool). AreLines b [] []) (sym going) no_lines;
  answers = [];
  state = start;
  run = refl;
  is_in = i;
  written = record { sent = []; bytes_are = sym none; written = Appends-nil contents };
}

-- a run goes on by one step
run_more : (old mid new : State) (texts answers : List Text) (text answer : Text) → Prints old texts answers mid → Step mid text answer new → Prints old (texts ++ text ∷ []) (answers ++ answer ∷ []) new
run_more old mid new [] [] text answer r s = (new, subst (λ (m : State). Step m text answer new) r s, refl)
run_more old mid new (t ∷ ts) (a ∷ as') text answer r s = (r.0, r.1, run_more r.0 mid new ts as' text answer r.2 s)
run_more old mid new [] (a ∷ as') text answer r s = absurd r
run_more old mid new (t ∷ ts) [] text answer r s = absurd r

concat_more : (answers : List Text) (answer : Text) → concat (answers ++ answer ∷ []) ≡ concat answers ++ answer
concat_more answers answer = concat-append answers (answer ∷ []) ∙ ap (λ l. concat answers ++ l) (append-nil answer)

-- the line that was found has an answer, in whatever state the machine was
abbrev pub Answers : Next → Text → MachineState → MachineState → Text → Type 0
Answers next line m m' answer = (text : Text) (s : State) → IsTextOf text next line → IsMachineIn s m → StepTo text s answer m'

lines_after : (ended ended' : Bool) (taken bytes : Text) (done : List Text) (text : Text) → ended ≡ false → AreLines ended taken done → AreLines ended' bytes (text ∷ []) → AreLines ended' (taken ++ bytes) (done ++ text ∷ [])
lines_after ended ended' taken bytes done text going a b = lines_join ended' taken bytes done (text ∷ []) (subst (λ (e : Bool). AreLines e taken done) going a) b

-- the answers up to the next line's
pub record Answered (input left : Option Text) (ended : Bool) (m : MachineState) (before : List Text) (answer : Text) : Type 0 where
  pub taken : Text
  pub came : Consumes input left taken
  pub done : List Text
  pub lines : AreLines ended taken done
  pub state : State
  pub run : Prints start done (before ++ answer ∷ []) state
  pub is_in : IsMachineIn state m

next_answered : (input : Option Text) (reading reading' : ReaderState) (source source' : Input) (old mid : Option Text) (kept line : Text) (next : Next) (m m' : MachineState) (answer : Text) → line ≡ reading'.line → next ≢ End
    → (p : Progress input (lines_to_come reading source) reading.ahead.ended old mid kept m) → IsNext reading source next reading' source' → Answers next line m m' answer → Answered input (lines_to_come reading' source') reading'.ahead.ended m' p.answers answer
next_answered input reading reading' source source' old mid kept line next m m' answer e some p n a =
    let l = (n.line some).1 in
    let s = a l.0 p.state (subst (λ (k : Text). IsTextOf l.0 next k) (sym e) l.1) p.is_in in
    record {
      taken = p.taken ++ n.bytes;
      came = Consumes-trans input (lines_to_come reading source) (lines_to_come reading' source') p.taken n.bytes p.before n.came;
      done = p.done ++ l.0 ∷ [];
      lines = lines_after reading.ahead.ended reading'.ahead.ended p.taken n.bytes p.done l.0 (n.line some).0 p.lines l.2;
      state = s.0;
      run = run_more start p.state s.0 p.done p.answers l.0 answer p.run s.1;
      is_in = s.2;
    }

pub goes_on : (input : Option Text) (reading reading' : ReaderState) (source source' : Input) (old mid new : Option Text) (kept kept' line : Text) (next : Next) (m m' : MachineState) (answer : Text) → line ≡ reading'.line → next ≢ End
    → Progress input (lines_to_come reading source) reading.ahead.ended old mid kept m → IsNext reading source next reading' source' → Answers next line m m' answer → AreWrittenBut mid new (kept ++ answer) kept'
    → Progress input (lines_to_come reading' source') reading'.ahead.ended old new kept' m'
goes_on input reading reading' source source' old mid new kept kept' line next m m' answer e some p n a w =
    let t = next_answered input reading reading' source source' old mid kept line next m m' answer e some p n a in
    record {
      taken = t.taken;
      before = t.came;
      done = t.done;
      lines = t.lines;
      answers = p.answers ++ answer ∷ [];
      state = t.state;
      run = t.run;
      is_in = t.is_in;
      written = rw (concat_more p.answers answer) (two_puts old mid new (concat p.answers) kept answer kept' p.written w);
    }

-- buffered answers go out
pub sends : (input left : Option Text) (ended : Bool) (old mid new : Option Text) (kept kept' : Text) (m : MachineState) → Progress input left ended old mid kept m → AreWrittenBut mid new (kept ++ []) kept' → Progress input left ended old new kept' m
sends input left ended old mid new kept kept' m p w = record {
  taken = p.taken;
  before = p.before;
  done = p.done;
  lines = p.lines;
  answers = p.answers;
  state = p.state;
  run = p.run;
  is_in = p.is_in;
  written = subst (λ (l : Text). AreWrittenBut old new l kept') (append-nil (concat p.answers)) (two_puts old mid new (concat p.answers) kept [] kept' p.written w);
}

-- ---- the bytes that were read, where a run ends

-- with the buffered bytes
came_whole : (input : Option Text) (buffered : Text) (remaining : Option Text) (taken : Text) → Consumes input (prepend_known buffered remaining) taken → Consumes input remaining (taken ++ buffered)
came_whole None buffered remaining taken p = tt
came_whole (Some bytes) buffered None taken p = absurd p
came_whole (Some bytes) buffered (Some r) taken p = p ∙ sym (append_assoc taken buffered r)

-- the lines that are done, and what came after them
rest_read : (ended : Bool) (taken buffered : Text) (done : List Text) → (ended ≡ true → buffered ≡ []) → AreLines ended taken done → (rest : List Text) × (lines_read ended (taken ++ buffered) ≡ done ++ rest)
rest_read false taken buffered done none l = (ended_lines buffered, (l buffered).1)
rest_read true taken buffered done none l = ([], ap (λ (b : Text). lines_of (taken ++ b)) (none refl) ∙ ap lines_of (append-nil taken) ∙ l ∙ sym (append-nil done))

all_lines : (taken : Text) (done : List Text) (ended : Bool) → AreLines ended taken done → lines_of taken ≡ done
all_lines taken done false l = ap lines_of (sym (append-nil taken)) ∙ (l []).0 ∙ append-nil done
all_lines taken done true l = l

-- the bytes that came are these lines, and those that aren't answered
pub record Ends (input remaining : Option Text) (ended : Bool) (Answers : List Text → Type 0) : Type 0 where
  pub came : Text
  pub bytes : Consumes input remaining came
  pub answers : Answers (lines_read ended came)

scripted : (done answers : List Text) (state : State) → Prints start done answers state → IsScript done (concat answers)
scripted done answers state run = record { answers = answers; state = state; run = run; output_is = refl }

-- the writer refused the buffered answers
pub cut_off : (input : Option Text) (reading : ReaderState) (source : Input) (old mid new : Option Text) (kept : Text) (m : MachineState) → EndIsOver reading.ahead source
    → Progress input (lines_to_come reading source) reading.ahead.ended old mid kept m → AppendsFront mid new (kept ++ []) → Ends input source.remaining reading.ahead.ended (λ lines. AnswersSome lines old new)
cut_off input reading source old mid new kept m over p w =
    let rest = rest_read reading.ahead.ended p.taken reading.ahead.buffered p.done (λ e. (over e).0) p.lines in
    record {
      came = p.taken ++ reading.ahead.buffered;
      bytes = came_whole input reading.ahead.buffered source.remaining p.taken p.before;
      answers = (
        concat p.answers,
        record { done = p.done; rest = rest.0; lines_are = rest.1; script = scripted p.done p.answers p.state p.run },
        subst (λ (l : Text). AppendsFront old new l) (append-nil (concat p.answers)) (second_refused old mid new (concat p.answers) kept [] p.written w),
      );
    }

-- the writer refused in an answer, or in the buffered answers before it
pub cut_short : (input : Option Text) (reading reading' : ReaderState) (source source' : Input) (old mid new : Option Text) (kept line : Text) (next : Next) (m m' : MachineState) (answer : Text) → line ≡ reading'.line → next ≢ End → EndIsOver reading'.ahead source'
    → Progress input (lines_to_come reading source) reading.ahead.ended old mid kept m → IsNext reading source next reading' source' → Answers next line m m' answer → AppendsFront mid new (kept ++ answer)
    → Ends input source'.remaining reading'.ahead.ended (λ lines. AnswersSome lines old new)
cut_short input reading reading' source source' old mid new kept line next m m' answer e some over p n a w =
    let t = next_answered input reading reading' source source' old mid kept line next m m' answer e some p n a in
    let rest = rest_read reading'.ahead.ended t.taken reading'.ahead.buffered t.done (λ e. (over e).0) t.lines in
    record {
      came = t.taken ++ reading'.ahead.buffered;
      bytes = came_whole input reading'.ahead.buffered source'.remaining t.taken t.came;
      answers = (
        concat (p.answers ++ answer ∷ []),
        record { done = t.done; rest = rest.0; lines_are = rest.1; script = scripted t.done (p.answers ++ answer ∷ []) t.state t.run },
        rw (concat_more p.answers answer) (second_refused old mid new (concat p.answers) kept answer p.written w),
      );
    }

-- the end of input was read
end_read : (input : Option Text) (reading reading' : ReaderState) (source source' : Input) (old mid : Option Text) (kept : Text) (next : Next) (m : MachineState) → next ≡ End → EndIsOver reading'.ahead source'
    → (p : Progress input (lines_to_come reading source) reading.ahead.ended old mid kept m) → IsNext reading source next reading' source' → Consumes input source'.remaining p.taken
end_read input reading reading' source source' old mid kept next m e over p n =
    let end = n.over e in
    let whole = Consumes-trans input (lines_to_come reading source) (lines_to_come reading' source') p.taken n.bytes p.before n.came in
    let taken : (p.taken ++ n.bytes) ++ reading'.ahead.buffered ≡ p.taken =
    ap (λ (l : Text). (p.taken ++ n.bytes) ++ l) (over end.1).0 ∙ append-nil (p.taken ++ n.bytes) ∙ ap (λ (l : Text). p.taken ++ l) end.0 ∙ append-nil p.taken in
    subst (λ (l : Text). Consumes input source'.remaining l) taken (came_whole input reading'.ahead.buffered source'.remaining (p.taken ++ n.bytes) whole)

pub all_answered : (input : Option Text) (reading reading' : ReaderState) (source source' : Input) (old new : Option Text) (kept : Text) (next : Next) (m : MachineState) → next ≡ End → EndIsOver reading'.ahead source'
    → Progress input (lines_to_come reading source) reading.ahead.ended old new kept m → IsNext reading source next reading' source' → kept ≡ [] → Ends input source'.remaining true (λ lines. AnswersAll lines old new)
all_answered input reading reading' source source' old new kept next m e over p n sent = record {
  came = p.taken;
  bytes = end_read input reading reading' source source' old new kept next m e over p n;
  answers = subst (λ (lines : List Text). AnswersAll lines old new) (sym (all_lines p.taken p.done reading.ahead.ended p.lines))
      (concat p.answers, scripted p.done p.answers p.state p.run, all_written old new (concat p.answers) kept sent p.written);
}

-- the writer refused the last buffered answers
pub cut_at_end : (input : Option Text) (reading reading' : ReaderState) (source source' : Input) (old mid new : Option Text) (kept : Text) (next : Next) (m : MachineState) → next ≡ End → EndIsOver reading'.ahead source'
    → Progress input (lines_to_come reading source) reading.ahead.ended old mid kept m → IsNext reading source next reading' source' → AppendsFront mid new (kept ++ []) → Ends input source'.remaining true (λ lines. AnswersSome lines old new)
cut_at_end input reading reading' source source' old mid new kept next m e over p n w = record {
  came = p.taken;
  bytes = end_read input reading reading' source source' old mid kept next m e over p n;
  answers = (
    concat p.answers,
    record { done = p.done; rest = []; lines_are = all_lines p.taken p.done reading.ahead.ended p.lines ∙ sym (append-nil p.done); script = scripted p.done p.answers p.state p.run },
    subst (λ (l : Text). AppendsFront old new l) (append-nil (concat p.answers)) (second_refused old mid new (concat p.answers) kept [] p.written w),
  );
}

-- no more was read, after some bytes of a line that isn't ended
pub all_before_cut : (input : Option Text) (reading reading' : ReaderState) (source source' : Input) (old new : Option Text) (kept : Text) (m : MachineState) → Progress input (lines_to_come reading source) reading.ahead.ended old new kept m
    → (cut : IsCut reading source reading' source') → (has_lf reading.ahead.buffered ≡ false → kept ≡ []) → Ends input source'.remaining false (λ lines. AnswersAll lines old new)
all_before_cut input reading reading' source source' old new kept m p cut sent =
    let whole = Consumes-trans input (lines_to_come reading source) (lines_to_come reading' source') p.taken cut.bytes p.before cut.came in
    let taken : (p.taken ++ cut.bytes) ++ reading'.ahead.buffered ≡ p.taken ++ cut.bytes = ap (λ (l : Text). (p.taken ++ cut.bytes) ++ l) cut.none ∙ append-nil (p.taken ++ cut.bytes) in
    let l = subst (λ (e : Bool). AreLines e p.taken p.done) cut.going p.lines in
    let lines : ended_lines (p.taken ++ cut.bytes) ≡ p.done = (l cut.bytes).1 ∙ ap (λ (l : List Text). p.done ++ l) (none_ended cut.bytes cut.part) ∙ append-nil p.done in
    record {
      came = p.taken ++ cut.bytes;
      bytes = subst (λ (l : Text). Consumes input source'.remaining l) taken (came_whole input reading'.ahead.buffered source'.remaining (p.taken ++ cut.bytes) whole);
      answers = subst (λ (lines : List Text). AnswersAll lines old new) (sym lines)
          (concat p.answers, scripted p.done p.answers p.state p.run, all_written old new (concat p.answers) kept (sent cut.no_lf) p.written);
    }

-- there was no memory to begin
pub none_answered : (contents : Option Text) → AnswersAll [] contents contents
none_answered contents = ([], scripted [] [] start refl, Appends-nil contents)

-- ---- the ends of a run

pub reader_told : {T S : Type 0} (f : ReadFault) (r : Result T RunFault) (q : Result S ReadFault) → r ≡ Err (fault_of_read f) → q ≡ Err f → one_if_reader r ≡ one_if_device q
reader_told read.Device r q e d = rw (e, d) refl
reader_told read.TooManyReads r q e d = rw (e, d) refl

device_is_other : {T : Type 0} (r : Result T RunFault) → r ≡ Err (fault_of_read read.Device) → r ≡ Err (fault_of_read read.TooManyReads) → ⊥
device_is_other r d t = cc

-- too many reads are reported only if the line reader reports them
pub turns_told : {T S : Type 0} (f : ReadFault) (r : Result T RunFault) (q : Result S ReadFault) → r ≡ Err (fault_of_read f) → q ≡ Err f → r ≡ Err (fault_of_read read.TooManyReads) → q ≡ Err read.TooManyReads
turns_told read.Device r q e d t = absurd (device_is_other r e t)
turns_told read.TooManyReads r q e d t = d

-- a reader's fault isn't the writer's
pub reader_is_not_writer : {T : Type 0} (f : ReadFault) (r : Result T RunFault) → r ≡ Err (fault_of_read f) → r ≡ Err Writer → ⊥
reader_is_not_writer read.Device r e w = cc
reader_is_not_writer read.TooManyReads r e w = cc

pub writer_silent : {T : Type 0} (r : Result T RunFault) (f : ReadFault) → r ≡ Err (fault_of_read f) → one_if_writer r ≡ 0
writer_silent r read.Device e = rw e refl
writer_silent r read.TooManyReads e = rw e refl

-- a writer's fault is no other
pub writer_is_not_memory : {T : Type 0} (r : Result T RunFault) → r ≡ Err Writer → r ≡ Err OutOfMemory → ⊥
writer_is_not_memory r w m = cc

pub writer_is_not_turns : {T : Type 0} (r : Result T RunFault) → r ≡ Err Writer → r ≡ Err (fault_of_read read.TooManyReads) → ⊥
writer_is_not_turns r w t = cc

-- a run that is done has no fault
pub done_has_no_fault : {T : Type 0} (r : Result T RunFault) (x : T) (f : RunFault) → r ≡ Ok x → r ≡ Err f → ⊥
done_has_no_fault r x f d e = cc

-- a reader's fault isn't out of memory
pub memory_silent : {T : Type 0} (r : Result T RunFault) (f : ReadFault) → r ≡ Err (fault_of_read f) → r ≡ Err OutOfMemory → ⊥
memory_silent r read.Device e h = cc
memory_silent r read.TooManyReads e h = cc
