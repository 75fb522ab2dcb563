-- Laws of a replay: the input of a known reader in place of the bytes that were read.
use Rattle.std.proofs.Common.{◌≡◌, List, [], ◌∷◌, ◌++◌, Bool, true, false, Option, Some, None, refl, sym, ap, ◌∙◌, subst, append_assoc, append-nil, ℕ, Result, Ok, Err, ◌==◌, cond}
use Rattle.std.specs.Io.KnownBytes.{Consumes, IsAtEnd}
use Rattle.ts_core.specs.facts.Facts.{Text}
use Rattle.ts_core.specs.io.Devices.{Input, Output}
use Rattle.ts_script.specs.ScriptLines.{onto_first, onto_ended, lines_of, ended_lines, lines_read}
use Rattle.ts_script.specs.Script.{AnswersAll, AnswersSome, HasRead, IsReplay}
use Rattle.ts_script.specs.declared.run_fault.RunFault.{RunFault}
use Rattle.ts_script.specs.declared.run_fault.RunFault.TheVariants as fault

-- the input begins with the bytes that were read, and is these at its end
came_first : (input left : Option Text) (bytes came : Text) → input ≡ Some bytes → Consumes input left came → (rest : Text) × (left ≡ Some rest) × (bytes ≡ came ++ rest)
came_first (Some xs) (Some rest) bytes came e c = (rest, refl, let same : xs ≡ bytes = cc in sym same ∙ c)
came_first (Some xs) None bytes came e c = absurd c
came_first None left bytes came e c = cc

-- the lines of more bytes begin with the ended lines of the first of them
onto_more : (b : ℕ) (lines ended rest : List Text) → lines ≡ ended ++ rest → (rest' : List Text) × (onto_first b lines ≡ onto_ended b ended ++ rest')
onto_more b lines [] rest e = (onto_first b lines, refl)
onto_more b lines (line ∷ ended) rest e = (rest, ap (onto_first b) e)

lines_begin : (is_lf : Bool) (b : ℕ) (lines ended rest : List Text) → lines ≡ ended ++ rest
    → (rest' : List Text) × (cond is_lf ([] ∷ lines) (onto_first b lines) ≡ cond is_lf ([] ∷ ended) (onto_ended b ended) ++ rest')
lines_begin true b lines ended rest e = (rest, ap (λ (l : List Text). [] ∷ l) e)
lines_begin false b lines ended rest e = onto_more b lines ended rest e

ended_first : (came rest : Text) → (others : List Text) × (lines_of (came ++ rest) ≡ ended_lines came ++ others)
ended_first [] rest = (lines_of rest, refl)
ended_first (b ∷ bs) rest = let i = ended_first bs rest in lines_begin (b == 10) b (lines_of (bs ++ rest)) (ended_lines bs) i.0 i.1

read_first : (ended : Bool) (bytes came rest : Text) → bytes ≡ came ++ rest → (ended ≡ true → rest ≡ []) → (others : List Text) × (lines_of bytes ≡ lines_read ended came ++ others)
read_first false bytes came rest e none = let f = ended_first came rest in (f.0, ap lines_of e ∙ f.1)
read_first true bytes came rest e none = ([], ap lines_of (e ∙ ap (λ (l : Text). came ++ l) (none refl) ∙ append-nil came) ∙ sym (append-nil (lines_of came)))

at_end : (left : Option Text) (rest : Text) → left ≡ Some rest → IsAtEnd left → rest ≡ []
at_end left rest e h = subst (λ (o : Option Text). IsAtEnd o) e h

lines_known : (source source' : Input) (bytes came : Text) (ended : Bool) → source.remaining ≡ Some bytes → HasRead source came ended source' → (others : List Text) × (lines_of bytes ≡ lines_read ended came ++ others)
lines_known source source' bytes came ended e r =
    let c = came_first source.remaining source'.remaining bytes came e r.bytes in
    read_first ended bytes came c.0 c.2 (λ h. at_end source'.remaining c.0 c.1 (r.end h))

-- without a fault, the answers to all lines of a known input were written
pub known_answered : {T : Type 0} (reads : ℕ) (source : Input) (sink : Output) (x : T) (source' : Input) (sink' : Output) (bytes : Text) → source.remaining ≡ Some bytes → IsReplay reads source sink (Ok x) source' sink' → AnswersAll (lines_of bytes) sink.contents sink'.contents
known_answered reads source sink x source' sink' bytes e r =
    let c = came_first source.remaining source'.remaining bytes r.came e r.read.bytes in
    let all : bytes ≡ r.came = c.2 ∙ ap (λ (l : Text). r.came ++ l) (at_end source'.remaining c.0 c.1 (r.read.end r.whole)) ∙ append-nil r.came in
    let lines : lines_read r.ended r.came ≡ lines_of bytes = ap (λ (b : Bool). lines_read b r.came) r.whole ∙ ap lines_of (sym all) in
    subst (λ (l : List Text). AnswersAll l sink.contents sink'.contents) lines (r.answered (λ w. cc))

some_of_more : (lines others whole : List Text) (old new : Option Text) → whole ≡ lines ++ others → AnswersSome lines old new → AnswersSome whole old new
some_of_more lines others whole old new e a =
    let so = a.1 in
    (a.0, record { done = so.done; rest = so.rest ++ others; lines_are = e ∙ ap (λ (l : List Text). l ++ others) so.lines_are ∙ append_assoc so.done so.rest others; script = so.script }, a.2)

some_of_all : (lines : List Text) (old new : Option Text) → AnswersAll lines old new → AnswersSome lines old new
some_of_all lines old new a = (a.0, record { done = lines; rest = []; lines_are = sym (append-nil lines); script = a.1 }, (a.0, [], sym (append-nil a.0), a.2))

some_known : {T : Type 0} (reads : ℕ) (source : Input) (sink : Output) (result : Result T RunFault) (source' : Input) (sink' : Output) (bytes : Text) → source.remaining ≡ Some bytes → (r : IsReplay reads source sink result source' sink')
    → AnswersSome (lines_read r.ended r.came) sink.contents sink'.contents → AnswersSome (lines_of bytes) sink.contents sink'.contents
some_known reads source sink result source' sink' bytes e r a =
    let known = lines_known source source' bytes r.came r.ended e r.read in
    some_of_more (lines_read r.ended r.came) known.0 (lines_of bytes) sink.contents sink'.contents known.1 a

-- with any result, a prefix of the answers to the first lines of a known input was written
pub known_begun : {T : Type 0} (reads : ℕ) (source : Input) (sink : Output) (result : Result T RunFault) (source' : Input) (sink' : Output) (bytes : Text) → source.remaining ≡ Some bytes → IsReplay reads source sink result source' sink' → AnswersSome (lines_of bytes) sink.contents sink'.contents
known_begun reads source sink (Ok x) source' sink' bytes e r = some_known reads source sink _ source' sink' bytes e r (some_of_all _ sink.contents sink'.contents (r.answered (λ w. cc)))
known_begun reads source sink (Err fault.OutOfMemory) source' sink' bytes e r = some_known reads source sink _ source' sink' bytes e r (some_of_all _ sink.contents sink'.contents (r.answered (λ w. cc)))
known_begun reads source sink (Err fault.Reader) source' sink' bytes e r = some_known reads source sink _ source' sink' bytes e r (some_of_all _ sink.contents sink'.contents (r.answered (λ w. cc)))
known_begun reads source sink (Err fault.TooManyReads) source' sink' bytes e r = some_known reads source sink _ source' sink' bytes e r (some_of_all _ sink.contents sink'.contents (r.answered (λ w. cc)))
known_begun reads source sink (Err fault.Writer) source' sink' bytes e r = some_known reads source sink _ source' sink' bytes e r (r.begun refl)
