-- The reading of a text as a run over its tokens.
use Rattle.std.proofs.Common.{◌≡◌, ℕ, zero, suc, ℤ, ◌+◌, ◌<◌, ◌≤◌, Bool, true, false, List, [], ◌∷◌, ◌++◌, length, take, Result, Ok, Err, arith, refl, sym, ap, ◌∙◌, length-append}
use Rattle.std.proofs.Math.Seq.{take-append_seam, take-append-add}
use Rattle.ts_core.specs.facts.Facts.{Text}
use Rattle.ts_ql.specs.QueryFaults.{Fault}
use Rattle.ts_ql.specs.Lexing.{token_at}
use Rattle.ts_ql.specs.Reading.{Progress, Advance, start_progress, step, is_done, goes_on, read_on, queries_of}
use Rattle.ts_ql.specs.Selects.{Select}
use Rattle.ts_ql.specs.Tokenizing.{is_end_of_text, tokens_after, tokens_from, tokens_of}
use Rattle.ts_ql.specs.Tokens.{Lexeme}
use Rattle.ts_ql.proofs.ReadingLemmas.{short_text}
use Rattle.ts_ql.proofs.StepLemmas.{step_done}
use Rattle.ts_ql.proofs.TokenEnds.{token_within, token_after}

abbrev pub run_then : (Progress → Advance) → Advance → Advance
run_then rest (Ok s) = rest s
run_then rest (Err fault) = Err fault

-- the state after the tokens, or the first fault
abbrev pub run : ℤ → Progress → List Lexeme → Advance
run now s [] = Ok s
run now s (t ∷ ts) = run_then (λ (m : Progress). run now m ts) (step now t s)

-- ---- two lists of tokens

append_then : (now : ℤ) (xs ys : List Lexeme) (after : Advance) → ((m : Progress) → run now m (xs ++ ys) ≡ run_then (λ (n : Progress). run now n ys) (run now m xs))
    → run_then (λ (m : Progress). run now m (xs ++ ys)) after ≡ run_then (λ (n : Progress). run now n ys) (run_then (λ (m : Progress). run now m xs) after)
append_then now xs ys (Ok m) rest = rest m
append_then now xs ys (Err fault) rest = refl

pub run-append : (now : ℤ) (s : Progress) (xs ys : List Lexeme) → run now s (xs ++ ys) ≡ run_then (λ (n : Progress). run now n ys) (run now s xs)
run-append now s [] ys = refl
run-append now s (t ∷ xs) ys = append_then now xs ys (step now t s) (λ m. run-append now m xs ys)

pub run-append_ok : (now : ℤ) (s n : Progress) (xs ys : List Lexeme) → run now s xs ≡ Ok n → run now s (xs ++ ys) ≡ run now n ys
run-append_ok now s n xs ys e = run-append now s xs ys ∙ ap (run_then (λ (m : Progress). run now m ys)) e

pub run-append_err : (now : ℤ) (s : Progress) (xs ys : List Lexeme) (f : Fault) → run now s xs ≡ Err f → run now s (xs ++ ys) ≡ Err f
run-append_err now s xs ys f e = run-append now s xs ys ∙ ap (run_then (λ (m : Progress). run now m ys)) e

-- ---- the token at fault

-- the machine takes the tokens before one, and refuses that one
pub record IsRefused (now : ℤ) (s : Progress) (ts : List Lexeme) (f : Fault) : Type 0 where
  pub front : List Lexeme
  pub token : Lexeme
  pub back : List Lexeme
  pub before : Progress
  pub parts : ts ≡ front ++ token ∷ back
  pub runs : run now s front ≡ Ok before
  pub refused : step now token before ≡ Err f
  pub in_range : length front < length ts
  pub front_taken : take (length front) ts ≡ front
  pub token_taken : take (length front + 1) ts ≡ front ++ token ∷ []

refused_at : (now : ℤ) (s : Progress) (ts : List Lexeme) (f : Fault) (front : List Lexeme) (token : Lexeme) (back : List Lexeme) (before : Progress)
    → ts ≡ front ++ token ∷ back → run now s front ≡ Ok before → step now token before ≡ Err f → IsRefused now s ts f
refused_at now s ts f front token back before parts runs refused = record {
  front = front;
  token = token;
  back = back;
  before = before;
  parts = parts;
  runs = runs;
  refused = refused;
  in_range = rw parts (omega (arith, length-append front (token ∷ back)));
  front_taken = rw parts (take-append_seam front (token ∷ back));
  token_taken = rw parts (take-append-add front (token ∷ back) 1);
}

split_then : (now : ℤ) (s : Progress) (t : Lexeme) (ts : List Lexeme) (f : Fault) (after : Advance) → step now t s ≡ after → run_then (λ (m : Progress). run now m ts) after ≡ Err f
    → ((m : Progress) → run now m ts ≡ Err f → IsRefused now m ts f) → IsRefused now s (t ∷ ts) f
split_then now s t ts f (Ok m) stepped e rest =
    let r : IsRefused now m ts f = rest m e in
    refused_at now s (t ∷ ts) f (t ∷ r.front) r.token r.back r.before (ap (λ l. t ∷ l) r.parts) (ap (run_then (λ (n : Progress). run now n r.front)) stepped ∙ r.runs) r.refused
split_then now s t ts f (Err fault) stepped e rest = refused_at now s (t ∷ ts) f [] t ts s refl refl (stepped ∙ e)

pub split : (now : ℤ) (s : Progress) (ts : List Lexeme) (f : Fault) → run now s ts ≡ Err f → IsRefused now s ts f
split now s [] f e = absurd (cc)
split now s (t ∷ ts) f e = split_then now s t ts f (step now t s) refl e (λ m. split now m ts f)

-- ---- the tokens of a text

abbrev pub finished : Advance → Result (List Select) Fault
finished (Ok s) = Ok s.queries
finished (Err fault) = Err fault

-- a run without a fault has read the text
abbrev Finishes : Advance → Type 0
Finishes (Ok s) = is_done s.state ≡ true
Finishes (Err fault) = Unit {0}

-- the result of the text is that of the run, which has read the text
abbrev Agrees : Result (List Select) Fault → Advance → Type 0
Agrees said after = (said ≡ finished after) × Finishes after

agrees_after : (rest : Progress → ℕ → Result (List Select) Fault) (more : ℕ → List Lexeme) (now : ℤ) (t : Lexeme) (last : Bool) (after : Advance)
    → ((m : Progress) → after ≡ Ok m → is_done m.state ≡ last)
    → (last ≡ false → (m : Progress) → Agrees (rest m t.end) (run now m (more t.end)))
    → Agrees (goes_on rest t after) (run_then (λ (m : Progress). run now m (tokens_after last more t.end)) after)
agrees_after rest more now t last (Err fault) moves next = (refl, tt)
agrees_after rest more now t true (Ok m) moves next = (rw (moves m refl) refl, moves m refl)
agrees_after rest more now t false (Ok m) moves next = let later : Agrees (rest m t.end) (run now m (more t.end)) = next refl m in (rw (moves m refl) later.0, later.1)

-- a text has no more tokens than bytes and one at its end
agrees_on : (n : ℕ) (now : ℤ) (text : Text) (s : Progress) (at : ℕ) → at ≤ length text → length text < n + at → Agrees (read_on n now text s at) (run now s (tokens_from n text at))
agrees_on zero now text s at le lt = absurd (omega arith)
agrees_on (suc n) now text s at le lt =
    agrees_after (read_on n now text) (tokens_from n text) now (token_at text at) (is_end_of_text (token_at text at).kind) (step now (token_at text at) s)
    (λ m e. step_done now (token_at text at) s m e)
    (λ other m.
    let within : (token_at text at).end ≤ length text = token_within text at le in
    let later : at < (token_at text at).end = token_after text at le other in
    agrees_on n now text m (token_at text at).end within (omega arith))

agrees : (now : ℤ) (text : Text) → Agrees (read_on (length text + 1) now text start_progress 0) (run now start_progress (tokens_of text))
unfolding tokens_of
agrees now text = agrees_on (length text + 1) now text start_progress 0 (omega arith) (omega arith)

pub reads_tokens : (now : ℤ) (text : Text) → length text ≤ 65536 → queries_of now text ≡ finished (run now start_progress (tokens_of text))
reads_tokens now text le = short_text now text le ∙ (agrees now text).0

finished_ok : (after : Advance) (qs : List Select) → finished after ≡ Ok qs → Finishes after → (s : Progress) × (after ≡ Ok s) × (s.queries ≡ qs) × (is_done s.state ≡ true)
finished_ok (Ok s) qs e done = (s, refl, cc, done)
finished_ok (Err fault) qs e done = absurd (cc)

finished_err : (after : Advance) (f : Fault) → finished after ≡ Err f → after ≡ Err f
finished_err (Ok s) f e = absurd (cc)
finished_err (Err fault) f e = cc

pub reads_ok : (now : ℤ) (text : Text) (qs : List Select) → length text ≤ 65536 → queries_of now text ≡ Ok qs
    → (s : Progress) × (run now start_progress (tokens_of text) ≡ Ok s) × (s.queries ≡ qs) × (is_done s.state ≡ true)
reads_ok now text qs le e = finished_ok (run now start_progress (tokens_of text)) qs (sym (reads_tokens now text le) ∙ e) (agrees now text).1

pub reads_err : (now : ℤ) (text : Text) (f : Fault) → length text ≤ 65536 → queries_of now text ≡ Err f → run now start_progress (tokens_of text) ≡ Err f
reads_err now text f le e = finished_err (run now start_progress (tokens_of text)) f (sym (reads_tokens now text le) ∙ e)

pub runs_ok : (now : ℤ) (text : Text) (s : Progress) → length text ≤ 65536 → run now start_progress (tokens_of text) ≡ Ok s → queries_of now text ≡ Ok s.queries
runs_ok now text s le e = reads_tokens now text le ∙ ap finished e

pub runs_err : (now : ℤ) (text : Text) (f : Fault) → length text ≤ 65536 → run now start_progress (tokens_of text) ≡ Err f → queries_of now text ≡ Err f
runs_err now text f le e = reads_tokens now text le ∙ ap finished e
