-- One token of a text.
use Rattle.std.proofs.Common.{◌≡◌, ℕ, suc, ◌+◌, ◌-◌, ◌<◌, ◌≤◌, false, length, ℤ, List, Result, Ok, Err, arith, refl, sym, ap, ◌∙◌}
use Rattle.std.proofs.lemmas.Bool.{le-ltb, lt-ltb, ne_eqb}
use Rattle.ts_core.specs.facts.Facts.{Text}
use Rattle.ts_ql.specs.declared.state.State.{State}
use Rattle.ts_ql.specs.declared.state.State.TheVariants as states
use Rattle.ts_ql.specs.declared.token.Kind.{Kind}
use Rattle.ts_ql.specs.declared.token.Kind.TheVariants as kinds
use Rattle.ts_ql.specs.QueryFaults.{Fault, Syntax, unexpected}
use Rattle.ts_ql.specs.Lexing.{token_at}
use Rattle.ts_ql.specs.Reading.{Progress, Advance, start_progress, begun_at, step, is_done, goes_on, read_on, queries_of}
use Rattle.ts_ql.specs.Selects.{Select}
use Rattle.ts_ql.specs.Tokens.{Lexeme}

-- ---- the beginning of a statement

pub begun_other : (k : Kind) (t : Lexeme) (s : Progress) → (k ≡ kinds.Keyword → ⊥) → (k ≡ kinds.End → ⊥) → begun_at k t s ≡ Err (unexpected t)
begun_other kinds.Keyword t s h e = absurd (h refl)
begun_other kinds.End t s h e = absurd (e refl)
begun_other k t s h e = refl

pub begun_last : (k : Kind) (t : Lexeme) (s : Progress) → k ≡ kinds.End → (s.count ≡ 0 → ⊥) → begun_at k t s ≡ Ok (record s { state = states.Done })
begun_last k t s e some = rw (e, ne_eqb s.count 0 some) refl

-- ---- token by token

read_on_step : (most i : ℕ) (now : ℤ) (text : Text) (s : Progress) (at : ℕ) → i < most
    → read_on (most - i) now text s at ≡ goes_on (read_on (most - (i + 1)) now text) (token_at text at) (step now (token_at text at) s)
read_on_step most i now text s at lt = let more : most - i ≡ suc (most - (i + 1)) = omega arith in rw more refl

abbrev with_rest : ℕ → ℕ → ℤ → Text → ℕ → Advance → Result (List Select) Fault
with_rest most i now text at after = goes_on (read_on (most - (i + 1)) now text) (token_at text at) after

pub read_failed : (most i : ℕ) (now : ℤ) (text : Text) (s : Progress) (at : ℕ) (f : Fault) (said : Result (List Select) Fault) → i < most
    → read_on (most - i) now text s at ≡ said → step now (token_at text at) s ≡ Err f → said ≡ Err f
read_failed most i now text s at f said lt reads fails = sym reads ∙ (read_on_step most i now text s at lt ∙ ap (with_rest most i now text at) fails)

pub read_done : (most i : ℕ) (now : ℤ) (text : Text) (s : Progress) (at : ℕ) (after : Progress) (said : Result (List Select) Fault) → i < most
    → read_on (most - i) now text s at ≡ said → step now (token_at text at) s ≡ Ok after → after.state ≡ states.Done → said ≡ Ok after.queries
read_done most i now text s at after said lt reads stepped done =
    let ends : with_rest most i now text at (Ok after) ≡ Ok after.queries = rw done refl in
    sym reads ∙ (read_on_step most i now text s at lt ∙ (ap (with_rest most i now text at) stepped ∙ ends))

pub not_done : (p : State) → (p ≡ states.Done → ⊥) → is_done p ≡ false
not_done states.Done h = absurd (h refl)
not_done p h = refl

pub read_more : (most i : ℕ) (now : ℤ) (text : Text) (s : Progress) (at : ℕ) (after : Progress) (said : Result (List Select) Fault) → i < most
    → read_on (most - i) now text s at ≡ said → step now (token_at text at) s ≡ Ok after → (after.state ≡ states.Done → ⊥)
    → read_on (most - (i + 1)) now text after (token_at text at).end ≡ said
read_more most i now text s at after said lt reads stepped more =
    let goes : with_rest most i now text at (Ok after) ≡ read_on (most - (i + 1)) now text after (token_at text at).end = rw (not_done after.state more) refl in
    sym goes ∙ (sym (ap (with_rest most i now text at) stepped) ∙ (sym (read_on_step most i now text s at lt) ∙ reads))

pub read_out : (most i : ℕ) (now : ℤ) (text : Text) (s : Progress) (at : ℕ) (said : Result (List Select) Fault) → most ≤ i
    → read_on (most - i) now text s at ≡ said → said ≡ Err (Syntax (length text))
read_out most i now text s at said le reads =
    let none : most - i ≡ 0 = omega arith in
    let out = rw none at reads in
    sym out

pub read_start : (most : ℕ) (now : ℤ) (text : Text) (s : Progress) → s ≡ start_progress → read_on (most - 0) now text s 0 ≡ read_on most now text start_progress 0
read_start most now text s e = let all : most - 0 ≡ most = omega arith in rw (all, e) refl

pub short_text : (now : ℤ) (text : Text) → length text ≤ 65536 → queries_of now text ≡ read_on (length text + 1) now text start_progress 0
unfolding queries_of
short_text now text le = rw (le-ltb 65536 (length text) le) refl

pub long_text : (now : ℤ) (text : Text) → 65536 < length text → queries_of now text ≡ Err (Syntax 65536)
unfolding queries_of
long_text now text lt = rw (lt-ltb 65536 (length text) lt) refl
