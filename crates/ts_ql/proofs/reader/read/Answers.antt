use Rattle.std.proofs.Common.{◌≡◌, ◌⊎◌, inl, inr, ℕ, ◌+◌, ◌<◌, List, length, Result, Ok, Err, arith, sym, ap, ◌∙◌, refl, IsCharBoundary}
use Rattle.std.proofs.lemmas.Str.{IsCharBoundary-start}
use Rattle.ts_core.specs.facts.Facts.{Text}
use Rattle.ts_ql.specs.QueryFaults.{Fault, as_fault}
use Rattle.ts_ql.specs.Lexing.{token_at}
use Rattle.ts_ql.specs.Reading.{step, progress}
use Rattle.ts_ql.specs.Selects.{Select}
use Rattle.ts_ql.specs.Tokens.{Lexeme}
use Rattle.ts_ql.proofs.ReadingLemmas.{read_failed, read_done, read_more, read_out, read_start, short_text}
use Rattle.ts_ql.proofs.SelectsLemmas.{selects_none, selects_more, sound_first, sound_on, columns_outside}
use Rattle.ts_ql.proofs.SumBounds.{starts, follows_on, has_room}
use Rattle.ts_ql.proofs.reader.read.Goals as goal

pub loop-round-init : goal.loop-round-init
loop-round-init g c = record {
  boundary = IsCharBoundary-start c.args.text.now c.utf8.text;
  start = rw (ap (λ s. s.start) c.new-reader.ensures) (IsCharBoundary-start c.args.text.now c.utf8.text);
  reads = read_start (length c.args.text.now + 1) c.args.now c.args.text.now (progress c.new-reader.result) c.new-reader.ensures;
  moment = starts c.args.now (progress c.new-reader.result) c.new-reader.ensures;
  sound = sound_first (progress c.new-reader.result) c.new-reader.ensures;
  columns = selects_none c.args.text.now (progress c.new-reader.result) c.new-reader.ensures;
}

pub parse_token-requires-clause-moment : goal.parse_token-requires-clause-moment
parse_token-requires-clause-moment g c = has_room c.args.now (progress c.loop-round.reader) c.loop-round._round (omega arith) c.loop-round.invariant.moment

pub parse_token-requires-clause-columns : goal.parse_token-requires-clause-columns
parse_token-requires-clause-columns g c = columns_outside c.args.text.now c.loop-round.at (progress c.loop-round.reader) c.loop-round.invariant.columns

pub returns-in-Err-clause-reading : goal.returns-in-Err-clause-reading
returns-in-Err-clause-reading g c =
    let lt : c.loop-round._round < length c.args.text.now + 1 = omega arith in
    let same = ap (λ (l : Lexeme). step c.args.now l (progress c.loop-round.reader)) c.at-token.ensures.value in
    short_text c.args.now c.args.text.now c.requires
    ∙ read_failed (length c.args.text.now + 1) c.loop-round._round c.args.now c.args.text.now (progress c.loop-round.reader) c.loop-round.at (as_fault c.in-Err.fault) _ lt c.loop-round.invariant.reads (sym same ∙ c.in-Err.ensures.value)

pub returns-in-Done-clause-reading : goal.returns-in-Done-clause-reading
returns-in-Done-clause-reading g c =
    let lt : c.loop-round._round < length c.args.text.now + 1 = omega arith in
    let same = ap (λ (l : Lexeme). step c.args.now l (progress c.loop-round.reader)) c.at-token.ensures.value in
    let succeeds : List Select → Result (List Select) Fault = λ queries. Ok queries in
    short_text c.args.now c.args.text.now c.requires
    ∙ read_done (length c.args.text.now + 1) c.loop-round._round c.args.now c.args.text.now (progress c.loop-round.reader) c.loop-round.at (progress c.parse_token.new.self) _ lt c.loop-round.invariant.reads (sym same ∙ c.in_default.ensures.value) c.in-Done.is
    ∙ ap succeeds (sym c.in_ok-into_vec.ensures)

pub returns-in_err-into_vec-clause-memory : goal.returns-in_err-into_vec-clause-memory
returns-in_err-into_vec-clause-memory g c = λ _.
    let lt : c.loop-round._round < length c.args.text.now + 1 = omega arith in
    let same = ap (λ (l : Lexeme). step c.args.now l (progress c.loop-round.reader)) c.at-token.ensures.value in
    let said = short_text c.args.now c.args.text.now c.requires
    ∙ read_done (length c.args.text.now + 1) c.loop-round._round c.args.now c.args.text.now (progress c.loop-round.reader) c.loop-round.at (progress c.parse_token.new.self) _ lt c.loop-round.invariant.reads (sym same ∙ c.in_default.ensures.value) c.in-Done.is in
    rw said refl

-- a statement starts between two characters
starts_at : (text : Text) (new old start : ℕ) → IsCharBoundary text old → IsCharBoundary text start → (new ≡ old) ⊎ (new ≡ start) → IsCharBoundary text new
starts_at text new old start before here (inl e) = rw e before
starts_at text new old start before here (inr e) = rw e here

pub loop-round-preserved : goal.loop-round-preserved
loop-round-preserved g c =
    let text = c.args.text.now in
    let s = progress c.loop-round.reader in
    let m = progress c.parse_token.new.self in
    let at = c.loop-round.at in
    let lt : c.loop-round._round < length text + 1 = omega arith in
    let stepped : step c.args.now (token_at text at) s ≡ Ok m = sym (ap (λ (l : Lexeme). step c.args.now l s) c.at-token.ensures.value) ∙ c.in_default.ensures.value in
    let end : c.at-token.result.end ≡ (token_at text at).end = ap (λ (l : Lexeme). l.end) c.at-token.ensures.value in
    record {
      boundary = c.at-token.ensures.boundary;
      start = starts_at text m.start s.start c.at-token.result.start c.loop-round.invariant.start c.at-token.ensures.start c.in_default.ensures.start;
      reads = rw end (read_more (length text + 1) c.loop-round._round c.args.now text s at m _ lt c.loop-round.invariant.reads stepped c.in_default-state.not-Done);
      moment = follows_on c.args.now (token_at text at) s m c.loop-round._round stepped c.loop-round.invariant.moment;
      sound = sound_on c.args.now (token_at text at) s m c.loop-round.invariant.sound stepped;
      columns = rw end (selects_more c.args.now text at s m c.loop-round.invariant.sound stepped c.loop-round.invariant.columns);
    }

pub returns-clause-reading : goal.returns-clause-reading
returns-clause-reading g c =
    let fails : Fault → Result (List Select) Fault = λ f. Err f in
    short_text c.args.now c.args.text.now c.requires
    ∙ read_out (length c.args.text.now + 1) c.loop-round._round c.args.now c.args.text.now (progress c.loop-round.reader) c.loop-round.at _ c.loop-round-test.false c.loop-round.invariant.reads
    ∙ ap fails (sym c.at.ensures)
