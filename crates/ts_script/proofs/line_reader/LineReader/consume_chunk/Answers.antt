use Rattle.std.proofs.Common.{take, ℕ, ◌++◌, List, Option, sym, ap, ◌∙◌, subst}
use Rattle.ts_script.specs.ReaderState.{ReaderState, line_so_far}
use Rattle.ts_script.specs.LineReading.{first_line, LineIs, IsLineEnd}
use Rattle.ts_script.proofs.line_reader.LineReader.consume_chunk.Goals as goal

pub returns-clause-line : goal.returns-clause-line
returns-clause-line c = λ before h.
    let Kept = λ (r : ReaderState). LineIs before r.line r.long in
    let s = c.self.inside in
    let ends : IsLineEnd s.ahead.buffered s.end = c.self.invariant.3 in
    let first = ap (take s.end) c.buffered-rest.ensures.value ∙ ends.line ∙ ap (λ (r : ReaderState). first_line r.ahead.buffered) c.self.view_is in
    let held =
    c.copy_borrowed.ensures.line ∙ ap (λ (borrowed : Option (ℕ × ℕ)). line_so_far c.used.result.now borrowed s.line.items) c.take.ensures.value
    ∙ ap (λ (used : List ℕ). line_so_far used s.borrowed s.line.items) c.used.ensures.value in
    let kept = subst (λ (l : List ℕ). LineIs before l s.long) (sym held) (subst Kept (sym c.self.view_is) h) in
    rw c.take.ensures.after
    (subst (λ (l : List ℕ). LineIs (before ++ l) c.extend_line-self-inside.new.line.items c.extend_line-self-inside.result) first (c.extend_line-self-inside.ensures.line before kept))
