use Rattle.std.proofs.Common.{◌≡◌, [], false, true, refl, sym, ap, ◌∙◌}
use Rattle.std.proofs.KnownBytes.{Consumes-nil}
use Rattle.ts_script.specs.ReaderState.{ReaderState}
use Rattle.ts_core.specs.io.ReadingAhead.{Ahead}
use Rattle.ts_script.specs.LineReading.{lines_to_come, TakesBuffered, IsLonger}
use Rattle.ts_script.proofs.LineScan.{found_told, nothing_yet}
use Rattle.ts_script.proofs.line_reader.LineReader.next.Goals as goal

pub returns-then-borrow_line-clause-next : goal.returns-then-borrow_line-clause-next
returns-then-borrow_line-clause-next g c =
    let t : TakesBuffered c.start_line.new.self true c.borrow_line.new.self = rw c.if-borrow_line.true at c.borrow_line.ensures.taken in
    let line : IsLonger c.start_line.new.self c.borrow_line.new.self = rw c.if-borrow_line.true at c.borrow_line.ensures.line in
    let start = c.start_line.new.self in
    let so = nothing_yet (lines_to_come start c.args.source.now) start.line start.long c.start_line.ensures.line in
    let begun : c.args.self.now.ahead.ended ≡ false = sym (ap (λ (r : ReaderState). r.ahead.ended) c.self.view_is) ∙ sym c.has_ended.ensures ∙ c.if-has_ended.false in
    let going : start.ahead.ended ≡ false = ap (λ (a : Ahead). a.ended) c.start_line.ensures.ahead ∙ begun in
    found_told c.args.self.now start start c.borrow_line.new.self c.args.source.now c.args.source.now c.found.result [] begun (t.ended ∙ going) (ap (λ (a : Ahead). a.buffered) c.start_line.ensures.ahead) so
    (sym t.found) line t.buffered c.found.ensures

pub returns-then-has_ended-clause-next : goal.returns-then-has_ended-clause-next
returns-then-has_ended-clause-next g c = record {
  bytes = [];
  came = Consumes-nil (lines_to_come c.args.self.now c.args.source.now);
  line = λ some. absurd (some refl);
  over = λ e. (refl, sym (ap (λ (r : ReaderState). r.ahead.ended) c.self.view_is) ∙ sym c.has_ended.ensures ∙ c.if-has_ended.true);
}
