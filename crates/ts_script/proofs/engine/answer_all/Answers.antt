use Rattle.std.proofs.Common.{◌≡◌, true, false, true≢false, refl, sym, ap, ◌∙◌, Err, arith}
use Rattle.std.proofs.lemmas.Result.{err_from_is_err_and}
use Rattle.ts_core.specs.io.ReadingAhead.{Ahead, bit}
use Rattle.ts_core.proofs.io.ReadCounts.{no_read_counts, reads_count_on}
use Rattle.ts_script.specs.LineReading.{lines_to_come}
use Rattle.ts_script.specs.ScriptReplies.{text_of}
use Rattle.ts_script.specs.RunFaults.{fault_of_read}
use Rattle.ts_script.proofs.Progress.{begins, goes_on, sends, cut_off, cut_short, cut_at_end, all_answered, all_before_cut, reader_is_not_writer, reader_told, turns_told, writer_silent, memory_silent, writer_is_not_memory, writer_is_not_turns, done_has_no_fault}
use Rattle.ts_script.proofs.engine.answer_all.Goals as goal

pub loop-lines-init : goal.loop-lines-init
loop-lines-init g c =
    let e = c.requires.lines in
    let reads : c.args.lines.now.ahead.reads ≡ 0 = ap (λ (a : Ahead). a.reads) e in
    record {
      progress = begins c.args.source.now.remaining c.args.sink.now.contents c.args.lines.now.ahead.buffered c.args.lines.now.ahead.ended c.args.machine.now (ap (λ (a : Ahead). a.buffered) e) (ap (λ (a : Ahead). a.ended) e) c.requires.machine c.args.answers.now c.requires.answers;
      over = λ h. let x : c.args.lines.now.ahead.ended ≡ false = ap (λ (a : Ahead). a.ended) e in cc;
      reads = omega (arith, reads);
      allowed = refl;
      within = omega (arith, reads);
      each = no_read_counts c.args.source.now;
      ends = omega (arith, ap (λ (a : Ahead). bit a.ended) e);
      reader = refl;
      writer = refl;
      spare = c.requires.text;
    }

pub returns-in_err-send_before_wait : goal.returns-in_err-send_before_wait
returns-in_err-send_before_wait g c =
    let p = err_from_is_err_and c.from_residual.result c.from_residual.ensures.1 in
    let i = c.loop-lines.invariant in
    let s = c.in_err-send_before_wait.ensures.sent in
    let e = cut_off c.args.source.now.remaining c.loop-lines.lines c.loop-lines.source c.args.sink.now.contents c.loop-lines.sink.contents c.send_before_wait.new.sink.contents c.loop-lines.answers c.loop-lines.machine i.over i.progress s.err in
    rw (p.1, p.2) record {
      came = e.came;
      ended = c.loop-lines.lines.ahead.ended;
      read = record { bytes = e.bytes; end = λ h. (i.over h).1; ends = i.ends };
      whole = tt;
      answered = λ w. absurd (w refl);
      begun = λ w. e.answers;
      memory = λ e. absurd (writer_is_not_memory _ refl e);
      reader = omega (arith, i.reader);
      writer = omega (arith, i.writer, s.failures);
      end = tt;
      within = omega (arith, i.reads, i.within, i.allowed);
      each = i.each;
      limit = λ e. absurd (writer_is_not_turns _ refl e);
    }

pub loop-lines-preserved : goal.loop-lines-preserved
loop-lines-preserved g c =
    let i = c.loop-lines.invariant in
    let b = c.in_ok-send_before_wait.ensures.sent in
    let n = c.in_ok-next.ensures in
    let s = c.in_ok-send.ensures in
    record {
      progress = goes_on c.args.source.now.remaining c.loop-lines.lines c.next.new.self c.loop-lines.source c.next.new.source c.args.sink.now.contents c.send_before_wait.new.sink.contents c.send.new.sink.contents c.send_before_wait.new.answers c.send.new.answers c.line.result.now c.in_ok-next.next c.loop-lines.machine c.answer-reply.new.machine (text_of c.answer-reply.result) c.line.ensures.line c.in_default.not-End
          (sends c.args.source.now.remaining (lines_to_come c.loop-lines.lines c.loop-lines.source) c.loop-lines.lines.ahead.ended c.args.sink.now.contents c.loop-lines.sink.contents c.send_before_wait.new.sink.contents c.loop-lines.answers c.send_before_wait.new.answers c.loop-lines.machine i.progress c.in_ok-send_before_wait.ensures.sent.ok)
          n.next c.answer-reply.ensures s.sent.ok;
      over = n.source_calls.end;
      reads = omega (arith, i.reads, n.source_calls.reads);
      allowed = n.source_calls.allowed ∙ i.allowed;
      within = n.source_calls.within;
      each = reads_count_on c.args.source.now c.loop-lines.source c.next.new.source i.each n.source_calls.each;
      ends = omega (arith, i.ends, n.source_calls.ends);
      reader = omega (arith, i.reader, n.source_calls.failures);
      writer = omega (arith, i.writer, b.failures, s.sent.failures);
      spare = s.spare;
    }

pub returns-in_err-send : goal.returns-in_err-send
returns-in_err-send g c =
    let p = err_from_is_err_and c.from_residual-in_err-send.result c.from_residual-in_err-send.ensures.1 in
    let i = c.loop-lines.invariant in
    let b = c.in_ok-send_before_wait.ensures.sent in
    let n = c.in_ok-next.ensures in
    let s = c.in_err-send.ensures.sent in
    let e = cut_short c.args.source.now.remaining c.loop-lines.lines c.next.new.self c.loop-lines.source c.next.new.source c.args.sink.now.contents c.send_before_wait.new.sink.contents c.send.new.sink.contents c.send_before_wait.new.answers c.line.result.now c.in_ok-next.next c.loop-lines.machine c.answer-reply.new.machine (text_of c.answer-reply.result) c.line.ensures.line c.in_default.not-End n.source_calls.end
    (sends c.args.source.now.remaining (lines_to_come c.loop-lines.lines c.loop-lines.source) c.loop-lines.lines.ahead.ended c.args.sink.now.contents c.loop-lines.sink.contents c.send_before_wait.new.sink.contents c.loop-lines.answers c.send_before_wait.new.answers c.loop-lines.machine i.progress c.in_ok-send_before_wait.ensures.sent.ok)
    n.next c.answer-reply.ensures s.err in
    rw (p.1, p.2) record {
      came = e.came;
      ended = c.next.new.self.ahead.ended;
      read = record { bytes = e.bytes; end = λ h. (n.source_calls.end h).1; ends = omega (arith, i.ends, n.source_calls.ends) };
      whole = tt;
      answered = λ w. absurd (w refl);
      begun = λ w. e.answers;
      memory = λ e. absurd (writer_is_not_memory _ refl e);
      reader = omega (arith, i.reader, n.source_calls.failures);
      writer = omega (arith, i.writer, b.failures, s.failures);
      end = tt;
      within = omega (arith, i.reads, i.allowed, n.source_calls.reads, n.source_calls.within, n.source_calls.allowed);
      each = reads_count_on c.args.source.now c.loop-lines.source c.next.new.source i.each n.source_calls.each;
      limit = λ e. absurd (writer_is_not_turns _ refl e);
    }

pub returns-in_err-next : goal.returns-in_err-next
returns-in_err-next g c =
    let result = c.from_residual-in_err-next.result in
    let p = err_from_is_err_and result c.from_residual-in_err-next.ensures.1 in
    let i = c.loop-lines.invariant in
    let b = c.in_ok-send_before_wait.ensures in
    let n = c.next.ensures.source_calls in
    let fault = c.in_err-next.field-0.0 in
    let told : result ≡ Err (fault_of_read fault) = p.1 ∙ ap Err p.2 in
    let going = c.in_err-next.ensures.source_calls.stays in
    let e = all_before_cut c.args.source.now.remaining c.loop-lines.lines c.next.new.self c.loop-lines.source c.next.new.source c.args.sink.now.contents c.send_before_wait.new.sink.contents c.send_before_wait.new.answers c.loop-lines.machine
    (sends c.args.source.now.remaining (lines_to_come c.loop-lines.lines c.loop-lines.source) c.loop-lines.lines.ahead.ended c.args.sink.now.contents c.loop-lines.sink.contents c.send_before_wait.new.sink.contents c.loop-lines.answers c.send_before_wait.new.answers c.loop-lines.machine i.progress c.in_ok-send_before_wait.ensures.sent.ok)
    c.in_err-next.ensures.cut b.flushed in
    record {
      came = e.came;
      ended = false;
      read = record { bytes = e.bytes; end = λ h. absurd (true≢false (sym h)); ends = omega (arith, i.ends, n.ends, ap bit going) };
      whole = rw told tt;
      answered = λ w. e.answers;
      begun = λ w. absurd (reader_is_not_writer fault result told w);
      memory = λ e. absurd (memory_silent result fault told e);
      reader = omega (arith, i.reader, n.failures, reader_told fault result c.next.result told c.in_err-next.was);
      writer = omega (arith, i.writer, b.sent.failures, writer_silent result fault told);
      end = rw told tt;
      within = omega (arith, i.reads, i.allowed, n.reads, n.within, n.allowed);
      each = reads_count_on c.args.source.now c.loop-lines.source c.next.new.source i.each n.each;
      limit = λ t.
          let at = n.limit (turns_told fault result c.next.result told c.in_err-next.was t) in
          (omega (arith, i.reads, i.allowed, n.reads, n.allowed, at), omega (arith, i.ends, n.ends, ap bit going));
    }

pub returns-in_err-flush : goal.returns-in_err-flush
returns-in_err-flush g c =
    let p = err_from_is_err_and c.from_residual-in_err-flush.result c.from_residual-in_err-flush.ensures.1 in
    let i = c.loop-lines.invariant in
    let b = c.in_ok-send_before_wait.ensures.sent in
    let n = c.in_ok-next.ensures in
    let s = c.in_err-flush.ensures.buffered in
    let e = cut_at_end c.args.source.now.remaining c.loop-lines.lines c.next.new.self c.loop-lines.source c.next.new.source c.args.sink.now.contents c.send_before_wait.new.sink.contents c.flush.new.sink.contents c.send_before_wait.new.answers c.in_ok-next.next c.loop-lines.machine c.in-End.is n.source_calls.end
    (sends c.args.source.now.remaining (lines_to_come c.loop-lines.lines c.loop-lines.source) c.loop-lines.lines.ahead.ended c.args.sink.now.contents c.loop-lines.sink.contents c.send_before_wait.new.sink.contents c.loop-lines.answers c.send_before_wait.new.answers c.loop-lines.machine i.progress c.in_ok-send_before_wait.ensures.sent.ok)
    n.next s.err in
    rw (p.1, p.2) record {
      came = e.came;
      ended = true;
      read = record { bytes = e.bytes; end = λ h. (n.source_calls.end (n.goes_on.over c.in-End.is)).1; ends = omega (arith, i.ends, n.source_calls.ends, ap bit (n.goes_on.over c.in-End.is)) };
      whole = tt;
      answered = λ w. absurd (w refl);
      begun = λ w. e.answers;
      memory = λ e. absurd (writer_is_not_memory _ refl e);
      reader = omega (arith, i.reader, n.source_calls.failures);
      writer = omega (arith, i.writer, b.failures, s.failures);
      end = tt;
      within = omega (arith, i.reads, i.allowed, n.source_calls.reads, n.source_calls.within, n.source_calls.allowed);
      each = reads_count_on c.args.source.now c.loop-lines.source c.next.new.source i.each n.source_calls.each;
      limit = λ e. absurd (writer_is_not_turns _ refl e);
    }

pub returns-in-End : goal.returns-in-End
returns-in-End g c =
    let i = c.loop-lines.invariant in
    let b = c.in_ok-send_before_wait.ensures.sent in
    let n = c.in_ok-next.ensures in
    let s = c.in_ok-flush.ensures in
    let e = all_answered c.args.source.now.remaining c.loop-lines.lines c.next.new.self c.loop-lines.source c.next.new.source c.args.sink.now.contents c.flush.new.sink.contents c.flush.new.self c.in_ok-next.next c.loop-lines.machine c.in-End.is n.source_calls.end
    (sends c.args.source.now.remaining (lines_to_come c.loop-lines.lines c.loop-lines.source) c.loop-lines.lines.ahead.ended c.args.sink.now.contents c.send_before_wait.new.sink.contents c.flush.new.sink.contents c.send_before_wait.new.answers c.flush.new.self c.loop-lines.machine (sends c.args.source.now.remaining (lines_to_come c.loop-lines.lines c.loop-lines.source) c.loop-lines.lines.ahead.ended c.args.sink.now.contents c.loop-lines.sink.contents c.send_before_wait.new.sink.contents c.loop-lines.answers c.send_before_wait.new.answers c.loop-lines.machine i.progress c.in_ok-send_before_wait.ensures.sent.ok) s.buffered.ok)
    n.next s.empty in
    record {
      came = e.came;
      ended = true;
      read = record { bytes = e.bytes; end = λ h. (n.source_calls.end (n.goes_on.over c.in-End.is)).1; ends = omega (arith, i.ends, n.source_calls.ends, ap bit (n.goes_on.over c.in-End.is)) };
      whole = refl;
      answered = λ w. e.answers;
      begun = λ w. absurd (done_has_no_fault _ _ _ refl w);
      memory = λ e. absurd (done_has_no_fault _ _ _ refl e);
      reader = omega (arith, i.reader, n.source_calls.failures);
      writer = omega (arith, i.writer, b.failures, s.buffered.failures);
      end = omega (arith, i.ends, n.source_calls.ends, ap bit (n.goes_on.over c.in-End.is));
      within = omega (arith, i.reads, i.allowed, n.source_calls.reads, n.source_calls.within, n.source_calls.allowed);
      each = reads_count_on c.args.source.now c.loop-lines.source c.next.new.source i.each n.source_calls.each;
      limit = λ e. absurd (done_has_no_fault _ _ _ refl e);
    }

pub loop-lines-smaller : goal.loop-lines-smaller
loop-lines-smaller g c = c.in_ok-next.ensures.goes_on.less c.in_default.not-End
