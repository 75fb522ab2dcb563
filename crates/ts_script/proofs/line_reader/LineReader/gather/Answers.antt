use Rattle.std.proofs.Common.{◌≡◌, false, refl, sym, ap, ◌∙◌, arith}
use Rattle.std.proofs.lemmas.Result.{err_from_is_err_and}
use Rattle.ts_core.specs.io.ReadingAhead.{bit}
use Rattle.ts_core.proofs.io.ReadCounts.{reads_count_on}
use Rattle.ts_script.specs.LineReading.{lines_to_come}
use Rattle.ts_script.proofs.LineScan.{next_is_some, found_told, last_told, more_told, after-whole, flipped, flipped_back}
use Rattle.ts_script.proofs.line_reader.LineReader.gather.Goals as goal

pub returns-then-consume_chunk-clause-next : goal.returns-then-consume_chunk-clause-next
returns-then-consume_chunk-clause-next g c =
    let t = c.consume_chunk.ensures.taken in
    let i = c.loop-self.invariant in
    let so = i.so_far in
    found_told c.args.self.now c.args.self.now c.loop-self.self c.consume_chunk.new.self c.args.source.now c.loop-self.source c.found.result so.0 c.requires.going (t.ended ∙ i.going) refl so.1
    (sym t.found ∙ c.if-consume_chunk.true) c.consume_chunk.ensures.line t.buffered c.found.ensures

pub returns-then-consume_chunk-clause-goes_on : goal.returns-then-consume_chunk-clause-goes_on
returns-then-consume_chunk-clause-goes_on g c =
    let t = c.consume_chunk.ensures.taken in
    let i = c.loop-self.invariant in
    record {
      over = λ e. absurd (next_is_some _ (sym c.found.ensures ∙ e));
      less = λ some. omega (arith, t.less, i.less, ap bit c.if-consume_chunk.true);
    }

pub returns-then-consume_chunk-clause-source_calls : goal.returns-then-consume_chunk-clause-source_calls
returns-then-consume_chunk-clause-source_calls g c =
    let t = c.consume_chunk.ensures.taken in
    let i = c.loop-self.invariant in
    let going : c.consume_chunk.new.self.ahead.ended ≡ false = t.ended ∙ i.going in
    record {
      end = λ e. cc;
      stays = tt;
      allowed = t.limit ∙ i.allowed;
      within = t.within;
      limit = λ e. cc;
      failures = omega (arith, i.failures);
      reads = omega (arith, i.reads, t.reads);
      ends = omega (arith, i.ends, ap bit going, ap bit c.requires.going);
      each = i.each;
    }

pub read_on-requires-clause-empty : goal.read_on-requires-clause-empty
read_on-requires-clause-empty g c = c.consume_chunk.ensures.taken.buffered ∙ after-whole c.loop-self.self.ahead.buffered (sym c.consume_chunk.ensures.taken.found ∙ c.if-consume_chunk.false)

pub returns-in_err-read_on-clause-source_calls : goal.returns-in_err-read_on-clause-source_calls
returns-in_err-read_on-clause-source_calls g c =
    let p = err_from_is_err_and c.from_residual.result c.from_residual.ensures.1 in
    let t = c.consume_chunk.ensures.taken in
    let s = c.in_err-read_on.ensures.source_calls in
    let i = c.loop-self.invariant in
    rw (p.1, p.2) record {
      end = s.end;
      stays = s.stays;
      allowed = s.allowed ∙ t.limit ∙ i.allowed;
      within = s.within;
      limit = λ e. s.limit cc;
      failures = omega (arith, s.failures, i.failures);
      reads = omega (arith, s.reads, i.reads, t.reads);
      ends = omega (arith, s.ends, i.ends, ap bit c.requires.going, ap bit s.stays, ap bit t.ended, ap bit i.going);
      each = reads_count_on c.args.source.now c.loop-self.source c.read_on.new.source i.each s.each;
    }

pub returns-in_err-read_on-clause-cut : goal.returns-in_err-read_on-clause-cut
returns-in_err-read_on-clause-cut g c =
    let p = err_from_is_err_and c.from_residual.result c.from_residual.ensures.1 in
    let t = c.consume_chunk.ensures.taken in
    let f = c.in_err-read_on.ensures.read in
    let so = c.loop-self.invariant.so_far in
    let m = more_told (lines_to_come c.args.self.now c.args.source.now) c.loop-self.self c.consume_chunk.new.self c.read_on.new.self c.loop-self.source c.read_on.new.source so.0 so.1 (sym t.found ∙ c.if-consume_chunk.false) c.consume_chunk.ensures.line t.buffered f.bytes f.line f.long in
    rw p.1 record {
      going = c.requires.going;
      no_lf = c.requires.part;
      bytes = m.0;
      came = m.1.before;
      part = m.1.no_lf;
      none = f.none;
    }

pub returns-then-not-branch-clause-next : goal.returns-then-not-branch-clause-next
returns-then-not-branch-clause-next g c =
    let t = c.consume_chunk.ensures.taken in
    let f = c.in_ok-read_on.ensures.read in
    let so = c.loop-self.invariant.so_far in
    let m = more_told (lines_to_come c.args.self.now c.args.source.now) c.loop-self.self c.consume_chunk.new.self c.read_on.new.self c.loop-self.source c.read_on.new.source so.0 so.1 (sym t.found ∙ c.if-consume_chunk.false) c.consume_chunk.ensures.line t.buffered f.bytes f.line f.long in
    last_told c.args.self.now c.args.self.now c.read_on.new.self c.args.source.now c.read_on.new.source c.last.result m.0 c.requires.going (flipped _ _ f.more c.if-not-branch.true) refl m.1 c.last.ensures

pub returns-then-not-branch-clause-goes_on : goal.returns-then-not-branch-clause-goes_on
returns-then-not-branch-clause-goes_on g c =
    let t = c.consume_chunk.ensures.taken in
    let f = c.in_ok-read_on.ensures.read in
    let i = c.loop-self.invariant in
    record {
      over = λ e. flipped _ _ f.more c.if-not-branch.true;
      less = λ some. omega (arith, t.less, f.less, i.less);
    }

pub returns-then-not-branch-clause-source_calls : goal.returns-then-not-branch-clause-source_calls
returns-then-not-branch-clause-source_calls g c =
    let t = c.consume_chunk.ensures.taken in
    let s = c.in_ok-read_on.ensures.source_calls in
    let i = c.loop-self.invariant in
    let going : c.consume_chunk.new.self.ahead.ended ≡ false = t.ended ∙ i.going in
    record {
      end = s.end;
      stays = tt;
      allowed = s.allowed ∙ t.limit ∙ i.allowed;
      within = s.within;
      limit = λ e. cc;
      failures = omega (arith, s.failures, i.failures);
      reads = omega (arith, s.reads, i.reads, t.reads);
      ends = omega (arith, s.ends, i.ends, ap bit going, ap bit c.requires.going);
      each = reads_count_on c.args.source.now c.loop-self.source c.read_on.new.source i.each s.each;
    }

pub loop-self-smaller : goal.loop-self-smaller
loop-self-smaller g c =
    let s = c.in_ok-read_on.ensures.source_calls in
    let t = c.consume_chunk.ensures.taken in
    omega (arith, c.in_ok-read_on.ensures.read.read_once, t.reads, s.within, s.allowed, t.limit, c.loop-self.invariant.allowed)

pub loop-self-preserved : goal.loop-self-preserved
loop-self-preserved g c =
    let t = c.consume_chunk.ensures.taken in
    let f = c.in_ok-read_on.ensures.read in
    let s = c.in_ok-read_on.ensures.source_calls in
    let i = c.loop-self.invariant in
    let going : c.read_on.new.self.ahead.ended ≡ false = flipped_back _ _ f.more c.if-not-branch.false in
    record {
      so_far = more_told (lines_to_come c.args.self.now c.args.source.now) c.loop-self.self c.consume_chunk.new.self c.read_on.new.self c.loop-self.source c.read_on.new.source i.so_far.0 i.so_far.1 (sym t.found ∙ c.if-consume_chunk.false) c.consume_chunk.ensures.line t.buffered f.bytes f.line f.long;
      going = going;
      allowed = s.allowed ∙ t.limit ∙ i.allowed;
      less = omega (arith, t.less, f.less, i.less);
      failures = omega (arith, s.failures, i.failures);
      reads = omega (arith, s.reads, i.reads, t.reads);
      ends = omega (arith, s.ends, i.ends, ap bit going, ap bit t.ended, ap bit i.going);
      each = reads_count_on c.args.source.now c.loop-self.source c.read_on.new.source i.each s.each;
    }
