use Rattle.std.proofs.Common.{arith}
use Rattle.std.proofs.lemmas.Result.{err_from_is_err_and}
use Rattle.ts_core.proofs.io.OutputBufferLemmas.{refused_flush, put_around}
use Rattle.ts_core.proofs.io.output_buffer.OutputBuffer.write_all.Goals as goal

pub returns-in_err-flush : goal.returns-in_err-flush
returns-in_err-flush g c =
    let p = err_from_is_err_and c.from_residual.result c.from_residual.ensures.1 in
    let s = c.in_err-flush.ensures.buffered in
    rw p.1 record {
      ok = tt;
      err = refused_flush c.args.sink.now.contents c.flush.new.sink.contents c.args.self.now c.args.bytes.now s.err;
      lost = s.lost;
      failures = omega (arith, s.failures);
    }

pub returns-then-bytes-self-2 : goal.returns-then-bytes-self-2
returns-then-bytes-self-2 g c =
    let s = c.in_ok-flush.ensures in
    put_around c.args.sink.now c.flush.new.sink c.write_all.new.self c.args.self.now c.args.bytes.now c.flush.new.self c.write_all.result s.empty s.buffered.ok s.buffered.failures c.write_all.ensures
