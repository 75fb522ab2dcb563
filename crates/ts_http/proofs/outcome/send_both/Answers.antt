use Rattle.std.proofs.Common.{arith}
use Rattle.std.proofs.lemmas.Result.{err_from_is_err_and}
use Rattle.ts_http.proofs.ActLemmas.{front_sent, both_put}
use Rattle.ts_http.proofs.outcome.send_both.Goals as goal

pub returns-in_err-send_short : goal.returns-in_err-send_short
returns-in_err-send_short g c =
    let p = err_from_is_err_and c.from_residual.result c.from_residual.ensures.1 in
    rw p.1 record {
      ok = tt;
      err = front_sent c.args.sink.now.contents c.send_short-2.new.sink.contents c.args.head.bytes c.args.body.now c.in_err-send_short.ensures.err;
      failures = c.in_err-send_short.ensures.failures;
    }

pub returns : goal.returns
returns g c = both_put c.args.sink.now c.send_short-2.new.sink c.send_text.new.sink c.send_text.result c.args.head.bytes c.args.body.now c.in_ok-send_short.ensures.ok (omega (arith, c.in_ok-send_short.ensures.failures)) c.send_text.ensures
