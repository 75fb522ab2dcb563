use Rattle.std.proofs.Common.{arith}
use Rattle.tsdb.proofs.RequestLemmas.{went_on, by_one}
use Rattle.tsdb.proofs.requests.serve_all.Goals as goal

pub returns-then-left-eq0 : goal.returns-then-left-eq0
returns-then-left-eq0 g c = went_on c.args.store.now c.loop-stream.store c.serve_stream-changed.new.store c.loop-stream.invariant.went (by_one _ _ _ c.serve_stream-changed.ensures)

pub loop-stream-preserved : goal.loop-stream-preserved
loop-stream-preserved g c = record {
  ready = tt;
  finite = tt;
  left = let some = c.loop-stream.invariant.left in let more = c.if-left-eq0.false in omega (arith, some, more);
  went = went_on c.args.store.now c.loop-stream.store c.serve_stream-changed.new.store c.loop-stream.invariant.went (by_one _ _ _ c.serve_stream-changed.ensures);
}
