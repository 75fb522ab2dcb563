use Rattle.tsdb.proofs.RequestLemmas.{went}
use Rattle.tsdb.proofs.requests.serve_stream.Goals as goal

pub returns-after-may_be_unread : goal.returns-after-may_be_unread
returns-after-may_be_unread g c = went _ c.args.store.now _ _ _ c.serve_one.new.store _ _ c.serve_one.ensures.served

pub returns-in-Err : goal.returns-in-Err
returns-in-Err g c = went _ c.args.store.now _ _ _ c.serve_one.new.store _ _ c.serve_one.ensures.served
