use Rattle.std.proofs.Common.{rules, ◌≡◌}
use Rattle.serde_json.specs.View.{view}
use Rattle.ts_reply.specs.Replies.{columns_data}
use Rattle.ts_reply.proofs.Floats.{columns_without}
use Rattle.ts_reply.proofs.series.series_head.Goals as goal

pub push_value-requires : goal.push_value-requires
push_value-requires g c =
    let is : view c.from-columns.result ≡ columns_data c.args.query.now = first_of (search rules, cc) in
    rw is (columns_without c.args.query.now)
