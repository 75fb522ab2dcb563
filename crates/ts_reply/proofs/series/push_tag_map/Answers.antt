use Rattle.std.proofs.Common.{rules, refl, ◌≡◌}
use Rattle.serde_json.specs.Data.{object, no_members}
use Rattle.serde_json.specs.View.{view}
use Rattle.ts_ql.specs.Selects.{texts}
use Rattle.ts_reply.specs.Replies.{tags_among}
use Rattle.ts_reply.proofs.Floats.{tags_without}
use Rattle.ts_reply.proofs.series.push_tag_map.Goals as goal

pub push_value-requires : goal.push_value-requires
push_value-requires g c =
    let is : view c.from.result ≡ object (tags_among no_members (texts c.args.tags.now) c.args.values.now) = search rules in
    rw is (tags_without (texts c.args.tags.now) c.args.values.now no_members refl)
