use Rattle.std.proofs.Common.{◌≡◌, drop}
use Rattle.serde_json.specs.View.{members_view}
use Rattle.ts_ql.specs.Selects.{texts}
use Rattle.ts_reply.specs.Replies.{tags_among}
use Rattle.ts_reply.proofs.series.insert_tags.Given as goal

abbrev pub invariant-loop-tag : goal.invariant-loop-tag
invariant-loop-tag g l =
    tags_among (members_view l.members.entries) (texts (drop l.tag-index l.tags)) l.values ≡ tags_among (members_view l.fn.members.entries) (texts l.tags) l.fn.values
