use Rattle.std.proofs.Common.{◌≡◌, string_bytes}
use Rattle.ts_reply.specs.Replies.{IsSeriesData}
use Rattle.ts_reply.proofs.Appended.{IsTold}
use Rattle.ts_reply.proofs.reply.push_more_groups.Given as goal

abbrev pub invariant-loop-group : goal.invariant-loop-group
invariant-loop-group g l = (l.times ≡ l.fn.times) × IsTold (IsSeriesData l.fn.times l.query) l.fn.groups l.group-iterator (string_bytes l.initial.text) (string_bytes l.text)
