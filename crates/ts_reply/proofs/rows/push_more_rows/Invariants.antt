use Rattle.std.proofs.Common.{◌≡◌, string_bytes}
use Rattle.ts_reply.specs.Replies.{IsRowData}
use Rattle.ts_reply.proofs.Appended.{IsTold}
use Rattle.ts_reply.proofs.rows.push_more_rows.Given as goal

abbrev pub invariant-loop-row : goal.invariant-loop-row
invariant-loop-row g l = (l.times ≡ l.fn.times) × IsTold (IsRowData l.fn.times) l.fn.rows l.row-iterator (string_bytes l.initial.text) (string_bytes l.text)
