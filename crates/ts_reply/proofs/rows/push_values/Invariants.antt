use Rattle.std.proofs.Common.{◌≡◌, ◌++◌, true, map, string_bytes}
use Rattle.serde_json.specs.View.{items_of}
use Rattle.serde_json.specs.Written.{items_text}
use Rattle.ts_reply.specs.Replies.{value_data}
use Rattle.ts_reply.proofs.rows.push_values.Given as goal

abbrev pub invariant-loop-value : goal.invariant-loop-value
invariant-loop-value g l =
    string_bytes l.text ++ items_text true (items_of (map value_data l.value-iterator)) ≡ string_bytes l.initial.text ++ items_text true (items_of (map value_data l.fn.values))
