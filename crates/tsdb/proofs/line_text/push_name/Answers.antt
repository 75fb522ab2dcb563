use Rattle.std.proofs.Common.{rules, ◌<◌, ◌∙◌, ◌++◌, ap, length, slice_index}
use Rattle.ts_core.specs.facts.Facts.{Text}
use Rattle.tsdb.specs.Exports.{stops_of, escaped_byte}
use Rattle.tsdb.proofs.AppendLemmas.{byte_at, appended_more}
use Rattle.tsdb.proofs.line_text.push_name.Goals as goal

pub loop-byte-preserved : goal.loop-byte-preserved
loop-byte-preserved c =
    let lt : c.loop-byte.byte-index < length c.args.name.now = search rules in
    let more = c.in_ok-push_byte.ensures ∙ ap (λ (t : Text). c.loop-byte.line.items ++ escaped_byte (stops_of c.args.part) (slice_index t c.loop-byte.byte-index)) c.as_bytes-byte-items.ensures.value in
    appended_more (escaped_byte (stops_of c.args.part)) c.args.name.now c.loop-byte.byte-index (slice_index c.args.name.now c.loop-byte.byte-index) c.args.line.now.items c.loop-byte.line.items c.push_byte.new.line.items
    lt (byte_at c.args.name.now c.loop-byte.byte-index lt) c.loop-byte.invariant more
