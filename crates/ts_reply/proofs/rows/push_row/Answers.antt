use Rattle.std.proofs.Common.{rules, ◌≡◌, true, ◌++◌, map, codes, string_bytes, OnOk}
use Rattle.std.proofs.lemmas.Result.{on_ok_weaker}
use Rattle.serde_json.specs.View.{items_of}
use Rattle.serde_json.specs.Written.{items_text}
use Rattle.ts_reply.specs.AppendedData.{AppendsData}
use Rattle.ts_reply.specs.Replies.{value_data, IsTimeData}
use Rattle.ts_reply.proofs.RowTexts.{row_appended}
use Rattle.ts_reply.proofs.rows.push_row.Goals as goal

pub returns-clause-value : goal.returns-clause-value
returns-clause-value g c =
    let old = string_bytes c.args.text.now in
    let opened = string_bytes c.push_str.new.self in
    let told = string_bytes c.push.new.text in
    let new = string_bytes c.push_values.new.text in
    let row = c.args.row.now in
    let begun : opened ≡ old ++ codes "[" = search rules in
    let time : AppendsData (IsTimeData c.args.times.now row.start) opened told = search rules in
    let cells : OnOk c.push_values.result (new ≡ told ++ items_text true (items_of (map value_data row.values))) = search rules in
    on_ok_weaker c.push_values.result (row_appended c.args.times.now row old opened told new begun time) cells
