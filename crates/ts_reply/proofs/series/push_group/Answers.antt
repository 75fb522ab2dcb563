use Rattle.std.proofs.Common.{rules, ◌≡◌, ◌++◌, codes, string_bytes}
use Rattle.std.proofs.lemmas.Result.{on_ok_weaker}
use Rattle.ts_core.specs.queries.Fills.{FilledGroup}
use Rattle.ts_reply.specs.AppendedData.{AppendsData, IsArray}
use Rattle.ts_reply.specs.Replies.{AreEach, IsRowData}
use Rattle.ts_reply.specs.SeriesTexts.{series_head, grouped_tags_text}
use Rattle.ts_reply.proofs.Appended.{if_pushed}
use Rattle.ts_reply.proofs.SeriesParts.{group_appended}
use Rattle.ts_reply.proofs.series.push_group.Goals as goal

pub returns-clause-value : goal.returns-clause-value
returns-clause-value g c =
    let s = c.args.query.now in
    let group : FilledGroup = c.args.group in
    let old = string_bytes c.args.text.now in
    let headed = string_bytes c.push_str.new.self in
    let tagged = string_bytes c.push_tags.new.text in
    let opened = string_bytes c.push_str-2.new.self in
    let told = string_bytes c.push_group_rows.new.text in
    let head : headed ≡ old ++ series_head s = first_of (search rules, cc) in
    let tags : tagged ≡ headed ++ grouped_tags_text s.query.group_tags group.values = first_of (search rules, cc) in
    let values : opened ≡ tagged ++ codes ",\"values\":" = search rules in
    let rows : AppendsData (IsArray (AreEach (IsRowData c.args.times.now) group.rows)) opened told = search rules in
    on_ok_weaker c.push_str-3.result (group_appended c.args.times.now s group old headed tagged opened told (string_bytes c.push_str-3.new.self) head tags values rows) (if_pushed c.push_str-3.result _ _ _ c.push_str-3.ensures.bytes)
