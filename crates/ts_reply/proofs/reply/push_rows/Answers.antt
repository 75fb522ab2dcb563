use Rattle.std.proofs.Common.{rules, ◌≡◌, List, [], ◌∷◌, ◌++◌, codes, sym, subst, string_bytes}
use Rattle.std.proofs.lemmas.Result.{on_ok_weaker}
use Rattle.std.specs.Fmt.{decimal}
use Rattle.serde_json.specs.Data.{object}
use Rattle.serde_json.specs.View.{view}
use Rattle.ts_core.specs.queries.Fills.{FilledGroup}
use Rattle.ts_ql.specs.Selects.{Select}
use Rattle.ts_reply.specs.AppendedData.{AppendsData, IsArray}
use Rattle.ts_reply.specs.Outcomes.{Rows}
use Rattle.ts_reply.specs.Replies.{AreEach, IsSeriesData, IsResultData, statement_id}
use Rattle.ts_reply.proofs.Appended.{if_pushed, rows_appended}
use Rattle.ts_reply.proofs.reply.push_rows.Goals as goal

pub returns-in_ok-push_str-in-Some-3 : goal.returns-in_ok-push_str-in-Some-3
returns-in_ok-push_str-in-Some-3 g c =
    let e = c.args.epoch in
    let n = c.args.number in
    let s = c.args.rows.now.select in
    let first : FilledGroup = c.in-Some.first in
    let others : List FilledGroup = c.next.new.self in
    let old = string_bytes c.args.text.now in
    let groups : c.args.rows.now.groups ≡ first ∷ others = search rules in
    let begun : string_bytes c.push_str.new.self ≡ old ++ codes "{\"series\":" = search rules in
    let series = subst (λ (t : Select). AppendsData (IsArray (AreEach (IsSeriesData e t) (first ∷ others))) (string_bytes c.push_str.new.self) (string_bytes c.push_series.new.text)) c.query.ensures c.in_ok-push_series-in-Some.ensures in
    let named : string_bytes c.push_str-in-Some.new.self ≡ string_bytes c.push_series.new.text ++ codes ",\"statement_id\":" = search rules in
    let numbered : string_bytes c.push_str-in-Some-2.new.self ≡ string_bytes c.push_str-in-Some.new.self ++ decimal n = search rules in
    on_ok_weaker c.push_str-in-Some-3.result
    (λ closed. subst (λ (gs : List FilledGroup). AppendsData (IsResultData e n (Rows s gs)) old (string_bytes c.push_str-in-Some-3.new.self)) (sym groups)
    (rows_appended e n s first others old (string_bytes c.push_str.new.self) (string_bytes c.push_series.new.text) (string_bytes c.push_str-in-Some.new.self) (string_bytes c.push_str-in-Some-2.new.self) (string_bytes c.push_str-in-Some-3.new.self) begun series named numbered closed))
    (if_pushed c.push_str-in-Some-3.result _ _ _ c.push_str-in-Some-3.ensures.bytes)

pub returns-in_ok-empty_result-in-None : goal.returns-in_ok-empty_result-in-None
returns-in_ok-empty_result-in-None g c =
    let e = c.args.epoch in
    let n = c.args.number in
    let s = c.args.rows.now.select in
    let value = c.in_ok-empty_result-in-None.field-0 in
    let none : c.args.rows.now.groups ≡ [] = search rules in
    let is : view value ≡ object (statement_id n) = c.in_ok-empty_result-in-None.ensures in
    on_ok_weaker c.push_value.result
    (λ appended. record {
      told = view value;
      is = subst (λ (gs : List FilledGroup). IsResultData e n (Rows s gs) (view value)) (sym none) is;
      appended = appended;
    }) c.push_value.ensures
