use Rattle.std.proofs.Common.{rules, ◌≡◌, List, [], ◌∷◌, ◌++◌, codes, true, OnOk, subst, sym, string_bytes}
use Rattle.std.proofs.lemmas.Result.{on_ok_weaker}
use Rattle.ts_core.specs.queries.Fills.{FilledRow}
use Rattle.ts_reply.specs.AppendedData.{AppendsData, AppendsItems, IsArray}
use Rattle.ts_reply.specs.declared.epoch.Epoch.{Epoch}
use Rattle.ts_reply.specs.Replies.{AreEach, IsRowData}
use Rattle.ts_reply.proofs.Appended.{if_pushed, no_items_appended, array_appended}
use Rattle.ts_reply.proofs.rows.push_group_rows.Goals as goal

pub returns-in-None-clause-value : goal.returns-in-None-clause-value
returns-in-None-clause-value g c =
    let none : c.args.rows ≡ [] = search rules in
    on_ok_weaker c.push_str.result (no_items_appended (IsRowData c.args.times.now) c.args.rows (string_bytes c.args.text.now) (string_bytes c.push_str.new.self) none) (if_pushed c.push_str.result _ _ _ c.push_str.ensures.bytes)

pub returns-in_ok-push_row-in-Some-clause-value : goal.returns-in_ok-push_row-in-Some-clause-value
returns-in_ok-push_row-in-Some-clause-value g c =
    let old = string_bytes c.args.text.now in
    let opened = string_bytes c.push_str-in-Some.new.self in
    let new = string_bytes c.push_more_rows.new.text in
    let first : FilledRow = c.in-Some.first in
    let others : List FilledRow = c.next.new.self in
    let all : c.args.rows ≡ first ∷ others = search rules in
    let begun : opened ≡ old ++ codes "[" = search rules in
    on_ok_weaker c.push_more_rows.result
    (λ more. subst (λ (rs : List FilledRow). AppendsData (IsArray (AreEach (IsRowData c.args.times.now) rs)) old new) (sym all)
    (array_appended (IsRowData c.args.times.now) first others old opened (string_bytes c.push_row.new.text) new begun c.in_ok-push_row-in-Some.ensures.value more))
    (subst (λ (epoch : Epoch). OnOk c.push_more_rows.result (AppendsItems (AreEach (IsRowData epoch) others) true (string_bytes c.push_row.new.text) new)) c.push_row.ensures.same c.push_more_rows.ensures.value)
