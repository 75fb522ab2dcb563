use Rattle.std.proofs.Common.{rules, ◌≡◌, ◌++◌, codes, true, OnOk, subst, ◌∙◌, string_bytes}
use Rattle.std.proofs.lemmas.Result.{on_ok_weaker}
use Rattle.ts_reply.specs.AppendedData.{AppendsData, AppendsItems}
use Rattle.ts_reply.specs.declared.epoch.Epoch.{Epoch}
use Rattle.ts_reply.specs.Replies.{AreEach, IsSeriesData}
use Rattle.ts_reply.proofs.Appended.{array_appended}
use Rattle.ts_reply.proofs.reply.push_series.Goals as goal

pub returns : goal.returns
returns g c =
    let opened : string_bytes c.push_str.new.self ≡ string_bytes c.args.text.now ++ codes "[" = search rules in
    on_ok_weaker c.push_more_groups.result
    (array_appended (IsSeriesData c.args.epoch c.args.query.now) c.args.first c.args.others (string_bytes c.args.text.now) (string_bytes c.push_str.new.self) (string_bytes c.push_group.new.text) (string_bytes c.push_more_groups.new.text) opened (subst (λ (epoch : Epoch). AppendsData (IsSeriesData epoch c.args.query.now c.args.first) (string_bytes c.push_str.new.self) (string_bytes c.push_group.new.text)) c.new-times.ensures c.in_ok-push_group.ensures.value))
    (subst (λ (epoch : Epoch). OnOk c.push_more_groups.result (AppendsItems (AreEach (IsSeriesData epoch c.args.query.now) c.args.others) true (string_bytes c.push_group.new.text) (string_bytes c.push_more_groups.new.text))) (c.push_group.ensures.same ∙ c.new-times.ensures) c.push_more_groups.ensures)
