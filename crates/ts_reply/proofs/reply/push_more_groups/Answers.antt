use Rattle.std.proofs.Common.{rules, ◌≡◌, List, [], ◌∷◌, ◌++◌, codes, refl, subst, ◌∙◌, string_bytes}
use Rattle.std.proofs.lemmas.Result.{on_ok_weaker}
use Rattle.ts_core.specs.queries.Fills.{FilledGroup}
use Rattle.ts_reply.specs.AppendedData.{AppendsData}
use Rattle.ts_reply.specs.declared.epoch.Epoch.{Epoch}
use Rattle.ts_reply.specs.Replies.{IsSeriesData}
use Rattle.ts_reply.proofs.Appended.{if_pushed, IsTold, none_told, one_more_told, all_told}
use Rattle.ts_reply.proofs.reply.push_more_groups.Goals as goal

pub loop-group-init : goal.loop-group-init
loop-group-init g c = (refl, none_told (IsSeriesData c.args.times.now c.args.query.now) c.args.groups c.into_iter-group-iterator.result (string_bytes c.args.text.now) (search rules))

pub loop-group-preserved : goal.loop-group-preserved
loop-group-preserved g c =
    let old = string_bytes c.args.text.now in
    let told = string_bytes c.loop-group.text in
    let group : FilledGroup = c.in-Some.group in
    let left : c.loop-group.group-iterator ≡ group ∷ c.next.new.self = search rules in
    let comma : string_bytes c.push_str.new.self ≡ told ++ codes "," = search rules in
    let same = c.loop-group.invariant.0 in (
      c.push_group.ensures.same ∙ same,
      one_more_told (IsSeriesData c.args.times.now c.args.query.now) c.args.groups group c.next.new.self old told (string_bytes c.push_str.new.self) (string_bytes c.push_group.new.text)
          (subst (λ (gs : List FilledGroup). IsTold (IsSeriesData c.args.times.now c.args.query.now) c.args.groups gs old told) left c.loop-group.invariant.1) comma
          (subst (λ (epoch : Epoch). AppendsData (IsSeriesData epoch c.args.query.now group) (string_bytes c.push_str.new.self) (string_bytes c.push_group.new.text)) same c.in_ok-push_group.ensures.value),
    )

pub returns : goal.returns
returns g c =
    let old = string_bytes c.args.text.now in
    let told = string_bytes c.loop-group.text in
    let left : c.loop-group.group-iterator ≡ [] = search rules in
    let whole = subst (λ (gs : List FilledGroup). IsTold (IsSeriesData c.args.times.now c.args.query.now) c.args.groups gs old told) left c.loop-group.invariant.1 in
    on_ok_weaker c.push_str-2.result (all_told (IsSeriesData c.args.times.now c.args.query.now) c.args.groups old told (string_bytes c.push_str-2.new.self) whole) (if_pushed c.push_str-2.result _ _ _ c.push_str-2.ensures.bytes)
