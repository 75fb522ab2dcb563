use Rattle.std.proofs.Common.{rules, arith, ◌≡◌, ◌++◌, codes, map, string_bytes}
use Rattle.std.proofs.lemmas.Grind.{common_steps}
use Rattle.ts_reply.specs.OutcomeViews.{outcome_view}
use Rattle.ts_reply.proofs.Appended.{reply_told}
use Rattle.ts_reply.proofs.reply.reply_json.Goals as goal

pub returns : goal.returns
returns g c =
    let begun : string_bytes c.push_str.new.self ≡ codes "{\"results\":[" = first_of (search rules, cc, grind (arith, common_steps)) in
    let closed : string_bytes c.push_str-2.new.self ≡ string_bytes c.push_results.new.text ++ codes "}" = search rules in
    reply_told c.args.epoch (map outcome_view c.args.outcomes.now) (string_bytes c.push_str.new.self) (string_bytes c.push_results.new.text) (string_bytes c.push_str-2.new.self) begun c.in_ok-push_results.ensures closed
