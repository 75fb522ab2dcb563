use Rattle.std.proofs.Common.{◌==◌, ◌∙◌, ℕ, ap, false, option_map}
use Rattle.std.specs.Prelude.{unwrap_or}
use Rattle.serde_json.specs.Data.{Members}
use Rattle.ts_core.proofs.settings.EachItem.{counts_members}
use Rattle.ts_core.specs.settings.SettingsTexts.{members_count}
use Rattle.ts_core.proofs.settings.reading.has_keys.Goals as goal

pub returns-in-Some : goal.returns-in-Some
returns-in-Some c =
    ap (λ (n : ℕ). n == c.args.count) (c.len.ensures.len ∙ counts_members c.in-Some.members.now.entries)
    ∙ ap (λ o. unwrap_or (option_map (λ (ms : Members). members_count ms == c.args.count) o) false) c.in-Some.ensures
