use Rattle.std.proofs.Common.{refl}
use Rattle.serde_json.specs.Data.{no_items}
use Rattle.serde_json.specs.View.{view, items_view}
use Rattle.ts_core.proofs.settings.FoundLemmas.{unwrapped, rules_listed}
use Rattle.ts_core.proofs.settings.first_fault.rules_of.Goals as goal

pub returns : goal.returns
returns c =
    rules_listed (view c.args.value.now) c.unwrap_or.result.now
    (unwrapped (λ vs. items_view vs.now) c.values_at.result _ c.unwrap_or.result _ no_items c.unwrap_or.ensures c.values_at.ensures refl)
