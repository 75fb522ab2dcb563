use Rattle.ts_core.proofs.aggregates.IndicesFit.{indices_fit}
use Rattle.ts_core.proofs.settings.Intervals.{settings_faultless}
use Rattle.ts_core.proofs.store.LowIndices.{first_from-is, low_of-is, low_of-near}
use Rattle.ts_core.proofs.moves.RulesMove.{rule_comes, rule_goes, left_added, left_dropped}
use Rattle.ts_core.specs.moves.RuleMoves.{stays_without}
use Rattle.ts_core.specs.store.StoreData.{RuleData, IsLive}
use Rattle.ts_core.proofs.lists.ListSteps.{all_push, all_filter}
use Rattle.ts_core.proofs.store.laws.rule_moves.Goals as goal

pub returns : goal.returns
returns c = record {
  faultless = settings_faultless;
  starts = first_from-is;
  lows = low_of-is;
  added = λ k r m well fresh opening h st. rule_comes opening h k r m st well fresh;
  dropped = λ k name named opening h st. rule_goes opening h k name st named;
  keep = record {
    added_live = λ k r low m fresh a. all_push (λ (x : RuleData). IsLive k.columns x.rule x.cells) k.rules (record { rule = r; low = low; cells = m }) a fresh.live;
    dropped_live = λ k name a. all_filter (λ (x : RuleData). IsLive k.columns x.rule x.cells) (stays_without name) k.rules a;
    added_left = left_added;
    dropped_left = left_dropped;
  };
  near = low_of-near;
  fit = indices_fit;
}
