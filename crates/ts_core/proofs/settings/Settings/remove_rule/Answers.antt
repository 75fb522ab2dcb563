use Rattle.std.proofs.Common.{◌≡◌, None, List, sym, subst, ◌<◌, length}
use Rattle.std.specs.List.{AllByRecursion}
use Rattle.ts_core.specs.settings.Settings.{Rule, IsPossibleRule, Settings}
use Rattle.ts_core.specs.settings.SettingsFaults.{settings_fault}
use Rattle.ts_core.proofs.settings.RuleIndices.{all_remove, removed-faultless}
use Rattle.ts_core.proofs.settings.Settings.remove_rule.Goals as goal

pub invariant_of-self : goal.invariant_of-self
invariant_of-self g c =
    let old : Settings = record { raw_duration = c.self.inside.raw_duration; rules = c.self.inside.rules.items } in
    let inside : c.args.index < length old.rules = subst (λ (s : Settings). c.args.index < length s.rules) (sym c.self.view_is) c.requires in
    record {
      faultless = subst (λ (rs : List Rule). settings_fault (record { raw_duration = c.self.inside.raw_duration; rules = rs }) ≡ None) (sym c.remove.ensures.items) (removed-faultless old c.args.index inside c.self.invariant.faultless);
      duration = c.self.invariant.duration;
      rules = subst (AllByRecursion IsPossibleRule) (sym c.remove.ensures.items) (all_remove IsPossibleRule c.self.inside.rules.items c.args.index c.self.invariant.rules);
    }
