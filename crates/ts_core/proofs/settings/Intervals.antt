-- Intervals of a query and of valid settings, which aren't empty.
use Rattle.std.proofs.Common.{◌≡◌, ℤ, pos, ◌≤ℤ◌, List, [], ◌∷◌, None, ◌∙◌}
use Rattle.std.specs.List.{AllByRecursion}
use Rattle.ts_core.specs.settings.Settings.{Rule, Settings}
use Rattle.ts_core.specs.settings.SettingsFaults.{settings_fault}
use Rattle.ts_core.specs.store.History.{History, Step, AddRule, DropRule, settings_of, IsLawful}
use Rattle.ts_core.specs.store.Marks.{Marks}
use Rattle.ts_core.specs.queries.Queries.{Query, IsQuery}
use Rattle.ts_core.specs.plans.Pieces.{MarkedRule, marked_rules, QueryContext, query_context}
use Rattle.ts_core.proofs.settings.SettingsLaws.{settings_wide}
use Rattle.ts_core.proofs.settings.RuleLaws.{with_rule-fault, without_rule-faultless}

-- of what is asked
pub record IsWide (t : QueryContext) : Type 0 where
  pub query : pos 1 ≤ℤ t.query.interval
  pub rules : AllByRecursion (λ (r : MarkedRule). pos 1 ≤ℤ r.rule.interval) t.rules

pub wide_rules : (rs : List Rule) (lows : List ℤ) → AllByRecursion (λ (r : Rule). pos 1 ≤ℤ r.interval) rs → AllByRecursion (λ (r : MarkedRule). pos 1 ≤ℤ r.rule.interval) (marked_rules rs lows)
wide_rules (r ∷ rs) (low ∷ lows) a = (a.0, wide_rules rs lows a.1)
wide_rules _ lows a = tt

pub wide_of : (s : Settings) (m : Marks) (q : Query) → AllByRecursion (λ (r : Rule). pos 1 ≤ℤ r.interval) s.rules → pos 1 ≤ℤ q.interval → IsWide (query_context s m q)
wide_of s m q a h = record { query = h; rules = wide_rules s.rules m.lows a }

pub asked_wide : (s : Settings) (m : Marks) (q : Query) → settings_fault s ≡ None → IsQuery q → IsWide (query_context s m q)
asked_wide s m q well is = wide_of s m q (settings_wide s well) is.interval

-- ---- the settings of a history

-- a lawful history leaves settings that have no fault
pub settings_faultless : (opening : Settings) (h : History) → IsLawful opening h → settings_fault (settings_of opening h) ≡ None
settings_faultless opening [] l = l
settings_faultless opening (Step ended ∷ h) l = settings_faultless opening h l
settings_faultless opening (AddRule rule ∷ h) l = with_rule-fault (settings_of opening h) rule (settings_faultless opening h l.0) ∙ l.1
settings_faultless opening (DropRule name ∷ h) l = without_rule-faultless (settings_of opening h) name (settings_faultless opening h l.0)
settings_faultless opening (_ ∷ h) l = settings_faultless opening h l.0
