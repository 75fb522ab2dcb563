-- A store's query that can be planned: no interval is empty, and the names of rules differ and have the form of names.
use Rattle.std.proofs.Common.{◌≡◌, None, length, sym, subst}
use Rattle.ts_core.specs.lists.Members.{AllDistinct}
use Rattle.ts_core.specs.settings.Settings.{Settings, AreSettings}
use Rattle.ts_core.specs.settings.SettingsFaults.{settings_fault}
use Rattle.ts_core.specs.store.Marks.{Marks}
use Rattle.ts_core.specs.queries.Queries.{Query}
use Rattle.ts_core.specs.plans.Pieces.{QueryContext, query_context}
use Rattle.ts_core.proofs.settings.Intervals.{IsWide}
use Rattle.ts_core.proofs.settings.RuleNames.{marked_names}
use Rattle.ts_plan.specs.Steps.{IsPlannable}
use Rattle.ts_plan.proofs.Spellings.{settings_named}
use Rattle.ts_check.specs.Checks.{HasPositiveIntervals}

-- facts about all queries and rules
pub are_wide : (t : QueryContext) → HasPositiveIntervals t → IsWide t
are_wide t has = record { query = has.query; rules = has.rules }

pub plannable : (s : Settings) (m : Marks) (q : Query) (t : QueryContext) → length m.lows ≡ length s.rules → AreSettings s → settings_fault s ≡ None → t ≡ query_context s m q → IsWide t → IsPlannable t
plannable s m q t l are faultless e wide =
    let parts : IsPlannable (query_context s m q) = record {
      wide = subst IsWide e wide;
      named = subst AllDistinct (sym (marked_names s.rules m.lows l)) are.names;
      spelled = settings_named s m q faultless;
    } in
    subst IsPlannable (sym e) parts
