-- The state and the inventory of a store after a rule was added or dropped.
use Rattle.std.proofs.Common.{◌≡◌, ◌↔◌, ◌∙◌, ℤ, Bool, true, false, true≢false, List, refl, sym, ap}
use Rattle.ts_core.specs.lists.Members.{Among}
use Rattle.ts_core.specs.facts.Facts.{Text, Fact}
use Rattle.ts_core.specs.settings.Settings.{Rule}
use Rattle.ts_core.specs.store.Cells.{Cell}
use Rattle.ts_core.specs.store.Marks.{Marks, first_from}
use Rattle.ts_core.specs.store.StoreStates.{facts_of}
use Rattle.ts_core.specs.store.StoreData.{StoreData}
use Rattle.ts_store.specs.store.Inventories.{AreFilled, inventory_of}
use Rattle.ts_store.specs.write.LineTexts.{LineState, IsStateOf}
use Rattle.ts_store.specs.read.PointsRead.{all_raw}
use Rattle.ts_store.specs.rules.RulesChanged.{GainsRule, RuleComes, RuleGoes}
use Rattle.ts_store.specs.rules.RuleTexts.{low_in, with_rule_added, with_rule_dropped}
use Rattle.ts_store.proofs.store.Stands.{raw_facts_are}

pub rule_came : (s : LineState) (old new : StoreData) (r : Rule) (low : ℤ) → IsStateOf s old → RuleComes old new r low → (low ≡ low_in s r) × IsStateOf (with_rule_added r s) new
rule_came s old new r low i c = (
  c.first ∙ ap (λ (z : Marks). first_from r z.raw) i.stands.marks,
  record { stands = c.history s.opening s.history i.stands; series = ap (λ (z : StoreData). z.series) c.whole ∙ i.series },
)

pub rule_went : (s : LineState) (old new : StoreData) (name : Text) → IsStateOf s old → RuleGoes old new name → IsStateOf (with_rule_dropped name s) new
rule_went s old new name i c = record { stands = c.history s.opening s.history i.stands; series = ap (λ (z : StoreData). z.series) c.whole ∙ i.series }

-- a call that isn't refused found the name
pub was_named : (b : Bool) → ((false ≡ true) ↔ (b ≡ false)) → b ≡ true
was_named true unknown = refl
was_named false unknown = absurd (true≢false (sym (unknown.1 refl)))

-- ---- the cells of an added rule are those of the raw facts of the history

same_filled : (facts others : List Fact) (r : Rule) (low : ℤ) (cells : List Cell) → ((f : Fact) → Among f facts ↔ Among f others) → AreFilled facts r low cells → AreFilled others r low cells
same_filled facts others r low cells same x = record {
  there = λ k. (
    λ a. let o = (x.there k).0 a in (o.0, (o.1.0, (same o.1.0).0 o.1.1, o.1.2)),
    λ o. (x.there k).1 (o.0, (o.1.0, (same o.1.0).1 o.1.1, o.1.2)),
  );
  once = x.once;
}

pub rule_gained : (s : LineState) (old new : StoreData) (r : Rule) (low : ℤ) → IsStateOf s old → RuleComes old new r low → GainsRule (all_raw old.waiting s.opening s.history) r low (inventory_of old) (inventory_of new)
rule_gained s old new r low i c = record {
  columns = c.inventory.columns;
  waiting = c.inventory.waiting;
  made = c.inventory.made;
  cells = c.inventory.cells;
  filled = same_filled (facts_of old.columns) (all_raw old.waiting s.opening s.history) r low c.inventory.made (raw_facts_are s.opening s.history old i.stands) c.inventory.filled;
}
