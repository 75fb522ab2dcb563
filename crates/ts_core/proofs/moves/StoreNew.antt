-- The content of a new store, and the empty history that it represents.
use Rattle.std.proofs.Common.{◌≡◌, None, List, [], ◌∷◌, map, sym, ◌∙◌, ap, subst, ℤ, refl, true≢false}
use Rattle.std.specs.List.{AllByRecursion}
use Rattle.std.specs.FinMap as finmap
use Rattle.std.specs.FinMap.{get-empty, len-empty, len-entries}
use Rattle.std.proofs.lemmas.List.{nil_from_length, map-id}
use Rattle.std.proofs.lemmas.Simd.{map-map}
use Rattle.ts_core.specs.lists.Members.{AllDistinct}
use Rattle.ts_core.specs.facts.Facts.{Column}
use Rattle.ts_core.specs.settings.Settings.{Rule, Settings}
use Rattle.ts_core.specs.settings.SettingsFaults.{settings_fault}
use Rattle.ts_core.specs.facts.Times.{least_time}
use Rattle.ts_core.specs.store.Marks.{index_of, low_of}
use Rattle.ts_core.specs.store.RawFacts.{kept_from}
use Rattle.ts_core.specs.store.Cells.{Cell, cell_cmp}
use Rattle.ts_core.specs.lists.Changes.{or_else}
use Rattle.ts_core.specs.store.StoreStates.{CellParts, StandsFor, HasCells, rule_of, lowest_of}
use Rattle.ts_core.specs.store.StoreData.{no_parts, RuleData, rule_cells, state_of, new_data}

abbrev new_rule : Rule → RuleData
new_rule r = record { rule = r; low = index_of r least_time; cells = finmap.empty }

pub no_keys : finmap.keys (finmap.empty {X = CellParts} {R = cell_cmp}) ≡ []
no_keys = ap (map (λ (e : Cell × CellParts). e.0)) (nil_from_length _ (sym (len-entries (finmap.empty {X = CellParts} {R = cell_cmp})) ∙ len-empty cell_cmp CellParts))

-- rules without cells
no_cells : (cut : Column → ℤ) (rs : List Rule) → AllByRecursion (HasCells cut []) (map rule_cells (map new_rule rs))
no_cells cut [] = tt
no_cells cut (r ∷ rs) = (
  record {
    once = subst AllDistinct (sym no_keys) tt;
    there = λ f n m l. absurd n;
    frozen = λ k l. ap (λ o. (or_else no_parts o).frozen) (get-empty cell_cmp k);
    live = λ k l. ap (λ o. (or_else no_parts o).live) (get-empty cell_cmp k);
  },
  no_cells cut rs,
)

pub new_stands_for : (opening : Settings) → settings_fault opening ≡ None → StandsFor opening [] (state_of (new_data opening))
new_stands_for opening well =
    let rs : List RuleData = map new_rule opening.rules in
    let rules : map (λ (a : RuleData). a.rule) rs ≡ opening.rules = map-map (λ (a : RuleData). a.rule) new_rule opening.rules ∙ map-id opening.rules in
    let lows : map (λ (a : RuleData). a.low) rs ≡ map (low_of opening []) opening.rules = map-map (λ (a : RuleData). a.low) new_rule opening.rules in
    record {
      lawful = well;
      settings = λ i. record { raw_duration = opening.raw_duration; rules = rules i };
      marks = λ i. record { raw = least_time; lows = lows i };
      accepted = refl;
      running = (λ k. absurd (true≢false (sym k)), λ k. absurd k);
      waiting_once = tt;
      waiting_there = λ c k. k;
      idle = λ k. refl;
      columns_once = tt;
      columns_there = λ f k. absurd k;
      registered = λ c k. absurd k;
      once = tt;
      raw = λ f. (λ k. absurd k, λ k. absurd k);
      rules = map-map rule_of rule_cells rs;
      lows = map-map lowest_of rule_cells rs;
      rolled = no_cells (kept_from opening [] []) opening.rules;
    }
