use Rattle.std.proofs.Common.{◌∙◌, List, length, ap, sym, subst}
use Rattle.ts_core.specs.lists.Members.{Among, AllDistinct}
use Rattle.ts_core.specs.facts.Facts.{Series, Column}
use Rattle.ts_store.specs.store.ColumnStates.{point_maps, with_points}
use Rattle.ts_store.proofs.store.column_facts.ColumnFacts.new.Goals as goal

pub invariant_of-result : goal.invariant_of-result
invariant_of-result g c = record {
  sound = record {
    series_once = subst (λ (xs : List Series). AllDistinct xs) (sym c.new.ensures.series) tt;
    columns_once = subst (λ (xs : List Column). AllDistinct xs) (sym c.new.ensures.columns) tt;
    registered = λ d a. absurd (subst (λ (xs : List Column). Among d xs) c.new.ensures.columns a);
  };
  each = ap length c.new-2.ensures.items ∙ sym (ap length c.new.ensures.columns);
}

pub returns : goal.returns
returns g c = λ i. record {
  series = c.new.ensures.series i;
  columns = with_points (c.new.ensures.columns i) (point_maps (c.new-2.ensures.items i));
  rollups = c.in_ok-rollups.ensures i;
}
