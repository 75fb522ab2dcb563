-- Codes of a store's data: a model's value needs one, and that of a finite map is defined by hand.
use Rattle.std.specs.Prelude.{ℕ, ℤ, Bool, List, Option, refl}
use Rattle.std.specs.FinMap as finmap
use Rattle.std.specs.Coded.{Coded, code_by, coded×, coded_ℕ, coded_ℤ, coded_bool, coded_list, coded_option}
use Rattle.ts_core.specs.declared.aggregates.aggregate.Extremes.{Extremes}
use Rattle.ts_core.specs.facts.Facts.{Text, Series, Column}
use Rattle.ts_core.specs.settings.Settings.{Rule}
use Rattle.ts_core.specs.aggregates.Aggregates.{Aggregate}
use Rattle.ts_core.specs.store.Cells.{Cell}
use Rattle.ts_core.specs.store.StoreStates.{ColumnPoints}
use Rattle.ts_core.specs.store.TwoParts.{coded_parts}
use Rattle.ts_core.specs.store.StoreData.{CellMap, RuleData, StoreData}

abbrev pub coded_text : Coded Text
coded_text = coded_list coded_ℕ

abbrev pub coded_extremes : Coded Extremes
coded_extremes =
    code_by (ℤ × (ℤ × ((ℤ × ℤ) × (ℤ × ℤ)))) (coded× coded_ℤ (coded× coded_ℤ
    (coded× (coded× coded_ℤ coded_ℤ) (coded× coded_ℤ coded_ℤ)))) (λ e. (e.min, (e.max, (e.first, e.last))))
    (λ p. record { min = p.0; max = p.1.0; first = p.1.1.0; last = p.1.1.1 }) (λ _. refl)

abbrev pub coded_aggregate : Coded Aggregate
coded_aggregate = code_by (ℕ × (ℤ × Option Extremes)) (coded× coded_ℕ (coded× coded_ℤ (coded_option coded_extremes)))
    (λ a. (a.count, (a.sum, a.extremes))) (λ p. record { count = p.0; sum = p.1.0; extremes = p.1.1 }) (λ _. refl)

abbrev pub coded_cell : Coded Cell
coded_cell = code_by (ℤ × (Text × List Text)) (coded× coded_ℤ (coded× coded_text (coded_list coded_text)))
    (λ k. (k.index, (k.field, k.group))) (λ p. record { index = p.0; field = p.1.0; group = p.1.1 }) (λ _. refl)

abbrev pub coded_cell_map : Coded CellMap
coded_cell_map = finmap.code coded_cell (coded_parts coded_aggregate)

abbrev pub coded_rule : Coded Rule
coded_rule =
    code_by (Text × (Text × (ℤ × (ℤ × (List Text × ℕ)))))
    (coded× coded_text (coded× coded_text (coded× coded_ℤ (coded× coded_ℤ (coded× (coded_list coded_text) coded_ℕ)))))
    (λ r. (r.name, (r.measurement, (r.interval, (r.offset, (r.kept_tags, r.duration))))))
    (λ p. record {
      name = p.0;
      measurement = p.1.0;
      interval = p.1.1.0;
      offset = p.1.1.1.0;
      kept_tags = p.1.1.1.1.0;
      duration = p.1.1.1.1.1;
    }) (λ _. refl)

abbrev pub coded_series : Coded Series
coded_series = code_by (Text × List (Text × Text)) (coded× coded_text (coded_list (coded× coded_text coded_text)))
    (λ s. (s.measurement, s.tags)) (λ p. record { measurement = p.0; tags = p.1 }) (λ _. refl)

abbrev pub coded_column : Coded Column
coded_column = code_by (Series × Text)
    (coded× coded_series coded_text) (λ c. (c.series, c.field)) (λ p. record { series = p.0; field = p.1 }) (λ _. refl)

abbrev pub coded_column_points : Coded ColumnPoints
coded_column_points = code_by (Column × List (ℤ × ℤ)) (coded× coded_column (coded_list (coded× coded_ℤ coded_ℤ)))
    (λ c. (c.column, c.points)) (λ p. record { column = p.0; points = p.1 }) (λ _. refl)

abbrev pub coded_rule_data : Coded RuleData
coded_rule_data = code_by (Rule × (ℤ × CellMap)) (coded× coded_rule (coded× coded_ℤ coded_cell_map))
    (λ r. (r.rule, (r.low, r.cells))) (λ p. record { rule = p.0; low = p.1.0; cells = p.1.1 }) (λ _. refl)

abbrev pub coded_store_data : Coded StoreData
coded_store_data =
    code_by (ℕ × (ℤ × (List RuleData × (Bool × (List Column × (List Series × (List ColumnPoints × ℕ)))))))
    (coded× coded_ℕ (coded× coded_ℤ (coded× (coded_list coded_rule_data) (coded× coded_bool
    (coded× (coded_list coded_column)
    (coded× (coded_list coded_series) (coded× (coded_list coded_column_points) coded_ℕ)))))))
    (λ k. (k.raw_duration, (k.raw_mark, (k.rules, (k.running, (k.waiting, (k.series, (k.columns, k.accepted))))))))
    (λ p. record {
      raw_duration = p.0;
      raw_mark = p.1.0;
      rules = p.1.1.0;
      running = p.1.1.1.0;
      waiting = p.1.1.1.1.0;
      series = p.1.1.1.1.1.0;
      columns = p.1.1.1.1.1.1.0;
      accepted = p.1.1.1.1.1.1.1;
    })
    (λ _. refl)
