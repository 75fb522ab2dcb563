-- The columns of a rollup series in memory: one is inline, more are in a vector of their own. (Own rule.)
use Rattle.std.specs.Prelude.{ℕ, Bool, true, false, nat_lt, vec_len, vec_capacity, List, [], ◌∷◌, map, Some, None, get_or, ◌≡◌, refl}
use Rattle.std.specs.Coded.{Coded, code_by, coded×, coded_ℕ, coded_list, coded_bool}
use Rattle.ts_store.specs.declared.rollup.series_columns.Storage.{Storage}
use Rattle.ts_store.specs.declared.rollup.series_columns.Storage.TheVariants.{One, Many}

-- the columns, and a flag that is true if there is capacity for one more
pub record ColumnList : Type 0 where
  pub items : List ℕ
  pub has_capacity : Bool

abbrev pub stored_list : {A : Type 0} → Storage A → ColumnList
stored_list (One None) = record { items = []; has_capacity = true }
stored_list (One (Some c)) = record { items = c ∷ []; has_capacity = false }
stored_list (Many b) = record { items = b.value.items; has_capacity = nat_lt (vec_len b.value) (vec_capacity b.value) }

abbrev pub coded_list_of_columns : Coded ColumnList
coded_list_of_columns = code_by (List ℕ × Bool) (coded× (coded_list coded_ℕ) coded_bool)
    (λ l. (l.items, l.has_capacity)) (λ p. record { items = p.0; has_capacity = p.1 }) (λ _. refl)

-- the columns of each rollup series
abbrev pub lists_in : List ColumnList → List (List ℕ)
lists_in ls = map (λ (l : ColumnList). l.items) ls

-- for each rollup series, true if it has capacity for one more
abbrev pub capacities_in : List ColumnList → List Bool
capacities_in ls = map (λ (l : ColumnList). l.has_capacity) ls

-- the rollup series with this index has capacity for one more
abbrev pub HasCapacityAt : List ColumnList → ℕ → Type 0
HasCapacityAt ls n = get_or (capacities_in ls) n false ≡ true
