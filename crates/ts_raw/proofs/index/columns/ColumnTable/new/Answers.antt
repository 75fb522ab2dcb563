use Rattle.std.proofs.Common.{◌≡◌, ℕ, [], ap, refl, Option, None}
use Rattle.std.specs.Map.{lookup}
use Rattle.std.specs.HashMap.{get}
use Rattle.ts_raw.specs.ColumnTables.{same_numbers}
use Rattle.ts_raw.specs.Lists.{lists_of}
use Rattle.ts_raw.proofs.ColumnLemmas.{columns_none, columns_same}
use Rattle.ts_raw.proofs.index.columns.ColumnTable.new.Goals as goal

pub invariant_of-result : goal.invariant_of-result
invariant_of-result g c =
    let index : ℕ × ℕ → Option ℕ = get same_numbers c.new-2.result in
    let none : (x : ℕ × ℕ) → index x ≡ None = λ x. ap (λ es. lookup (same_numbers x) es) c.new-2.ensures.empty in
    columns_same index [] [] (columns_none index none) index c.new.result.items (lists_of c.new-3.result.items) (λ x. refl) c.new.ensures.items (ap lists_of c.new-3.ensures.items)
