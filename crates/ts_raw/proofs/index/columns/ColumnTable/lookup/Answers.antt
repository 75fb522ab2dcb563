use Rattle.std.proofs.Common.{ℕ, List, Option, IfNone, sym, subst}
use Rattle.std.specs.HashMap.{get}
use Rattle.ts_core.specs.lists.Members.{Among}
use Rattle.ts_raw.specs.ColumnTables.{ColumnNumbers, same_numbers}
use Rattle.ts_core.specs.lists.Numbered.{IsAt}
use Rattle.ts_raw.specs.Lists.{lists_of}
use Rattle.ts_raw.proofs.ColumnLemmas.{column_found, column_absent}
use Rattle.ts_raw.proofs.index.columns.ColumnTable.lookup.Goals as goal

pub returns-in_err-number-clause-absent : goal.returns-in_err-number-clause-absent
returns-in_err-number-clause-absent g c =
    let index : ℕ × ℕ → Option ℕ = get same_numbers c.self.inside.indices in
    let columns : List (ℕ × ℕ) = c.self.inside.columns.items in
    let absent : Among (c.args.series, c.args.field) columns → ⊥ =
    column_absent index columns (lists_of c.self.inside.members.items) c.self.invariant (c.args.series, c.args.field) (sym c.in_err-number.ensures.value) in
    subst (λ (r : Option ℕ). IfNone r (Among (c.args.series, c.args.field) c.args.self.now.columns → ⊥)) (sym c.from_residual.ensures)
    (subst (λ (t : ColumnNumbers). Among (c.args.series, c.args.field) t.columns → ⊥) c.self.view_is absent)

pub returns-clause-found : goal.returns-clause-found
returns-clause-found g c =
    let index : ℕ × ℕ → Option ℕ = get same_numbers c.self.inside.indices in
    let columns : List (ℕ × ℕ) = c.self.inside.columns.items in
    subst (λ (t : ColumnNumbers). IsAt t.columns c.in_ok-number.field-0.now (c.args.series, c.args.field)) c.self.view_is
    (column_found index columns (lists_of c.self.inside.members.items) c.self.invariant (c.args.series, c.args.field) c.in_ok-number.field-0.now (sym c.in_ok-number.ensures.value))
