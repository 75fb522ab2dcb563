use Rattle.std.proofs.Common.{◌≡◌, ℕ, ◌<◌, List, length, map, get_or, sym, subst}
use Rattle.std.proofs.lemmas.Option.{slice_get-get_or}
use Rattle.ts_core.specs.facts.Facts.{Series, Column}
use Rattle.ts_raw.specs.FieldKeys.{FieldKey}
use Rattle.ts_raw.specs.ColumnTables.{ColumnNumbers}
use Rattle.ts_raw.specs.IndexParts.{column_named}
use Rattle.ts_raw.specs.Indexed.{Indexed, no_series}
use Rattle.ts_core.specs.lists.Numbered.{IsAt}
use Rattle.ts_core.proofs.lists.MembersLemmas.{at_map_of}
use Rattle.ts_core.proofs.lists.NumberedLemmas.{same_at}
use Rattle.ts_raw.proofs.index.Index.series_of.Goals as goal

pub returns-clause-there : goal.returns-clause-there
returns-clause-there g c =
    subst (λ (i : Indexed). c.numbers-number.result.0 < length i.series) c.self.view_is
    (c.self.invariant.named c.args.column c.numbers-number.result c.numbers-number.ensures).series_there

pub returns-clause-names : goal.returns-clause-names
returns-clause-names g c = λ column at.
    let series : List Series = c.self.inside.series in
    let fields : List FieldKey = c.self.inside.fields in
    let t : ColumnNumbers = c.self.inside.columns in
    let x : ℕ × ℕ = c.numbers-number.result in
    let named : List Column = map (column_named series fields) t.columns in
    let there : IsAt named c.args.column column = subst (λ (i : Indexed). IsAt i.columns c.args.column column) (sym c.self.view_is) at in
    let same : column_named series fields x ≡ column =
    same_at named c.args.column (column_named series fields x) column (at_map_of (column_named series fields) t.columns c.args.column x c.numbers-number.ensures) there in
    let first : IsAt series x.0 (get_or series x.0 no_series) =
    slice_get-get_or series x.0 no_series (c.self.invariant.named c.args.column x c.numbers-number.ensures).series_there in
    subst (λ (i : Indexed). IsAt i.series x.0 column.series) c.self.view_is (subst (λ (d : Column). IsAt series x.0 d.series) same first)
