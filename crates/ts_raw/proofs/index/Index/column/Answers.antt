use Rattle.std.proofs.Common.{◌≡◌, ℕ, ◌<◌, List, length, Option, IfNone, map, get_or, sym, subst}
use Rattle.std.proofs.lemmas.Option.{IfSome_then}
use Rattle.ts_core.specs.facts.Facts.{Text, Series, Column}
use Rattle.ts_core.specs.lists.Members.{Among}
use Rattle.ts_raw.specs.FieldKeys.{FieldKey}
use Rattle.ts_raw.specs.ColumnTables.{ColumnNumbers}
use Rattle.ts_raw.specs.IndexParts.{column_named, index_by_numbers}
use Rattle.ts_raw.specs.Indexed.{Indexed, IsSoundIndex, no_series, column_in}
use Rattle.ts_core.specs.lists.Numbered.{IsAt}
use Rattle.ts_raw.proofs.IndexLemmas.{measurement_of, index_sound, name_is, no_column_of, no_column_at}
use Rattle.ts_core.proofs.lists.MembersLemmas.{at_map_of}
use Rattle.ts_core.proofs.lists.NumberedLemmas.{at_within, none_so}
use Rattle.ts_raw.proofs.index.Index.column.Goals as goal

pub returns-in_err-field-clause-absent : goal.returns-in_err-field-clause-absent
returns-in_err-field-clause-absent g c =
    let series : List Series = c.self.inside.series in
    let fields : List FieldKey = c.self.inside.fields in
    let t : ColumnNumbers = c.self.inside.columns in
    let m : Text = c.measurement-measurement.result.now in
    let there : c.args.series < length series = at_within series c.args.series c.key.result.now c.key.ensures in
    let absent : Among (column_in (index_by_numbers series fields t) c.args.series c.args.field.now) (map (column_named series fields) t.columns) → ⊥ =
    no_column_of series fields t c.self.invariant c.args.series m c.args.field.now there
    (measurement_of series c.args.series c.key.result.now m c.key.ensures c.measurement-measurement.ensures) c.in_err-field.ensures.absent in
    subst (λ (r : Option ℕ). IfNone r (Among (column_in c.args.self.now c.args.series c.args.field.now) c.args.self.now.columns → ⊥)) (sym c.from_residual.ensures)
    (subst (λ (i : Indexed). Among (column_in i c.args.series c.args.field.now) i.columns → ⊥) c.self.view_is absent)

pub returns-clause-found : goal.returns-clause-found
returns-clause-found g c =
    let series : List Series = c.self.inside.series in
    let fields : List FieldKey = c.self.inside.fields in
    let t : ColumnNumbers = c.self.inside.columns in
    let m : Text = c.measurement-measurement.result.now in
    let there : c.args.series < length series = at_within series c.args.series c.key.result.now c.key.ensures in
    let of : (get_or series c.args.series no_series).measurement ≡ m = measurement_of series c.args.series c.key.result.now m c.key.ensures c.measurement-measurement.ensures in
    IfSome_then c.lookup-2.result c.lookup-2.ensures.found
    (λ n at.
    subst (λ (i : Indexed). IsAt i.columns n (column_in i c.args.series c.args.field.now)) c.self.view_is
    (subst (λ (d : Column). IsAt (map (column_named series fields) t.columns) n d)
    (name_is series fields t c.self.invariant c.args.series m c.args.field.now there of c.in_ok-field.field c.in_ok-field.ensures.found)
    (at_map_of (column_named series fields) t.columns n (c.args.series, c.in_ok-field.field)
    (subst (λ s. IsAt t.columns n (s, c.in_ok-field.field)) c.series.view_is at))))

pub returns-clause-absent : goal.returns-clause-absent
returns-clause-absent g c =
    let series : List Series = c.self.inside.series in
    let fields : List FieldKey = c.self.inside.fields in
    let t : ColumnNumbers = c.self.inside.columns in
    let m : Text = c.measurement-measurement.result.now in
    let there : c.args.series < length series = at_within series c.args.series c.key.result.now c.key.ensures in
    let of : (get_or series c.args.series no_series).measurement ≡ m = measurement_of series c.args.series c.key.result.now m c.key.ensures c.measurement-measurement.ensures in
    none_so c.lookup-2.result
    (λ absent.
    subst (λ (i : Indexed). Among (column_in i c.args.series c.args.field.now) i.columns → ⊥) c.self.view_is
    (no_column_at series fields t c.self.invariant c.args.series m c.args.field.now there of c.in_ok-field.field c.in_ok-field.ensures.found
    (subst (λ s. Among (s, c.in_ok-field.field) t.columns → ⊥) c.series.view_is absent)))
    c.lookup-2.ensures.absent

pub returns-clause-sound : goal.returns-clause-sound
returns-clause-sound g c =
    subst (λ (i : Indexed). IsSoundIndex i) c.self.view_is (index_sound c.self.inside.series c.self.inside.fields c.self.inside.columns c.self.invariant)

pub returns-in_err-field-clause-sound : goal.returns-in_err-field-clause-sound
returns-in_err-field-clause-sound g c =
    subst (λ (i : Indexed). IsSoundIndex i) c.self.view_is (index_sound c.self.inside.series c.self.inside.fields c.self.inside.columns c.self.invariant)
