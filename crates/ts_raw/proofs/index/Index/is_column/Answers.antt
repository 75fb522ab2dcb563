use Rattle.std.proofs.Common.{◌≡◌, ℕ, List, map, get_or, sym, ◌∙◌, ap, subst}
use Rattle.std.proofs.lemmas.Bool.{OnTrue_from}
use Rattle.std.proofs.lemmas.Option.{get_or_from_slice_get}
use Rattle.ts_core.specs.facts.Facts.{Series, Column}
use Rattle.ts_core.proofs.facts.Ids.{same_text-eq}
use Rattle.ts_raw.specs.FieldKeys.{FieldKey}
use Rattle.ts_raw.specs.ColumnTables.{ColumnNumbers}
use Rattle.ts_raw.specs.IndexParts.{no_field, column_named, index_by_numbers}
use Rattle.ts_raw.specs.Indexed.{Indexed, no_series, column_in}
use Rattle.ts_core.specs.lists.Numbered.{IsAt}
use Rattle.ts_core.proofs.lists.MembersLemmas.{at_map_of}
use Rattle.ts_raw.proofs.index.Index.is_column.Goals as goal

pub key-requires : goal.key-requires
key-requires g c = (c.self.invariant.named c.args.column c.numbers-of.result c.numbers-of.ensures).field_there

pub returns-then-of-series : goal.returns-then-of-series
returns-then-of-series g c =
    let series : List Series = c.self.inside.series in
    let fields : List FieldKey = c.self.inside.fields in
    let t : ColumnNumbers = c.self.inside.columns in
    let x : ℕ × ℕ = c.numbers-of.result in
    let key : get_or fields x.1 no_field ≡ c.key.result.now = get_or_from_slice_get fields x.1 c.key.result.now no_field c.key.ensures in
    let number : x.0 ≡ c.args.series = c.if-of-series.true ∙ c.series.view_is in
    OnTrue_from c.eq.result _
    (λ h.
    let text : c.as_str.result.now ≡ c.args.field.now = same_text-eq c.as_str.result.now c.args.field.now (sym c.eq.ensures ∙ h) in
    let name : (get_or fields x.1 no_field).field ≡ c.args.field.now = ap (λ (k : FieldKey). k.field) key ∙ sym c.field.ensures ∙ sym c.as_str.ensures ∙ text in
    let same : column_named series fields x ≡ column_in (index_by_numbers series fields t) c.args.series c.args.field.now = λ i. record { series = get_or series (number i) no_series; field = name i } in
    subst (λ (i : Indexed). IsAt i.columns c.args.column (column_in i c.args.series c.args.field.now)) c.self.view_is
    (subst (λ (d : Column). IsAt (map (column_named series fields) t.columns) c.args.column d) same
    (at_map_of (column_named series fields) t.columns c.args.column x c.numbers-of.ensures)))
