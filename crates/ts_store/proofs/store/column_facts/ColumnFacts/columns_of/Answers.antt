use Rattle.std.proofs.Common.{◌∙◌, ap}
use Rattle.std.proofs.lemmas.List.{length-map}
use Rattle.ts_core.specs.facts.Facts.{is_of}
use Rattle.ts_raw.specs.Columns.{ColumnState}
use Rattle.ts_store.specs.store.ColumnStates.{StoreContent, point_maps}
use Rattle.ts_store.specs.read.ViewResults.{column_refs_where}
use Rattle.ts_store.proofs.read.ColumnRefLemmas.{numbers-column_refs}
use Rattle.ts_store.proofs.store.column_facts.ColumnFacts.columns_of.Goals as goal

pub returns : goal.returns
returns g c =
    let ss = c.self.inside.columns.items in
    let cs = c.self.inside.index.columns in
    let asked = is_of c.args.measurement.now c.args.field.now in
    c.all_of.ensures
    ∙ numbers-column_refs asked cs (point_maps ss) (length-map ss (λ (s : ColumnState). s.points) ∙ c.self.invariant.each)
    ∙ ap (λ (h : StoreContent). column_refs_where asked h.columns) c.self.view_is
