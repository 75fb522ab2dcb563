use Rattle.std.proofs.Common.{◌∙◌, sym, ap, subst}
use Rattle.std.specs.Prelude.{flat_map}
use Rattle.std.specs.List.{AllByRecursion}
use Rattle.ts_image.proofs.SavedWholes.{columns_there}
use Rattle.tsdb.specs.Exports.{series_columns}
use Rattle.tsdb.proofs.ExportLemmas.{IsThere, all_there}
use Rattle.tsdb.proofs.export.export.Goals as goal

pub put_all-requires-clause-columns : goal.put_all-requires-clause-columns
put_all-requires-clause-columns g c =
    let k = c.args.store.now in
    subst (AllByRecursion (IsThere k)) (sym (c.as_slice-2.ensures.value ∙ c.in_ok-columns.ensures ∙ ap (flat_map series_columns) c.as_slice.ensures.value))
    (all_there k c.in_ok-all.all.items (columns_there k c.in_ok-all.all.items c.in_ok-all.ensures))
