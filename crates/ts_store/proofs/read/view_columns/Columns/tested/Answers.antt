use Rattle.std.proofs.Common.{filter, ◌∙◌, ap, rules}
use Rattle.std.proofs.lemmas.Fn.{filter_same}
use Rattle.ts_store.specs.read.ViewResults.{column_ref_has}
use Rattle.ts_store.proofs.read.view_columns.Columns.tested.Goals as goal

pub returns : goal.returns
returns g c =
    filter_same _ (column_ref_has c.args.tag.now c.args.value.now) _ (λ x b f' k. search rules) _ _ c.retain.ensures.filtered
    ∙ ap (filter (column_ref_has c.args.tag.now c.args.value.now)) c.in_ok-found.ensures
