use Rattle.std.proofs.Common.{◌∙◌, ◌<◌, [], ap, sym, arith, length, get_or}
use Rattle.std.proofs.lemmas.List.{length-map, get_or-map}
use Rattle.ts_store.specs.rollup.ColumnLists.{lists_in}
use Rattle.ts_store.specs.rollup.Rollups.{RollupState, columns_of_rollup_series}
use Rattle.ts_store.proofs.rollup.Rollup.columns_of.Goals as goal

pub returns-clause-columns : goal.returns-clause-columns
returns-clause-columns g c =
    let vs = c.self.inside.columns.items in
    let within : c.number.result < length vs =
    omega (arith, c.number.ensures, c.requires, c.self.invariant.each, length-map vs (λ v. v.items), ap (λ (s : RollupState). length s.grid.rollup_series) c.self.view_is) in
    c.as_slice.ensures ∙ ap (λ v. v.items) c.index.ensures ∙ sym (get_or-map (λ v. v.items) vs c.number.result c.index.result.now [] within)
    ∙ ap (λ n. get_or (lists_in vs) n []) c.number.ensures ∙ c.self.invariant.grouped c.args.series ∙ ap (λ (s : RollupState). columns_of_rollup_series c.args.series s) c.self.view_is
