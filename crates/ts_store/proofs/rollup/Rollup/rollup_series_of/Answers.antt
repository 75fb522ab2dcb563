use Rattle.std.proofs.Common.{◌≡◌, ◌∙◌, ◌<◌, List, Option, Some, None, IfSome, ℕ, ap, sym, arith, length, refl}
use Rattle.std.proofs.lemmas.Option.{slice_get-get_or}
use Rattle.ts_store.specs.rollup.Rollups.{RollupState}
use Rattle.ts_store.proofs.rollup.RollupLemmas.{rollup_series_inside}
use Rattle.ts_store.proofs.rollup.Rollup.rollup_series_of.Goals as goal

pub returns-clause-inside : goal.returns-clause-inside
returns-clause-inside g c =
    let os : List (Option ℕ) = c.self.inside.series_of_column.items in
    let count : ℕ = length c.args.self.now.grid.rollup_series in
    let same : length c.self.inside.cells.rollup_series ≡ count = ap (λ (s : RollupState). length s.grid.rollup_series) c.self.view_is in
    let within : c.args.column < length os = omega (arith, c.requires, ap (λ (s : RollupState). length s.series_of_column) c.self.view_is) in
    elim c.index.result.now as (λ o. c.index.result.now ≡ o → IfSome o (λ l. l < count)) [
      | None ↦ λ e. tt
      | Some l ↦ λ e.
          let inside = rollup_series_inside _ _ _ _ _ _ c.self.invariant c.args.column l (slice_get-get_or os c.args.column c.index.result.now within ∙ ap Some (sym c.index.ensures ∙ e)) in
          omega (arith, inside, same)
    ] refl
