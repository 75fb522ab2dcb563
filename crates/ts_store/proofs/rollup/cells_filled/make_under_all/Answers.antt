use Rattle.std.proofs.Common.{◌≡◌, ◌∙◌, ◌<◌, ◌≤ℤ◌, ℕ, ℤ, List, pos, length, get_or, refl, ap, sym, subst, arith}
use Rattle.std.specs.List.{zip}
use Rattle.std.proofs.lemmas.Slice.Zip.{get_or-zip}
use Rattle.ts_core.specs.settings.Settings.{Rule}
use Rattle.ts_store.specs.rollup.PointsFilled.{MakesPoints}
use Rattle.ts_store.specs.rollup.Rollups.{RollupState, rollup_series_at}
use Rattle.ts_store.specs.write.CellsCreated.{KeepsRollupSeries}
use Rattle.ts_store.proofs.image.ListedColumns.{item_has}
use Rattle.ts_store.proofs.rollup.CellsCreated.{all_made_under}
use Rattle.ts_store.proofs.rollup.ChangedListsLemmas.{next_changed, last_changed, unchanged_yet, all_changed, grids_beside, length-zipped}
use Rattle.ts_store.proofs.rollup.cells_filled.make_under_all.Goals as goal

-- a rule with its low index
both : (rs : List Rule) (lows : List ℤ) (i : ℕ) (r : Rule) → i < length rs → length lows ≡ length rs → r ≡ get_or rs i r → (i < length (zip rs lows)) × ((r, get_or lows i (pos 0)) ≡ get_or (zip rs lows) i (r, pos 0))
both rs lows i r l same is =
    let long = length-zipped rs lows (length rs) refl same in
    (omega (arith, l, long), ap (λ (q : Rule). (q, get_or lows i (pos 0))) is ∙ sym (get_or-zip rs lows i (r, pos 0) l (omega (arith, l, same))))

pub make_cells-requires : goal.make_cells-requires
make_cells-requires g c = record {
  interval = item_has (λ (r : Rule). pos 1 ≤ℤ r.interval) c.args.rules.now c.loop-i.i _ c.index-rules-i.result (omega arith) c.index-rules-i.is c.requires.intervals;
  column = item_has (λ (s : RollupState). c.args.number < length s.series_of_column) c.args.rollups.now c.loop-i.i _ c.index-rollups-i.result (omega arith) (unchanged_yet _ _ _ _ _ _ c.loop-i.invariant) c.requires.inside;
}

pub loop-i-preserved : goal.loop-i-preserved
loop-i-preserved g c =
    let r : Rule = c.index-rules-i.result in
    let low : ℤ = get_or c.args.lows.now c.loop-i.i (pos 0) in
    let s : RollupState = get_or c.loop-i.rollups c.loop-i.i c.index-rollups-i.result in
    let at = both c.args.rules.now c.args.lows.now c.loop-i.i r (omega arith) c.requires.lows c.index-rules-i.is in
    next_changed _ _ _ _ c.loop-i.i (r, low) (r, pos 0) c.index-rollups-i.result _ at.0 at.1 (subst (λ (ps : List (ℤ × ℤ)). MakesPoints r low (rollup_series_at s c.args.number) ps s c.make_cells.new.rollup) c.all.ensures.points c.in_ok-make_cells.ensures.cells) c.loop-i.invariant

pub returns-in_err-make_cells-clause-kept : goal.returns-in_err-make_cells-clause-kept
returns-in_err-make_cells-clause-kept g c =
    let at = both c.args.rules.now c.args.lows.now c.loop-i.i c.index-rules-i.result (omega arith) c.requires.lows c.index-rules-i.is in
    grids_beside (λ (x : Rule × ℤ). KeepsRollupSeries) (λ x s t h. h) _ _ _
    (last_changed _ (λ (x : Rule × ℤ). KeepsRollupSeries) (λ x s t h. h.kept) (λ x s. refl) _ _ _ c.loop-i.i _ (c.index-rules-i.result, pos 0) c.index-rollups-i.result _ at.0 at.1 c.make_cells.ensures.kept c.loop-i.invariant)

pub returns-clause-kept : goal.returns-clause-kept
returns-clause-kept g c = grids_beside _ (λ x s t h. h.kept) _ _ _ c.loop-i.invariant

pub returns-clause-cells : goal.returns-clause-cells
returns-clause-cells g c = λ cs d at over.
    let long = length-zipped c.args.rules.now c.args.lows.now (length c.args.rules.now) refl c.requires.lows in
    all_made_under c.args.number _ cs d c.args.rules.now c.args.lows.now _ _ at over c.requires.lows (all_changed _ _ _ _ c.loop-i.i (omega (arith, long)) c.loop-i.invariant)
