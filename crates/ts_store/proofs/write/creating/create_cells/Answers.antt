use Rattle.std.proofs.Common.{◌≡◌, ◌<◌, ℕ, ℤ, pos, List, length, get_or, sym, subst, refl, arith}
use Rattle.std.specs.List.{AllByRecursion, zip}
use Rattle.std.proofs.lemmas.Slice.Zip.{get_or-zip}
use Rattle.ts_cells.proofs.GridMoves.{all_at}
use Rattle.ts_core.proofs.lists.Results.{on_any_err}
use Rattle.ts_store.specs.rollup.Rollups.{RollupState}
use Rattle.ts_store.specs.write.CellsCreated.{cells_created_from, IsCreatedInPart, KeepsRollupSeries}
use Rattle.ts_store.proofs.rollup.ChangedListsLemmas.{next_changed, last_changed, unchanged_yet, all_changed, AllZip-beside, changed_is, length-zipped}
use Rattle.ts_store.proofs.write.CellsCreatedLemmas.{all_roomed_now, none_roomed_yet}
use Rattle.ts_store.proofs.write.creating.create_cells.Goals as goal

-- the bucket and the low index of a rule stand side by side
paired : (bs ls : List ℤ) (i n : ℕ) → length bs ≡ n → length ls ≡ length bs → i < n → (i < length (zip bs ls)) × ((get_or bs i (pos 0), get_or ls i (pos 0)) ≡ get_or (zip bs ls) i (pos 0, pos 0))
paired bs ls i n b l within = (let long = length-zipped bs ls (length bs) refl l in omega (arith, long, b, within), sym (get_or-zip bs ls i (pos 0, pos 0) (omega (arith, b, within)) (omega (arith, b, l, within))))

pub create_cells_under-requires : goal.create_cells_under-requires
create_cells_under-requires g c =
    let wide : RollupState → Type 0 = λ s. AllByRecursion (λ n. n < length s.series_of_column) c.args.touched.now in
    subst wide (sym (unchanged_yet _ _ c.args.rollups.now _ _ _ c.loop-i.invariant)) (all_at wide c.args.rollups.now c.loop-i.i c.index-rollups-i.result (omega arith) c.requires.each)

pub loop-i-preserved : goal.loop-i-preserved
loop-i-preserved g c =
    let at = paired c.args.buckets.now c.args.lows.now c.loop-i.i (length c.args.rollups.now) c.requires.buckets c.requires.lows (omega arith) in
    next_changed _ _ _ _ c.loop-i.i _ (pos 0, pos 0) c.index-rollups-i.result _ at.0 at.1 (c.create_cells_under.ensures.kept, c.in_ok-create_cells_under.ensures.ok) c.loop-i.invariant

pub returns-in_err-create_cells_under-clause-kept : goal.returns-in_err-create_cells_under-clause-kept
returns-in_err-create_cells_under-clause-kept g c =
    let at = paired c.args.buckets.now c.args.lows.now c.loop-i.i (length c.args.rollups.now) c.requires.buckets c.requires.lows (omega arith) in
    AllZip-beside (λ (x : ℤ × ℤ). KeepsRollupSeries) KeepsRollupSeries (λ s. refl) (λ x s t h. h) _ _ _
    (last_changed _ (λ x. KeepsRollupSeries) (λ x s t h. h.0) (λ x s. refl) _ _ _ c.loop-i.i _ (pos 0, pos 0) c.index-rollups-i.result _ at.0 at.1 c.create_cells_under.ensures.kept c.loop-i.invariant)

pub returns-in_err-create_cells_under-clause-err : goal.returns-in_err-create_cells_under-clause-err
returns-in_err-create_cells_under-clause-err g c =
    let at = paired c.args.buckets.now c.args.lows.now c.loop-i.i (length c.args.rollups.now) c.requires.buckets c.requires.lows (omega arith) in
    let part : ℤ × ℤ → RollupState → RollupState → Type 0 = λ x. IsCreatedInPart x.1 x.0 c.args.touched.now in
    on_any_err c.from_residual.result
    (last_changed _ part (λ x s t h. all_roomed_now x.1 x.0 c.args.touched.now s t h.1) (λ x. none_roomed_yet x.1 x.0 c.args.touched.now) _ _ _ c.loop-i.i _ (pos 0, pos 0) c.index-rollups-i.result _ at.0 at.1 c.in_err-create_cells_under.ensures.err c.loop-i.invariant)

pub returns-clause-kept : goal.returns-clause-kept
returns-clause-kept g c = AllZip-beside _ KeepsRollupSeries (λ s. refl) (λ x s t h. h.0) _ _ _ c.loop-i.invariant

pub returns-clause-ok : goal.returns-clause-ok
returns-clause-ok g c =
    let long = length-zipped c.args.buckets.now c.args.lows.now (length c.args.buckets.now) refl c.requires.lows in
    changed_is _ (λ (x : ℤ × ℤ). cells_created_from x.1 x.0 c.args.touched.now) (λ x s t h. h.1) _ _ _ (all_changed _ (zip c.args.buckets.now c.args.lows.now) _ _ c.loop-i.i (omega (arith, long)) c.loop-i.invariant)
