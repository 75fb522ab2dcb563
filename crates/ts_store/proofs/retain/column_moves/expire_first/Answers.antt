use Rattle.std.proofs.Common.{◌≡◌, ℕ, ℤ, pos, List, take, get_or, set, refl, sym, subst, arith}
use Rattle.ts_store.specs.rollup.Rollups.{RollupState, cells_of}
use Rattle.ts_cells.specs.Expiry.{IsAbove}
use Rattle.ts_store.specs.rollup.ChangedLists.{FirstChanges}
use Rattle.ts_store.specs.retain.WholeRuns.{LosesCells}
use Rattle.ts_store.specs.write.CellsCreated.{KeepsRollupSeries}
use Rattle.ts_store.proofs.rollup.ChangedListsLemmas.{IsExpired, none_expired, first_expired, next_changed, last_changed, all_changed, grids_beside}
use Rattle.ts_store.proofs.retain.column_moves.expire_first.Goals as goal

pub loop-i-preserved : goal.loop-i-preserved
loop-i-preserved g c =
    let none : c.expire.result ≡ 0 = omega (arith, c.if-expire-gt0.false) in
    next_changed _ c.args.lows.now _ _ c.loop-i.i (get_or c.args.lows.now c.loop-i.i (pos 0)) (pos 0) c.index-rollups-i.result _ (omega arith) refl
    (subst (λ n. IsExpired (get_or c.args.lows.now c.loop-i.i (pos 0)) n (get_or c.loop-i.rollups c.loop-i.i c.index-rollups-i.result) c.expire.new.self) none (record { cells = c.expire.ensures.cells; below = c.expire.ensures.below })) c.loop-i.invariant

pub returns-then-expire-gt0-clause-kept : goal.returns-then-expire-gt0-clause-kept
returns-then-expire-gt0-clause-kept g c =
    grids_beside (λ (low : ℤ). KeepsRollupSeries) (λ low s t h. h) c.args.lows.now _ _
    (last_changed _ (λ (low : ℤ). KeepsRollupSeries) (λ low s t h. h.cells) (λ low s. refl) c.args.lows.now _ _ c.loop-i.i _ (pos 0) c.index-rollups-i.result _ (omega arith) refl c.expire.ensures.cells c.loop-i.invariant)

pub returns-then-expire-gt0-clause-some : goal.returns-then-expire-gt0-clause-some
returns-then-expire-gt0-clause-some g c =
    let i : ℕ = c.loop-i.i in
    let lows : List ℤ = c.args.lows.now in
    let us : List RollupState = c.args.rollups.now in
    let before = none_expired (take i lows) us c.loop-i.rollups c.loop-i.invariant in
    let gone : IsExpired (get_or lows i (pos 0)) c.expire.result (get_or c.loop-i.rollups i c.index-rollups-i.result) c.expire.new.self = record { cells = c.expire.ensures.cells; below = c.expire.ensures.below } in
    subst (λ (vs : List RollupState). FirstChanges IsAbove LosesCells lows (cells_of us) (cells_of (set vs i c.expire.new.self))) (sym before.0)
    (first_expired lows us i (pos 0) c.expire.result c.index-rollups-i.result c.expire.new.self (omega arith) (omega arith) c.if-expire-gt0.true
    (subst (λ (vs : List RollupState). IsExpired (get_or lows i (pos 0)) c.expire.result (get_or vs i c.index-rollups-i.result) c.expire.new.self) before.0 gone) before.1)

pub returns : goal.returns
returns g c =
    let none = all_changed _ c.args.lows.now c.args.rollups.now c.loop-i.rollups c.loop-i.i (omega arith) c.loop-i.invariant in
    record { kept = grids_beside _ (λ low s t h. h.cells) c.args.lows.now _ _ none; some = tt; none = none_expired c.args.lows.now _ _ none }
