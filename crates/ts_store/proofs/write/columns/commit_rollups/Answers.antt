use Rattle.std.proofs.Common.{◌≡◌, ◌<◌, ◌≤◌, ◌∙◌, ◌+◌, ◌++◌, ℕ, zero, suc, List, [], ◌∷◌, length, map, take, drop, get_or, set, IsSome, ap, sym, subst, arith}
use Rattle.std.proofs.lemmas.List.{append-nil, take_all, drop_all}
use Rattle.ts_store.specs.rollup.Rollups.{RollupState, with_next}
use Rattle.ts_store.proofs.image.ListedColumns.{left_more, left_next}
use Rattle.ts_store.proofs.write.columns.commit_rollups.Goals as goal

-- the next column is created under one more rule
one_more : (ss : List RollupState) (i : ℕ) (s t : RollupState) → i < length ss → s ≡ get_or ss i s → t ≡ with_next s
    → take (suc i) (set ss i t) ++ map with_next (drop (suc i) (set ss i t)) ≡ take i ss ++ map with_next (drop i ss)
one_more [] i s t l is e = absurd (omega (arith, l))
one_more (x ∷ ss) zero s t l is e = ap (λ (u : RollupState). u ∷ map with_next ss) (e ∙ ap with_next is)
one_more (x ∷ ss) (suc i) s t l is e = ap (λ (us : List RollupState). x ∷ us) (one_more ss i s t (omega (arith, l)) is e)

next_committed : (ss : List RollupState) (i : ℕ) (s t : RollupState) → i < length ss → s ≡ get_or ss i s → t ≡ with_next s
    → take (i + 1) (set ss i t) ++ map with_next (drop (i + 1) (set ss i t)) ≡ take i ss ++ map with_next (drop i ss)
next_committed ss i s t l is e =
    let next : suc i ≡ i + 1 = omega arith in
    subst (λ n. take n (set ss i t) ++ map with_next (drop n (set ss i t)) ≡ take i ss ++ map with_next (drop i ss)) next (one_more ss i s t l is e)

pub commit-requires : goal.commit-requires
commit-requires g c =
    let lt : c.loop-rollup.rollup-index < length c.loop-rollup.rollups = omega arith in
    let ready = left_next (λ (s : RollupState). IsSome s.next × (c.args.column ≡ length s.series_of_column)) c.loop-rollup.rollups c.loop-rollup.rollup-index c.rollup-item.result lt c.rollup-item.is c.loop-rollup.invariant.left in
    record { next = subst (λ (s : RollupState). IsSome s.next) c.rollup-item.is ready.0; number = subst (λ (s : RollupState). c.args.column ≡ length s.series_of_column) c.rollup-item.is ready.1 }

pub loop-rollup-preserved : goal.loop-rollup-preserved
loop-rollup-preserved g c =
    let lt : c.loop-rollup.rollup-index < length c.loop-rollup.rollups = omega arith in
    record {
      left = left_more (λ (s : RollupState). IsSome s.next × (c.args.column ≡ length s.series_of_column)) c.loop-rollup.rollups c.loop-rollup.rollup-index c.commit.new.self c.loop-rollup.invariant.left;
      done = next_committed c.loop-rollup.rollups c.loop-rollup.rollup-index c.rollup-item.result c.commit.new.self lt c.rollup-item.is (c.commit.ensures ∙ ap with_next (sym c.rollup-item.is)) ∙ c.loop-rollup.invariant.done;
    }

pub returns : goal.returns
returns g c =
    let us : List RollupState = c.loop-rollup.rollups in
    let all : length us ≤ c.loop-rollup.rollup-index = omega arith in
    sym (ap (λ (rest : List RollupState). take c.loop-rollup.rollup-index us ++ map with_next rest) (drop_all c.loop-rollup.rollup-index us all) ∙ append-nil (take c.loop-rollup.rollup-index us) ∙ take_all c.loop-rollup.rollup-index us all)
    ∙ c.loop-rollup.invariant.done
