use Rattle.std.proofs.Common.{◌≡◌, ◌∙◌, ◌++◌, ◌∷◌, [], ap, replicate, List, ℕ, arith}
use Rattle.ts_store.specs.rollup.Rollups.{RollupState, new_rollup}
use Rattle.ts_store.proofs.rollup.RollupLemmas.{replicate_push}
use Rattle.ts_store.proofs.rollup.new_rollups.Goals as goal

pub loop-preserved : goal.loop-preserved
loop-preserved g c =
    c.in_ok-push.ensures.items ∙ ap (λ (xs : List RollupState). xs ++ c.new.result ∷ []) c.loop.invariant ∙ ap (λ (s : RollupState). replicate c.loop.counter new_rollup ++ s ∷ []) c.new.ensures
    ∙ replicate_push c.loop.counter new_rollup

pub returns : goal.returns
returns g c =
    let all : c.loop.counter ≡ c.args.rules = omega arith in
    c.loop.invariant ∙ ap (λ (n : ℕ). replicate n new_rollup) all
