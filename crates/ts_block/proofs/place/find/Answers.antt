use Rattle.std.proofs.Common.{rules, ◌≡◌, ◌<◌, ℤ, List, length, subst, refl, arith}
use Rattle.ts_block.specs.Appending.{values_start}
use Rattle.ts_block.proofs.DecodingLemmas.{head_is_read, values_inside, one_reading}
use Rattle.ts_block.proofs.PlaceLemmas.{search_begun, value_found, step_found, search_next, rest_fits, place_is, less_from, not_less}
use Rattle.ts_block.proofs.place.find.Goals as goal
use Rattle.ts_block.proofs.place.find.Goals.{then-loop-index-test+else-lt, else-loop-index-test}

pub unreachable-requires : goal.unreachable-requires
unreachable-requires c = head_is_read c.args.block.now c.requires.0 c.requires.1 c.in-Err.field-0 c.in-Err.ensures

pub slice_bounds-all_values-count : goal.slice_bounds-all_values-count
slice_bounds-all_values-count c = values_inside c.args.block.now c.requires.0 c.requires.1 c.args.values c.requires.2

pub slice_bounds-all_values-start : goal.slice_bounds-all_values-start
slice_bounds-all_values-start c = let h = values_inside c.args.block.now c.requires.0 c.requires.1 c.args.values c.requires.2 in search rules

pub loop-index-init : goal.loop-index-init
loop-index-init c = (
  omega arith,
  λ points b.
      let v = subst (λ (x : List (ℤ × ℤ)). c.args.values ≡ values_start x) (one_reading c.args.block.now c.requires.0 points c.requires.1 b) c.requires.2 in
      search_begun c.args.block.now points b c.args.values v c.in-Ok.head.0 c.in-Ok.head.1 c.in-Ok.head.2.now c.in-Ok.ensures c.args.time c.least-before.result c.least-before.ensures,
)

pub decode_number-requires : goal.decode_number-requires
decode_number-requires c = value_found _ _ _ _ _ _ _ _ _ _ _ (c.loop-index.invariant.1 c.requires.0 c.requires.1)

pub decode_step-next-requires : goal.decode_step-next-requires
decode_step-next-requires c = step_found _ _ _ _ _ _ _ _ _ _ _ (c.loop-index.invariant.1 c.requires.0 c.requires.1) c.args.limit c.loop-index-test.true c.requires.3

pub loop-index-preserved : goal.loop-index-preserved
loop-index-preserved c = (
  let t = c.loop-index-test.true in omega arith,
  λ points b.
      let few = subst (λ (x : List (ℤ × ℤ)). c.args.limit < length x) (one_reading c.args.block.now c.requires.0 points c.requires.1 b) c.requires.3 in
      search_next _ _ _ _ _ _ _ _ _ _ _ _ _ c.decode_number.ensures _ _ c.decode_step-next.ensures _ refl (less_from c.loop-index.now c.args.time c.if-lt.ensures) (c.loop-index.invariant.1 points b) c.args.limit c.loop-index-test.true few,
)

pub slice_bounds-result-count-3 : goal.slice_bounds-result-count-3
slice_bounds-result-count-3 c = rest_fits _ _ _ _ _ _ _ _ _ _ _ (c.loop-index.invariant.1 c.requires.0 c.requires.1)

pub returns : goal.returns
returns c = λ points b.
    place_is _ _ _ _ _ _ _ _ _ _ _ (c.loop-index.invariant.1 points b) _ c.args.limit refl refl refl refl refl refl refl refl c.loop-index.invariant.0
    (λ l.
    elim c.loop-index-test.branch [
      | then-loop-index-test+else-lt w ↦ not_less c.loop-index.now c.args.time w.if-lt.ensures
      | else-loop-index-test w ↦ let m = w.loop-index-test.false in absurd (omega arith)
    ])
