use Rattle.std.proofs.Common.{rules, ◌≡◌, ◌==◌, length, take, drop, ◌+◌, ◌-◌, ap, sym, ◌∙◌, subst, true≢false}
use Rattle.std.proofs.lemmas.List.{length-take-le}
use Rattle.std.proofs.lemmas.Bool.{eqb-true}
use Rattle.std.specs.Cmp.Lexicographic.{other_text}
use Rattle.ts_block.specs.Decoding.{IsSpacing}
use Rattle.ts_block.proofs.DecodingLemmas.{values_inside, one_reading}
use Rattle.ts_block.proofs.SpacedLemmas.{head_before, step_can, rest_within, distance_fits, is_spacing, none_spaced, not_spaced}
use Rattle.ts_block.proofs.spacing.spacing_of.Goals.{Else-is_empty}
use Rattle.ts_block.proofs.spacing.spacing_of.Goals as goal

pub slice_bounds-steps-end : goal.slice_bounds-steps-end
slice_bounds-steps-end c = let h = values_inside c.args.block.now c.requires.0 c.requires.1 c.args.values c.requires.2 in let k = head_before c.args.block.now c.args.values c.requires.0 c.requires.1 c.requires.2 in search rules

-- there are steps
some : (c : Else-is_empty) → length (take (c.args.values - 9) (drop 9 c.args.block.now)) ≡ 0 → ⊥
some c e = true≢false (sym (ap (λ n. n == 0) e) ∙ sym c.if-is_empty.ensures)

pub decode_number-step-requires : goal.decode_number-step-requires
decode_number-step-requires c = step_can c.args.block.now c.args.values c.requires.0 c.requires.1 c.requires.2 (some c)

pub slice_bounds-eq-end : goal.slice_bounds-eq-end
slice_bounds-eq-end c =
    let at = (goal.at.slice_bounds-eq-end c).Else-is_empty in
    let within = rest_within c.args.block.now c.args.values c.requires.0 c.requires.1 c.requires.2 (some at) c.decode_number-step.result.0 c.decode_number-step.result.1.now c.decode_number-step.ensures in
    sym (length-take-le _ _ within)

pub overflow_add-result : goal.overflow_add-result
overflow_add-result c =
    let at = (goal.at.overflow_add-result c).Else-is_empty in
    let fits = distance_fits c.args.block.now c.args.values c.requires.0 c.requires.1 c.requires.2 (some at) c.decode_number-step.result.0 c.decode_number-step.result.1.now c.decode_number-step.ensures in
    search rules

pub returns-then-is_empty : goal.returns-then-is_empty
returns-then-is_empty c = λ points b.
    subst (IsSpacing 0) (one_reading c.args.block.now c.requires.0 points c.requires.1 b) (none_spaced c.args.block.now c.args.values c.requires.0 c.requires.1 c.requires.2 (eqb-true _ 0 (sym c.if-is_empty.ensures)))

pub returns-then-eq : goal.returns-then-eq
returns-then-eq c = λ points b.
    let at = (goal.at.returns-then-eq c).Else-is_empty in
    subst (IsSpacing (c.decode_number-step.result.0 + 1)) (one_reading c.args.block.now c.requires.0 points c.requires.1 b)
    (is_spacing c.args.block.now c.args.values c.requires.0 c.requires.1 c.requires.2 (some at) c.decode_number-step.result.0 c.decode_number-step.result.1.now c.decode_number-step.ensures (search rules))

pub returns-else-eq : goal.returns-else-eq
returns-else-eq c = λ points b.
    subst (IsSpacing 0) (one_reading c.args.block.now c.requires.0 points c.requires.1 b)
    (not_spaced c.args.block.now c.args.values c.requires.0 c.requires.1 c.requires.2 c.decode_number-step.result.0 c.decode_number-step.result.1.now c.decode_number-step.ensures (other_text _ _ (sym c.if-eq.false ∙ c.eq.ensures)))
