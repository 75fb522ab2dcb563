use Rattle.std.proofs.Common.{rules, ◌≡◌, ◌<◌, ◌+◌, ◌-◌, ℕ, ℤ, List, [], ◌∷◌, ◌++◌, Some, length, take, append_assoc, ◌∙◌, ap, sym, subst, arith, SFits, w64, to_z, of_z, to_z-of_z}
use Rattle.std.proofs.lemmas.List.{take_more_set, take_all}
use Rattle.ts_block.specs.Decoding.{CanRead, points_left}
use Rattle.ts_block.proofs.DecodingLemmas.{value_is_read, time_is_known, spaced_moved, spaced_moves_on}
use Rattle.ts_block.proofs.decoder.fill_spaced.Goals.{In-loop-i}
use Rattle.ts_block.proofs.decoder.fill_spaced.Goals as goal

pub loop-i-init : goal.loop-i-init
loop-i-init c =
    let all : c.args.left ≡ c.args.left - 0 = omega arith in
    record {
      can = subst (λ n. CanRead (Some c.args.step) n c.args.time [] c.args.values.now) all c.requires.can;
      points = ap (λ n. points_left (Some c.args.step) n c.args.time [] c.args.values.now) all;
    }

-- points are left
some : (c : In-loop-i) → c.args.left - c.loop-i.i ≡ 0 → ⊥
some c e = let few = c.requires.few in let test = c.loop-i-test.true in omega arith

pub decode_number-number-requires : goal.decode_number-number-requires
decode_number-number-requires c = value_is_read (c.args.left - c.loop-i.i) c.loop-i.time [] c.loop-i.values.now (some c) (Some c.args.step) c.loop-i.invariant.can

pub next_time-time-requires : goal.next_time-time-requires
next_time-time-requires c = λ more.
    time_is_known c.args.step (c.args.left - c.loop-i.i) c.loop-i.time [] c.loop-i.values.now (some (goal.at.next_time-time-requires c).In-loop-i) (λ one. omega arith) c.loop-i.invariant.can

pub loop-i-preserved : goal.loop-i-preserved
loop-i-preserved c =
    let at = (goal.at.loop-i-preserved c).In-loop-i in
    let left : ℕ = c.args.left - c.loop-i.i in
    let less : left - 1 ≡ c.args.left - (c.loop-i.i + 1) = omega arith in
    let in_room : c.loop-i.i < length c.loop-i.room = search rules in
    let fits : SFits w64 c.from_zigzag.result = search rules in
    let value : to_z w64 (of_z w64 c.from_zigzag.result) ≡ c.from_zigzag.result = to_z-of_z fits in
    let point : ℤ × ℤ = (c.loop-i.time, to_z w64 (of_z w64 c.from_zigzag.result)) in
    let rest : ℕ → List (ℤ × ℤ) = λ n. points_left (Some c.args.step) n c.next_time-time.result [] c.decode_number-number.result.1.now in
    record {
      can = subst (λ n. CanRead (Some c.args.step) n c.next_time-time.result [] c.decode_number-number.result.1.now) less
          (spaced_moves_on c.args.step left c.loop-i.time c.loop-i.values.now (some at) c.decode_number-number.result.0 c.decode_number-number.result.1.now c.decode_number-number.ensures c.next_time-time.result c.next_time-time.ensures c.loop-i.invariant.can);
      points = c.loop-i.invariant.points
          ∙ ap (λ (ps : List (ℤ × ℤ)). take c.loop-i.i c.loop-i.room ++ ps)
          (spaced_moved c.args.step left c.loop-i.time c.loop-i.values.now (some at) c.decode_number-number.result.0 c.decode_number-number.result.1.now c.decode_number-number.ensures c.next_time-time.result c.next_time-time.ensures
          ∙ (λ i. (c.loop-i.time, sym (value ∙ c.from_zigzag.ensures) i) ∷ rest (less i)))
          ∙ sym (append_assoc (take c.loop-i.i c.loop-i.room) (point ∷ []) (rest (c.args.left - (c.loop-i.i + 1))))
          ∙ sym (ap (λ (ps : List (ℤ × ℤ)). ps ++ rest (c.args.left - (c.loop-i.i + 1))) (take_more_set c.loop-i.room c.loop-i.i point in_room));
    }

pub returns-clause-can : goal.returns-clause-can
returns-clause-can c =
    let end : c.loop-i.i ≡ length c.loop-i.room = search rules in
    subst (λ n. CanRead (Some c.args.step) (c.args.left - n) c.loop-i.time [] c.loop-i.values.now) end c.loop-i.invariant.can

pub returns-clause-points : goal.returns-clause-points
returns-clause-points c =
    let end : c.loop-i.i ≡ length c.loop-i.room = search rules in
    c.loop-i.invariant.points ∙ (λ i. take (end i) c.loop-i.room ++ points_left (Some c.args.step) (c.args.left - end i) c.loop-i.time [] c.loop-i.values.now)
    ∙ ap (λ (ps : List (ℤ × ℤ)). ps ++ points_left (Some c.args.step) (c.args.left - length c.loop-i.room) c.loop-i.time [] c.loop-i.values.now) (take_all (length c.loop-i.room) c.loop-i.room (omega arith))
