use Rattle.std.proofs.Common.{rules, ◌≡◌, ◌++◌, ◌∷◌, [], ◌<◌, ◌∙◌, ap, sym, length, take, append_assoc, arith, List, ℤ, subst}
use Rattle.std.proofs.lemmas.List.{take_more_set, take_all}
use Rattle.ts_block.proofs.decoder.Decoder.fill_by_steps.Goals as goal

pub unreachable-requires : goal.unreachable-requires
unreachable-requires c =
    let none = ap length c.in-None.ensures.steps.0 in
    let size = c.loop-i.invariant.size in
    let test = c.loop-i-test.true in
    let few = c.requires in
    let whole = ap length c.replace-decoder.ensures.value in
    omega arith

pub loop-i-init : goal.loop-i-init
loop-i-init c = record { points = sym c.replace-decoder.ensures.value; size = let e = ap length c.replace-decoder.ensures.value in omega arith }

pub loop-i-preserved : goal.loop-i-preserved
loop-i-preserved c =
    let is = c.in-Some.ensures.steps in
    let in_room : c.loop-i.i < length c.loop-i.room = search rules in
    record {
      points = c.loop-i.invariant.points ∙ ap (λ (ps : List (ℤ × ℤ)). take c.loop-i.i c.loop-i.room ++ ps) is
          ∙ sym (append_assoc (take c.loop-i.i c.loop-i.room) (c.in-Some.point ∷ []) c.next.new.self)
          ∙ sym (ap (λ (ps : List (ℤ × ℤ)). ps ++ c.next.new.self) (take_more_set c.loop-i.room c.loop-i.i c.in-Some.point in_room));
      size = let e = ap length is in let size = c.loop-i.invariant.size in omega arith;
    }

pub returns : goal.returns
returns c =
    let end : c.loop-i.i ≡ length c.loop-i.room = search rules in
    subst (λ n. c.args.self.now ≡ take n c.loop-i.room ++ c.loop-i.decoder) end c.loop-i.invariant.points ∙ ap (λ (ps : List (ℤ × ℤ)). ps ++ c.loop-i.decoder) (take_all (length c.loop-i.room) c.loop-i.room (omega arith))
