use Rattle.std.proofs.Common.{rules, ◌≡◌, ◌<◌, ◌≤◌, ◌+◌, ◌-◌, ◌==◌, ℕ, [], Some, length, get_or, slice_set, refl, ◌∙◌, ap, sym, subst, arith, zero, suc, false, SFits, w64, to_z, of_z, to_z-of_z}
use Rattle.std.proofs.lemmas.List.{length-set}
use Rattle.ts_block.specs.Varints.{unzigzag}
use Rattle.ts_block.specs.Decoding.{points_left}
use Rattle.ts_block.proofs.OneByteLemmas.{AreFilled, filled-none, filled-time, filled-on, filled-can, filled-points}
use Rattle.ts_block.proofs.decoder.fill_bytes.Goals.{In-loop-i, After-next_time}
use Rattle.ts_block.proofs.decoder.fill_bytes.Goals as goal

pub loop-i-init : goal.loop-i-init
loop-i-init c = record { filled = filled-none c.args.step c.args.left c.args.values.now c.args.time c.args.room.now c.requires.can; size = refl }

-- each point of the loop has one after it
before_last : (c : In-loop-i) → 2 ≤ c.args.left - c.loop-i.i
before_last c = let few = c.requires.few in let test = c.loop-i-test.true in omega arith

pub time_after-time-requires : goal.time_after-time-requires
time_after-time-requires c =
    let at = (goal.at.time_after-time-requires c).In-loop-i in
    let two = before_last at in
    filled-time c.args.step c.args.left c.args.values.now c.requires.bytes _ c.loop-i.i (omega arith) c.loop-i.time c.loop-i.room c.loop-i.invariant.filled two

pub loop-i-preserved : goal.loop-i-preserved
loop-i-preserved c =
    let at = (goal.at.loop-i-preserved c).In-loop-i in
    let two = before_last at in
    let fits : SFits w64 c.from_zigzag.result = search rules in
    let size = c.loop-i.invariant.size in
    let few = c.requires.few in
    let test = c.loop-i-test.true in
    let in_room : c.loop-i.i < length c.loop-i.room = omega arith in
    record {
      filled = filled-on c.args.step c.args.left c.args.values.now c.requires.bytes _ c.loop-i.i (omega arith) c.loop-i.time c.loop-i.room c.loop-i.invariant.filled
          (to_z w64 (of_z w64 c.from_zigzag.result)) (to_z-of_z fits ∙ search rules) c.time_after-time.result (λ more. c.time_after-time.ensures) in_room;
      size = length-set c.loop-i.room c.loop-i.i (c.loop-i.time, to_z w64 (of_z w64 c.from_zigzag.result)) ∙ size;
    }

-- there is a last place
some : (n : ℕ) → (n == 0) ≡ false → 0 < n
some zero e = absurd (cc)
some (suc n) e = omega arith

pub next_time-requires : goal.next_time-requires
next_time-requires c =
    λ two.
    let few = c.requires.few in
    let there : 0 < length c.args.room.now = some _ (sym c.if-is_empty.ensures) in
    let end : c.loop-i.i ≡ length c.args.room.now - 1 = search rules in
    filled-time c.args.step c.args.left c.args.values.now c.requires.bytes _ c.loop-i.i (omega arith) c.loop-i.time c.loop-i.room c.loop-i.invariant.filled (omega arith)

-- the room is full
filled : (c : After-next_time) → AreFilled c.args.step c.args.left c.args.values.now (points_left (Some c.args.step) c.args.left c.args.time [] c.args.values.now) (c.loop-i.i + 1) c.next_time.result (slice_set c.loop-i.room (length c.args.room.now - 1) (c.loop-i.time, to_z w64 (of_z w64 c.from_zigzag-2.result)))
filled c =
    let few = c.requires.few in
    let there : 0 < length c.args.room.now = some _ (sym c.if-is_empty.ensures) in
    let end : c.loop-i.i ≡ length c.args.room.now - 1 = search rules in
    let fits : SFits w64 c.from_zigzag-2.result = search rules in
    let size = c.loop-i.invariant.size in
    let in_room : c.loop-i.i < length c.loop-i.room = omega arith in
    let byte : c.from_zigzag-2.result ≡ unzigzag (get_or c.args.values.now (length c.args.room.now - 1) 0) = search rules in
    let value : to_z w64 (of_z w64 c.from_zigzag-2.result) ≡ unzigzag (get_or c.args.values.now c.loop-i.i 0) = to_z-of_z fits ∙ byte ∙ ap (λ n. unzigzag (get_or c.args.values.now n 0)) (sym end) in
    subst (λ n. AreFilled c.args.step c.args.left c.args.values.now (points_left (Some c.args.step) c.args.left c.args.time [] c.args.values.now) (c.loop-i.i + 1) c.next_time.result (slice_set c.loop-i.room n (c.loop-i.time, to_z w64 (of_z w64 c.from_zigzag-2.result)))) end
    (filled-on c.args.step c.args.left c.args.values.now c.requires.bytes (points_left (Some c.args.step) c.args.left c.args.time [] c.args.values.now) c.loop-i.i (omega arith) c.loop-i.time c.loop-i.room c.loop-i.invariant.filled
    (to_z w64 (of_z w64 c.from_zigzag-2.result)) value c.next_time.result (λ two. c.next_time.ensures (omega arith)) in_room)

full : (c : After-next_time) → c.loop-i.i + 1 ≡ length (slice_set c.loop-i.room (length c.args.room.now - 1) (c.loop-i.time, to_z w64 (of_z w64 c.from_zigzag-2.result)))
full c =
    let there : 0 < length c.args.room.now = some _ (sym c.if-is_empty.ensures) in
    let end : c.loop-i.i ≡ length c.args.room.now - 1 = search rules in
    let size = c.loop-i.invariant.size in
    let same = length-set c.loop-i.room (length c.args.room.now - 1) (c.loop-i.time, to_z w64 (of_z w64 c.from_zigzag-2.result)) in
    omega arith

pub returns-clause-can : goal.returns-clause-can
returns-clause-can c =
    let at = (goal.at.returns-clause-can c).After-next_time in
    let end : c.loop-i.i ≡ length c.args.room.now - 1 = search rules in
    filled-can c.args.step c.args.left c.args.values.now _ (c.loop-i.i + 1) c.next_time.result _ (filled at) (full at) (length c.args.room.now - 1 + 1) (omega arith)

pub returns-clause-points : goal.returns-clause-points
returns-clause-points c =
    let at = (goal.at.returns-clause-points c).After-next_time in
    let end : c.loop-i.i ≡ length c.args.room.now - 1 = search rules in
    filled-points c.args.step c.args.left c.args.values.now _ (c.loop-i.i + 1) c.next_time.result _ (filled at) (full at) (length c.args.room.now - 1 + 1) (omega arith)
