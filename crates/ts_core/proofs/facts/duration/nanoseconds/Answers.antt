use Rattle.std.proofs.Common.{◌≡◌, ◌∷◌, ◌+◌, ◌-◌, ◌*◌, get_or, true, false, rules, arith, option_and_then, sym, ap}
use Rattle.std.specs.Char.{is_ascii_digit}
use Rattle.ts_core.proofs.facts.DurationSteps.{nothing_read, no_start, starts, whole_past, digit_past, digit_read, after_digit, after_letter}
use Rattle.ts_core.proofs.facts.duration.nanoseconds.Goals as goal
use Rattle.ts_core.proofs.facts.duration.nanoseconds.Goals.{then-is_ascii_digit+in_ok-whole+in_ok-number, else-is_ascii_digit}
use Rattle.ts_core.specs.facts.Durations.{in_64_bits}

pub returns-in_err-whole : goal.returns-in_err-whole
returns-in_err-whole c =
    let digit : is_ascii_digit (get_or c.args.text.now c.loop-at.at 0) ≡ true = search rules in
    rw c.from_residual.ensures
    (whole_past c.loop-at.sum c.loop-at.number c.loop-at.name c.loop-at.at c.args.text.now _ c.loop-at-test.true digit c.loop-at.invariant.left c.in_err-whole.ensures)

pub returns-in_err-number : goal.returns-in_err-number
returns-in_err-number c =
    let digit : is_ascii_digit (get_or c.args.text.now c.loop-at.at 0) ≡ true = search rules in
    rw c.from_residual-in_err-number.ensures
    (digit_past c.loop-at.sum c.loop-at.number c.loop-at.name c.loop-at.at c.in_ok-whole.whole c.in_ok-whole.begun c.args.text.now _ c.loop-at-test.true digit c.loop-at.invariant.left c.in_ok-whole.ensures c.in_err-number.ensures)

pub returns-in_default : goal.returns-in_default
returns-in_default c =
    sym (ap (option_and_then in_64_bits) (nothing_read c.args.text.now c.in_default.ensures.cases))

pub returns-then-not-is_ascii_digit : goal.returns-then-not-is_ascii_digit
returns-then-not-is_ascii_digit c =
    let is : c.args.text.now ≡ c.in-Some.first.now ∷ c.in-Some.field-0-1.now = search rules in
    let letter : is_ascii_digit c.in-Some.first.now ≡ false = search rules in
    sym (ap (option_and_then in_64_bits) (no_start c.args.text.now c.in-Some.first.now c.in-Some.field-0-1.now is letter))

pub loop-at-init : goal.loop-at-init
loop-at-init c =
    let is : c.args.text.now ≡ c.in-Some.first.now ∷ c.in-Some.field-0-1.now = search rules in
    let digit : is_ascii_digit c.in-Some.first.now ≡ true = search rules in
    record { begun = omega arith; left = starts c.args.text.now c.in-Some.first.now c.in-Some.field-0-1.now is digit }

pub loop-at-preserved : goal.loop-at-preserved
loop-at-preserved c =
    let text = c.args.text.now in
    let state = c.loop-at in
    elim c.if-is_ascii_digit.branch [
      | then-is_ascii_digit+in_ok-whole+in_ok-number w ↦
          let digit : is_ascii_digit (get_or text state.at 0) ≡ true = search rules in
          let number : c.if-is_ascii_digit.number ≡ w.in_ok-whole.begun * 10 + (get_or text state.at 0 - 48) = search rules in
          record {
            begun = omega arith;
            left =
                after_digit c.if-is_ascii_digit.sum c.if-is_ascii_digit.number c.if-is_ascii_digit.name state.at w.in_ok-whole.whole (w.in_ok-whole.begun * 10 + (get_or text state.at 0 - 48)) text _ w.sum-is number w.name-is
                (digit_read state.sum state.number state.name state.at w.in_ok-whole.whole w.in_ok-whole.begun text _ c.loop-at-test.true digit state.invariant.left w.in_ok-whole.ensures);
          }
      | else-is_ascii_digit w ↦
          let letter : is_ascii_digit (get_or text state.at 0) ≡ false = search rules in
          record {
            begun = omega arith;
            left =
                after_letter c.if-is_ascii_digit.sum c.if-is_ascii_digit.number c.if-is_ascii_digit.name state.at state.sum state.number state.name text _ w.sum-is w.number-is w.name-is
                state.invariant.begun c.loop-at-test.true letter state.invariant.left;
          }
    ]
