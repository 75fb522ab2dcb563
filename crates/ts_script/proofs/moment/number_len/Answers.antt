use Rattle.std.proofs.Common.{◌≡◌, ◌<◌, true, false, length, drop, ap, sym, ◌∙◌, subst, arith, get_or, ℕ, List}
use Rattle.std.proofs.lemmas.Str.{IsCharBoundary-start, IsCharBoundary-after_ascii}
use Rattle.ts_script.specs.Moments.{number_len}
use Rattle.ts_script.proofs.NumberLemmas.{in_number, in_number-ascii, number_len-more, number_len-stop, number_len-end}
use Rattle.ts_script.proofs.moment.number_len.Goals as goal

pub loop-i-init : goal.loop-i-init
loop-i-init c = record { cut = IsCharBoundary-start c.args.text.now c.utf8.text; same = omega arith }

pub returns-then-not-is_in_number-clause-len : goal.returns-then-not-is_in_number-clause-len
returns-then-not-is_in_number-clause-len c =
    let e = c.as_bytes-b-items.ensures.value in
    let lt : c.loop-i.i < length c.args.text.now = omega (arith, ap length e, c.loop-i-test.true) in
    let out : in_number (get_or c.args.text.now c.loop-i.i 0) ≡ false = subst (λ (l : List ℕ). in_number (get_or l c.loop-i.i 0) ≡ false) e (sym c.is_in_number.ensures ∙ c.if-not-is_in_number.true) in
    omega (arith, c.loop-i.invariant.same, number_len-stop c.args.text.now c.loop-i.i lt out)

pub loop-i-preserved : goal.loop-i-preserved
loop-i-preserved c =
    let e = c.as_bytes-b-items.ensures.value in
    let lt : c.loop-i.i < length c.args.text.now = omega (arith, ap length e, c.loop-i-test.true) in
    let inn : in_number (get_or c.args.text.now c.loop-i.i 0) ≡ true = subst (λ (l : List ℕ). in_number (get_or l c.loop-i.i 0) ≡ true) e (sym c.is_in_number.ensures ∙ c.if-not-is_in_number.false) in
    record {
      cut = IsCharBoundary-after_ascii c.args.text.now c.loop-i.i c.utf8.text lt (in_number-ascii (get_or c.args.text.now c.loop-i.i 0) inn);
      same = omega (arith, c.loop-i.invariant.same, number_len-more c.args.text.now c.loop-i.i lt inn);
    }

pub returns-clause-len : goal.returns-clause-len
returns-clause-len c =
    let e = c.as_bytes-b-items.ensures.value in
    let at_end : c.loop-i.i ≡ length c.args.text.now = omega (arith, ap length e, c.loop-i-test.false, c.loop-i.auto.i-end) in
    let none : number_len (drop c.loop-i.i c.args.text.now) ≡ 0 = ap (λ (n : ℕ). number_len (drop n c.args.text.now)) at_end ∙ number_len-end c.args.text.now in
    omega (arith, c.loop-i.invariant.same, none, at_end)
