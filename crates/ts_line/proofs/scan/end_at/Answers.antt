use Rattle.std.proofs.Common.{◌≡◌, ◌+◌, ◌-◌, ◌<◌, false, [], length, drop, get_or, sym, ap, ◌∙◌, arith, slice_range, refl}
use Rattle.std.proofs.lemmas.Bool.{or_parts}
use Rattle.ts_core.specs.facts.Facts.{Text}
use Rattle.ts_line.specs.Scan.{is_stop, is_backslash, part_len, end_of}
use Rattle.ts_line.proofs.ScanLemmas.{bare_step, any_step}
use Rattle.ts_line.proofs.scan.end_at.Goals as goal

pub loop-at-init : goal.loop-at-init
unfolding end_of
loop-at-init c =
    let zero : c.args.from - c.args.from ≡ 0 = omega arith in
    let none : slice_range c.args.line.now c.args.from c.args.from ≡ [] = rw zero refl in
    record {
      from = omega arith;
      within = omega (arith, c.requires, c.as_bytes-bytes.ensures.len);
      length = ap (λ (l : Text). c.args.from + part_len c.args.stops 0 (drop c.args.from l)) c.as_bytes-bytes.ensures.value;
      escape = rw none refl;
    }

pub loop-at-preserved : goal.loop-at-preserved
loop-at-preserved c =
    let inv = c.loop-at.invariant in
    let bytes : Text = c.as_bytes-bytes.result.now in
    let line : Text = c.args.line.now in
    let at = c.loop-at.at in
    let same : bytes ≡ line = c.as_bytes-bytes.ensures.value in
    let plain = or_parts (is_backslash (get_or bytes at 0)) (is_stop c.args.stops (get_or bytes at 0)) (sym c.is_delimiter.ensures ∙ c.if-is_delimiter.false) in
    let slash : is_backslash (get_or bytes at 0) ≡ false = plain.0 in
    let stop : is_stop c.args.stops (get_or bytes at 0) ≡ false = plain.1 in
    let step : part_len c.args.stops 0 (drop at bytes) ≡ part_len c.args.stops 0 (drop (at + 1) bytes) + 1 = bare_step c.args.stops bytes at c.loop-at-test.true stop slash in
    let within : at < length line = omega (arith, c.loop-at-test.true, c.as_bytes-bytes.ensures.len) in
    let here : is_stop c.args.stops (get_or line at 0) ≡ false = ap (λ (l : Text). is_stop c.args.stops (get_or l at 0)) (sym same) ∙ stop in
    record {
      from = omega arith;
      within = omega arith;
      length = omega (arith, step, inv.length);
      escape = any_step (is_stop c.args.stops) line c.args.from at inv.from within ∙ rw (inv.escape, here) refl;
    }
