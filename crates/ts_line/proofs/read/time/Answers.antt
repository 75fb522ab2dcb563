use Rattle.std.proofs.Common.{◌≡◌, slice_range, length, Some, sym, ap, ◌∙◌, ℤ, w64, to_z, of_z}
use Rattle.std.proofs.lemmas.Int.{to_z-of_z}
use Rattle.std.specs.Option.{ok_or}
use Rattle.ts_core.specs.text.Numbers.{whole_of}
use Rattle.ts_line.specs.Lines.{time_of, time_by}
use Rattle.ts_core.specs.facts.TimeUnits.{nanoseconds_of}
use Rattle.ts_core.proofs.text.NumberLemmas.{whole_fits}
use Rattle.ts_line.proofs.LineLemmas.{unit_fits, timed, to_end, or_fault}
use Rattle.ts_line.proofs.read.time.Goals as goal

pub time_of-requires-clause-number : goal.time_of-requires-clause-number
time_of-requires-clause-number c =
    let n = slice_range c.args.line.now c.after_spaces-start.result (length c.args.line.now) in
    ap (λ (x : ℤ). Some x) (to_z-of_z w64 c.in-Some.value (whole_fits n c.in-Some.value c.in-Some.ensures.value)) ∙ c.in-Some.ensures.value ∙ ap whole_of (to_end c.args.line.now c.after_spaces-start.result ∙ sym c.range_from-number.ensures.value)

pub returns-in-Some : goal.returns-in-Some
returns-in-Some c =
    let line = c.args.line.now in
    let start = c.after_spaces-start.result in
    let unit : to_z w64 (of_z w64 c.nanoseconds.result) ≡ nanoseconds_of c.args.precision = ap (λ x. to_z w64 (of_z w64 x)) c.nanoseconds.ensures ∙ to_z-of_z w64 (nanoseconds_of c.args.precision) (unit_fits c.args.precision) in
    let text : c.range_from-number.result.now ≡ slice_range line start (length line) = c.range_from-number.ensures.value ∙ sym (to_end line start) in
    c.ok_or.ensures.value ∙ ap (ok_or c.time_of.result) c.at.ensures ∙ or_fault start c.time_of.result
    ∙ ap (time_by start) (c.time_of.ensures ∙ ap (λ u. time_of u c.range_from-number.result.now) unit ∙ ap (time_of (nanoseconds_of c.args.precision)) text)
    ∙ sym (timed (nanoseconds_of c.args.precision) c.args.now line c.args.at start (sym c.after_spaces-start.ensures.value) c.if-start-line.false c.in-Some.ensures.number)
