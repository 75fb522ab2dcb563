use Rattle.std.proofs.Common.{◌≡◌, false, eqb, length, [], Ok, sym, ap, ◌∙◌}
use Rattle.std.proofs.lemmas.Bool.{ne_eqb}
use Rattle.std.proofs.lemmas.Result.{err_from_is_err_and}
use Rattle.ts_core.specs.facts.TimeUnits.{nanoseconds_of}
use Rattle.ts_line.specs.Scan.{spaces_end}
use Rattle.ts_line.specs.Fields.{fields_at}
use Rattle.ts_line.proofs.FieldLemmas.{read_fields}
use Rattle.ts_line.proofs.LineLemmas.{parts_read, time_fails}
use Rattle.ts_line.proofs.NameFacts.{parts_named}
use Rattle.ts_line.proofs.read.parts.Goals as goal

pub new-requires : goal.new-requires
new-requires g c =
    let start = c.after_spaces-start.ensures.value in
    let more : eqb (spaces_end c.args.line.now c.in_ok-tags.end) (length c.args.line.now) ≡ false = ne_eqb _ _ (λ e. c.if-start-line.false (start ∙ e)) in
    let fields : fields_at 256 [] c.args.line.now (spaces_end c.args.line.now c.in_ok-tags.end) ≡ Ok (c.in_ok-fields.fields.items, c.in_ok-fields.end) = rw (← start) c.in_ok-fields.ensures.value in
    let read = parts_read (nanoseconds_of c.args.precision) c.args.now c.args.line.now c.args.start c.in_ok-measurement.end c.in_ok-tags.end c.in_ok-fields.end c.in_ok-measurement.measurement c.in_ok-tags.tags.items c.in_ok-fields.fields.items c.in_ok-time.time
    c.in_ok-measurement.ensures.value c.in_ok-tags.ensures.value more fields (sym c.in_ok-time.ensures) in
    parts_named (nanoseconds_of c.args.precision) c.args.now c.args.line.now c.args.start (record { measurement = c.in_ok-measurement.measurement; tags = c.in_ok-tags.tags.items; fields = c.in_ok-fields.fields.items; time = c.in_ok-time.time })
    c.requires.boundary.0 read c.in_ok-tags.ensures.few (read_fields c.args.line.now c.after_spaces-start.result c.in_ok-fields.fields.items c.in_ok-fields.end c.in_ok-fields.ensures.value)

pub returns : goal.returns
returns g c =
    let start = c.after_spaces-start.ensures.value in
    let more : eqb (spaces_end c.args.line.now c.in_ok-tags.end) (length c.args.line.now) ≡ false = ne_eqb _ _ (λ e. c.if-start-line.false (start ∙ e)) in
    let fields : fields_at 256 [] c.args.line.now (spaces_end c.args.line.now c.in_ok-tags.end) ≡ Ok (c.in_ok-fields.fields.items, c.in_ok-fields.end) = rw (← start) c.in_ok-fields.ensures.value in
    parts_read (nanoseconds_of c.args.precision) c.args.now c.args.line.now c.args.start c.in_ok-measurement.end c.in_ok-tags.end c.in_ok-fields.end c.in_ok-measurement.measurement c.in_ok-tags.tags.items c.in_ok-fields.fields.items c.in_ok-time.time
    c.in_ok-measurement.ensures.value c.in_ok-tags.ensures.value more fields (sym c.in_ok-time.ensures) ∙ ap (λ p. Ok p) (sym c.new.ensures)

pub returns-in_err-time : goal.returns-in_err-time
returns-in_err-time g c =
    let start = c.after_spaces-start.ensures.value in
    let more : eqb (spaces_end c.args.line.now c.in_ok-tags.end) (length c.args.line.now) ≡ false = ne_eqb _ _ (λ e. c.if-start-line.false (start ∙ e)) in
    let fields : fields_at 256 [] c.args.line.now (spaces_end c.args.line.now c.in_ok-tags.end) ≡ Ok (c.in_ok-fields.fields.items, c.in_ok-fields.end) = rw (← start) c.in_ok-fields.ensures.value in
    let p = err_from_is_err_and c.from_residual-in_err-time.result c.from_residual-in_err-time.ensures.1 in
    rw (p.1, p.2) (time_fails (nanoseconds_of c.args.precision) c.args.now c.args.line.now c.args.start c.in_ok-measurement.end c.in_ok-tags.end c.in_ok-fields.end c.in_ok-measurement.measurement c.in_ok-tags.tags.items c.in_ok-fields.fields.items c.in_err-time.field-0.0
    c.in_ok-measurement.ensures.value c.in_ok-tags.ensures.value more fields (sym c.in_err-time.ensures))
