use Rattle.std.proofs.Common.{rules, ◌≡◌, ℤ, SFits, to_z, of_z, to_z-of_z, sym, ◌∙◌, subst}
use Rattle.std.specs.Int.{w64}
use Rattle.ts_image.specs.Formats.{signed_number}
use Rattle.ts_image.specs.FieldReading.{ReadsField}
use Rattle.ts_image.proofs.Reading.{fine, signed_reads}
use Rattle.ts_image.proofs.read.fields.FieldReader.i64.Goals as goal

pub returns : goal.returns
returns g c =
    let z = c.from_be_bytes.result in
    let fits : SFits w64 z = search rules in
    let e : to_z w64 (of_z w64 z) ≡ z = to_z-of_z fits in
    subst (λ (x : ℤ). ReadsField (signed_number w64) (λ (n : ℤ). n) c.args.self.now c.args.source.now (fine x) c.read_exact.new.self c.read_exact.new.source) (sym (e ∙ c.from_be_bytes.ensures))
    (signed_reads w64 c.args.self.now c.read_exact.new.self c.args.source.now c.read_exact.new.source c.read_exact.new.buffer c.read_exact.ensures.len c.in_ok-read_exact.ensures.filled c.in_ok-read_exact.ensures.calls)
