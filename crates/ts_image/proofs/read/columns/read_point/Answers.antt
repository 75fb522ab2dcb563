use Rattle.std.proofs.Common.{rules, ◌≡◌, ℤ, SFits, to_z, of_z, to_z-of_z, w64}
use Rattle.ts_image.specs.Formats.{signed_number}
use Rattle.ts_image.proofs.Together.{also_reads}
use Rattle.ts_image.proofs.read.columns.read_point.Goals as goal

abbrev as_it_is : ℤ → ℤ
as_it_is z = z

pub returns : goal.returns
returns g c =
    let f1 : SFits w64 c.in_ok-time.time = search rules in
    let f2 : SFits w64 c.in_ok-value.value = search rules in
    let e1 : to_z w64 (of_z w64 c.in_ok-time.time) ≡ c.in_ok-time.time = to_z-of_z f1 in
    let e2 : to_z w64 (of_z w64 c.in_ok-value.value) ≡ c.in_ok-value.value = to_z-of_z f2 in
    rw (e1, e2) (also_reads (signed_number w64) (signed_number w64) as_it_is as_it_is c.args.reader.now c.i64.new.self c.i64-2.new.self c.args.source.now c.i64.new.source c.i64-2.new.source c.in_ok-time.time c.in_ok-value.value c.in_ok-time.ensures c.in_ok-value.ensures)
