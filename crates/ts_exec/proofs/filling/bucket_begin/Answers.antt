use Rattle.std.proofs.Common.{rules, ◌≡◌, ℤ, sym, subst, SFits, w64, to_z, of_z}
use Rattle.std.specs.Int.{w128}
use Rattle.ts_core.specs.aggregates.Buckets.{bucket_of, bucket_start}
use Rattle.ts_exec.specs.Fillings.{AreNear}
use Rattle.ts_exec.proofs.Spans.{start-near}
use Rattle.ts_exec.proofs.filling.bucket_begin.Goals as goal

pub returns-clause-near : goal.returns-clause-near
returns-clause-near c =
    let t : ℤ = c.args.time in
    let i : ℤ = c.args.interval in
    let o : ℤ = c.args.offset in
    let start : to_z w128 (of_z w128 c.bucket.result.start) ≡ bucket_start (bucket_of t i o) i o = search rules in
    let ft : SFits w64 t = search rules in
    let fi : SFits w64 i = search rules in
    subst (λ x. AreNear x i) (sym start) (start-near t i o c.requires ft fi)
