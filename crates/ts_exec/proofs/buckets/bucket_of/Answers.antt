use Rattle.std.proofs.Common.{rules, ◌≡◌, ℤ, pos, ◌+ℤ◌, sym, subst}
use Rattle.ts_core.specs.aggregates.Buckets.{bucket_of, bucket_start}
use Rattle.ts_exec.specs.RowParts.{IsSpan}
use Rattle.ts_exec.proofs.Spans.{span-is}
use Rattle.ts_exec.proofs.buckets.bucket_of.Goals as goal

pub returns : goal.returns
returns c =
    let t : ℤ = c.args.time in
    let i : ℤ = c.args.interval in
    let o : ℤ = c.args.offset in
    let k : ℤ = bucket_of t i o in
    let b = c.bucket.result in
    let index : b.index ≡ k = search rules in
    let start : b.start ≡ bucket_start k i o = search rules in
    let end : b.end ≡ bucket_start (k +ℤ pos 1) i o = search rules in
    subst (λ x. IsSpan t i o x b.end b.index) (sym start) (subst (λ x. IsSpan t i o (bucket_start k i o) x b.index) (sym end) (subst (IsSpan t i o (bucket_start k i o) (bucket_start (k +ℤ pos 1) i o)) (sym index) (span-is t i o c.requires)))
