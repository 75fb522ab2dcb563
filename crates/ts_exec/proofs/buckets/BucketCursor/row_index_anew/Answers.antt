use Rattle.std.proofs.Common.{rules, arith, ◌≡◌, ℤ, ◌-ℤ◌, ◌≤ℤ◌, ◌<ℤ◌, min, SFits, w64, to_z-of_z, ◌∙◌, ap, sym, subst}
use Rattle.std.proofs.lemmas.Int.{ints}
use Rattle.ts_core.specs.aggregates.Buckets.{bucket_of}
use Rattle.ts_core.specs.queries.Answers.{at_least_none}
use Rattle.ts_exec.specs.RowParts.{BucketGrid, IsEnd}
use Rattle.ts_exec.proofs.NextBuckets.{span-end}
use Rattle.ts_exec.proofs.buckets.BucketCursor.row_index_anew.Goals as goal

pub invariant_of-self : goal.invariant_of-self
invariant_of-self c =
    let b = c.self.inside in
    let g : BucketGrid = record { from = b.from; interval = b.interval; offset = b.offset } in
    let s = c.bucket_of-bucket.result in
    let low : ℤ = c.raised-self-inside.result in
    let high : ℤ = c.capped-self-inside.result in
    let i : SFits w64 b.interval = search rules in
    let o : SFits w64 b.offset = search rules in
    let l : SFits w64 low = search rules in
    let h : SFits w64 high = search rules in
    let from : s.start ≤ℤ low = search rules in
    let to : high ≤ℤ s.end = search rules in
    let d : c.distance-row_index.result ≡ min (at_least_none (s.index -ℤ bucket_of b.from b.interval b.offset)) 18446744073709551615 = search rules in
    let all = rw (to_z-of_z i, to_z-of_z o) at c.bucket_of-bucket.ensures.all in
    let next = rw (to_z-of_z i, to_z-of_z o) at c.bucket_of-bucket.ensures.next in
    let begins = c.bucket_of-bucket.ensures.from in
    let ends = c.bucket_of-bucket.ensures.before in
    let some : s.start <ℤ s.end = omega (arith, ints) in
    rw (to_z-of_z l, to_z-of_z h)
    (record {
      interval = c.self.invariant.interval;
      guessed = λ t from_low to_high. d ∙ ap (λ z. min (at_least_none (z -ℤ bucket_of b.from b.interval b.offset)) 18446744073709551615) (sym (all t (omega (arith, ints)) (omega (arith, ints))));
      edge = λ less. subst (λ z. IsEnd g z c.distance-row_index.result) (sym (c.capped-self-inside.ensures.exact less)) (span-end g s.start s.end s.index c.distance-row_index.result some all next d);
    })
