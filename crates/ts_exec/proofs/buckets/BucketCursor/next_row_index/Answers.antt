use Rattle.std.proofs.Common.{rules, arith, ◌≡◌, ℤ, pos, ◌+ℤ◌, ◌≤ℤ◌, ◌<ℤ◌, ◌+◌, min, SFits, w64, to_z-of_z, ◌∙◌, ap, sym, subst}
use Rattle.std.proofs.lemmas.Int.{ints}
use Rattle.ts_exec.specs.RowParts.{BucketGrid, IsEnd, row_index_at}
use Rattle.ts_exec.proofs.NextBuckets.{next-guessed, next-end}
use Rattle.ts_exec.proofs.buckets.BucketCursor.next_row_index.Goals as goal

pub invariant_of-self : goal.invariant_of-self
invariant_of-self c =
    let b = c.self.inside in
    let g : BucketGrid = record { from = b.from; interval = b.interval; offset = b.offset } in
    let end : ℤ = c.end_of-end.result in
    let row_index : c.saturating_add-row_index.result ≡ min (b.row_index + 1) 18446744073709551615 = search rules in
    let h : SFits w64 b.high = search rules in
    let e : SFits w64 end = search rules in
    let later : b.from <ℤ b.high = search rules in
    let from : b.high ≤ℤ c.args.time = search rules in
    let before : c.args.time <ℤ end = search rules in
    let less : b.high <ℤ pos 9223372036854775807 = omega (arith, ints) in
    let bound : end ≤ℤ (b.high +ℤ b.interval) = search rules in
    let is : IsEnd g b.high b.row_index = c.self.invariant.edge less in
    rw (to_z-of_z h, to_z-of_z e, row_index)
    (record {
      interval = c.self.invariant.interval;
      guessed = λ t l u. next-guessed g b.high b.row_index c.self.invariant.interval later is t l (omega (arith, ints));
      edge = λ small. subst (λ z. IsEnd g z (min (b.row_index + 1) 18446744073709551615)) (sym (c.end_of-end.ensures.exact small)) (next-end g b.high b.row_index c.self.invariant.interval later is);
    })

pub returns-clause-value : goal.returns-clause-value
returns-clause-value c =
    let b = c.self.inside in
    let g : BucketGrid = record { from = b.from; interval = b.interval; offset = b.offset } in
    let end : ℤ = c.end_of-end.result in
    let row_index : c.saturating_add-row_index.result ≡ min (b.row_index + 1) 18446744073709551615 = search rules in
    let e : SFits w64 end = search rules in
    let later : b.from <ℤ b.high = search rules in
    let from : b.high ≤ℤ c.args.time = search rules in
    let before : c.args.time <ℤ end = search rules in
    let less : b.high <ℤ pos 9223372036854775807 = omega (arith, ints) in
    let bound : end ≤ℤ (b.high +ℤ b.interval) = search rules in
    let is : g ≡ c.args.self.now = c.self.view_is in
    row_index
    ∙ next-guessed g b.high b.row_index c.self.invariant.interval later (c.self.invariant.edge less) c.args.time from (omega (arith, ints))
    ∙ ap (λ (x : BucketGrid). min (row_index_at x c.args.time) 18446744073709551615) is
