use Rattle.std.proofs.Common.{rules, true, int_lt, ◌≡◌, ◌<◌, pos, ◌-ℤ◌, min, SFits, w64}
use Rattle.ts_core.specs.queries.Queries.{Query}
use Rattle.ts_core.specs.queries.Answers.{at_least_none, bucket_in}
use Rattle.ts_core.proofs.lists.Comparisons.{lt_from}
use Rattle.ts_exec.proofs.Spans.{before-fits}
use Rattle.ts_exec.proofs.Widths.{width-some}
use Rattle.ts_exec.proofs.buckets.width.Goals as goal

pub returns : goal.returns
returns g c =
    let q : Query = c.args.query.now.query in
    let e : c.distance-others.result ≡ min (at_least_none (bucket_in q (q.to -ℤ pos 1) -ℤ bucket_in q q.from)) 18446744073709551615 = search rules in
    let l : int_lt q.from q.to ≡ true = search rules in
    let f : c.distance-others.result < 18446744073709551615 = search rules in
    width-some q c.distance-others.result (search rules) (lt_from q.from q.to l) e f

pub overflow_sub-from : goal.overflow_sub-from
overflow_sub-from g c =
    let fits : SFits w64 c.to.result = search rules in
    before-fits c.to.result c.from-3.result fits (search rules)
