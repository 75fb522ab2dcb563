use Rattle.std.proofs.Common.{rules, ◌≡◌, length, ◌+◌, ◌<◌, take, unwrap_or, [], arith, sym, ◌∙◌, subst}
use Rattle.std.proofs.lemmas.List.{length-take-le}
use Rattle.ts_http.specs.Heads.{head_limit, IsUnfinishedHead}
use Rattle.ts_http.proofs.ReadLemmas.{more_came, none_came}
use Rattle.ts_http.proofs.HeadLemmas.{front_told, too_long_told, end_told, if_whole, end_whole}
use Rattle.ts_http.proofs.head.read_head.Goals as goal

pub returns-then-more-eq0-clause-head : goal.returns-then-more-eq0-clause-head
returns-then-more-eq0-clause-head g c =
    let i = c.loop-count.invariant in
    let r = c.in_ok-more.ensures.read in
    let count = c.loop-count.count in
    let none = c.if-more-eq0.true in
    let same : take count c.read_after.new.buffer ≡ take count c.loop-count.buffer = r.kept in
    record {
      within = omega (arith, i.within, r.size);
      bytes = none_came _ _ _ count c.in_ok-more.more c.loop-count.buffer c.read_after.new.buffer none i.came r.came;
      head = end_told (take count c.read_after.new.buffer) count c.read_after.new.source c.loop-count.spans c.at_end.result (length-take-le count c.read_after.new.buffer (omega (arith, i.within, r.size))) (omega (arith, c.loop-count-test.true, i.buffer)) (λ some. subst IsUnfinishedHead (sym same) (i.unfinished some)) (r.end none) c.at_end.ensures.none c.at_end.ensures.some;
      ends = end_whole count c.at_end.result _ c.at_end.ensures.none c.at_end.ensures.some;
      failures = search rules;
      reads = omega (arith, r.reads, i.reads, c.loop-count-test.true, i.buffer);
    }

pub returns-in-Some-clause-head : goal.returns-in-Some-clause-head
returns-in-Some-clause-head g c =
    let i = c.loop-count.invariant in
    let r = c.in_ok-more.ensures.read in
    let count = c.loop-count.count + c.in_ok-more.more in
    let came = take count c.read_after.new.buffer in
    let some : 0 < c.in_ok-more.more = omega (arith, c.if-more-eq0.false) in
    record {
      within = omega (arith, r.within, r.size);
      bytes = more_came _ _ _ c.loop-count.count c.in_ok-more.more c.loop-count.buffer c.read_after.new.buffer i.came r.came;
      head = front_told came (unwrap_or c.read_after.new.source.remaining []) c.look.new.spans c.in-Some.head (omega (arith, length-take-le count c.read_after.new.buffer (omega (arith, r.within, r.size)), r.within, i.buffer)) (c.look.ensures.spans ∙ i.spans) c.in-Some.ensures.front;
      ends = if_whole c.in-Some.head _ (r.ends some ∙ i.ends);
      failures = omega (arith, r.failures, i.failures);
      reads = omega (arith, r.reads, i.reads, r.within, i.buffer, some);
    }

pub returns-clause-head : goal.returns-clause-head
returns-clause-head g c =
    let i = c.loop-count.invariant in
    let count = c.loop-count.count in
    let size : length (take count c.loop-count.buffer) ≡ head_limit = length-take-le count c.loop-count.buffer i.within ∙ omega (arith, i.buffer, c.loop-count-test.false, i.within) in
    record {
      within = i.within;
      bytes = i.came;
      head = too_long_told (take count c.loop-count.buffer) (unwrap_or c.loop-count.source.remaining []) c.loop-count.spans size (i.unfinished (omega (arith, i.buffer, c.loop-count-test.false)));
      ends = tt;
      failures = omega (arith, i.failures);
      reads = omega (arith, i.reads, i.buffer, i.within);
    }
