use Rattle.std.proofs.Common.{rules, ◌≡◌, length, ◌-◌, ◌≤◌, take, arith}
use Rattle.std.proofs.lemmas.List.{length-take-le}
use Rattle.std.proofs.lemmas.Slice.{take-put_mid_below}
use Rattle.ts_http.proofs.ReadLemmas.{stands_behind, same_size, no_end}
use Rattle.ts_http.proofs.reading.read_after.Goals as goal

pub returns-in-Ok-clause-read : goal.returns-in-Ok-clause-read
returns-in-Ok-clause-read g c =
    let buffer = c.args.buffer.now in
    let buf = c.read.new.buf in
    let count = c.args.count in
    let n = c.in-Ok.n in
    let there : count ≤ length buffer = omega (arith, c.requires) in
    let size : length buf ≡ length buffer - count = search rules in
    let some : n ≤ length buf = c.in-Ok.ensures.bound.0 in
    record {
      size = same_size buffer buf count there size;
      kept = take-put_mid_below count (length buffer - count) buffer buf count (omega arith) there;
      within = omega (arith, some, size, there);
      came = (take n buf, stands_behind buffer buf count n there size some, length-take-le n buf some, c.in-Ok.ensures.bytes.0);
      end = λ none. c.in-Ok.ensures.bytes.1 none (omega (arith, size, c.requires));
      ends = λ some. no_end n _ _ _ c.in-Ok.ensures.ends some;
      failures = search rules;
      reads = search rules;
    }
