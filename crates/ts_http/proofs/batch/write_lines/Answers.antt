use Rattle.std.proofs.Common.{rules, ◌≡◌, ◌∷◌, [], ap, lit<, length, length-append, arith}
use Rattle.std.proofs.lemmas.Str.Pattern.{split_parts}
use Rattle.std.proofs.lemmas.Result.{err_from_is_err_and}
use Rattle.std.specs.declared.alloc.AllocError.{AllocError}
use Rattle.ts_http.specs.Batches.{body_lines}
use Rattle.ts_http.proofs.BatchLemmas.{begins, goes_on, all_done, stopped, next_line, last_line}
use Rattle.ts_http.proofs.batch.write_lines.Goals as goal

pub loop-line-init : goal.loop-line-init
loop-line-init g c = (search rules, omega (arith, c.new-tally.ensures.none.0), omega (arith, c.new-tally.ensures.none.1), λ s i. begins c.args.precision c.args.now s (body_lines c.args.body.now) c.new-tally.result c.args.store.now c.new-tally.ensures.tally i)

pub loop-line-preserved : goal.loop-line-preserved
loop-line-preserved g c =
    let p = split_parts 10 c.loop-line.rest.now c.split_once.result c.split_once.ensures.cases (lit< tt) in
    let parts = rw c.in-Some.is at p in
    let next : body_lines c.loop-line.rest.now ≡ c.in-Some.line.now ∷ body_lines c.in-Some.others.now = next_line c.loop-line.rest.now c.in-Some.line.now c.in-Some.others.now parts.0 parts.1 in
    let i = c.loop-line.invariant in (
      search rules,
      omega (arith, i.1, c.count.ensures.lines, ap length parts.0, length-append c.in-Some.line.now (10 ∷ c.in-Some.others.now)),
      c.count.ensures.fewer,
      λ s h. goes_on AllocError c.args.precision c.args.now s (body_lines c.args.body.now) c.loop-line.tally c.count.new.self c.in-Some.line.now (body_lines c.loop-line.rest.now) (body_lines c.in-Some.others.now) c.loop-line.store c.write_in.new.store c.in_ok-write_in.field-0 c.refusal.result
          (i.3 s h) next c.in_ok-write_in.ensures c.refusal.ensures c.count.ensures.tally,
    )

pub returns-in_err-write_in : goal.returns-in_err-write_in
returns-in_err-write_in g c = λ s h.
    let p = split_parts 10 c.loop-line.rest.now c.split_once.result c.split_once.ensures.cases (lit< tt) in
    let parts = rw c.in-Some.is at p in
    let next : body_lines c.loop-line.rest.now ≡ c.in-Some.line.now ∷ body_lines c.in-Some.others.now = next_line c.loop-line.rest.now c.in-Some.line.now c.in-Some.others.now parts.0 parts.1 in
    let q = err_from_is_err_and c.from_residual.result c.from_residual.ensures.1 in
    rw q.1 (stopped AllocError c.args.precision c.args.now s c.args.body.now c.loop-line.tally c.in-Some.line.now (body_lines c.loop-line.rest.now) (body_lines c.in-Some.others.now) c.loop-line.store c.write_in.new.store q.0
    (c.loop-line.invariant.3 s h) next c.in_err-write_in.ensures)

pub returns-in_err-write_in-2 : goal.returns-in_err-write_in-2
returns-in_err-write_in-2 g c = λ s h.
    let p = split_parts 10 c.loop-line.rest.now c.split_once.result c.split_once.ensures.cases (lit< tt) in
    let none = rw c.in_default.is at p in
    let q = err_from_is_err_and c.from_residual-in_err-write_in-2.result c.from_residual-in_err-write_in-2.ensures.1 in
    rw q.1 (stopped AllocError c.args.precision c.args.now s c.args.body.now c.loop-line.tally c.loop-line.rest.now (body_lines c.loop-line.rest.now) [] c.loop-line.store c.write_in-2.new.store q.0
    (c.loop-line.invariant.3 s h) (last_line c.loop-line.rest.now none) c.in_err-write_in-2.ensures)

pub returns : goal.returns
returns g c = λ s h.
    let p = split_parts 10 c.loop-line.rest.now c.split_once.result c.split_once.ensures.cases (lit< tt) in
    let none = rw c.in_default.is at p in
    all_done AllocError c.args.precision c.args.now s c.args.body.now c.count-2.new.self c.write_in-2.new.store
    (goes_on AllocError c.args.precision c.args.now s (body_lines c.args.body.now) c.loop-line.tally c.count-2.new.self c.loop-line.rest.now (body_lines c.loop-line.rest.now) [] c.loop-line.store c.write_in-2.new.store c.in_ok-write_in-2.field-0 c.refusal-2.result
    (c.loop-line.invariant.3 s h) (last_line c.loop-line.rest.now none) c.in_ok-write_in-2.ensures c.refusal-2.ensures c.count-2.ensures.tally)
