use Rattle.std.proofs.Common.{rules, ◌≡◌, ◌∙◌, ◌++◌, ap, arith, length, take, unwrap_or, []}
use Rattle.ts_core.specs.facts.Facts.{Text}
use Rattle.ts_http.proofs.BodyLemmas.{taken_whole, written_back}
use Rattle.ts_http.proofs.body.receive_body.Goals as goal

pub returns-then-branch-clause-taken : goal.returns-then-branch-clause-taken
returns-then-branch-clause-taken g c =
    let r = c.in_ok-read_body.ensures.read in
    let w = rw c.if-branch.true at r.whole in
    let b = c.in-Ok.ensures in
    let nb = c.read_body.new.body in
    let same : c.deref_mut.result.now ≡ c.in-Ok.body.items = search rules in
    let size : length c.deref_mut.result.now ≡ c.args.len = ap length same ∙ b.0 in
    let whole : c.in-Ok.body.len ≡ length nb = omega (arith, r.size, c.deref_mut.ensures.len) in
    let back = written_back c.in-Ok.body.len nb c.in-Ok.body.items whole in
    let made : nb ≡ c.front_of-front.result.now ++ w.0 = w.1 ∙ ap (λ (l : Text). l ++ w.0) (ap (take (length c.front_of-front.result.now)) same ∙ b.1) in
    record {
      body = (w.0, w.2, taken_whole c.args.len c.args.after.now c.front_of-front.result.now w.0 (unwrap_or c.read_body.new.source.remaining []) _ c.front_of-front.ensures (back ∙ made) (ap length back ∙ r.size ∙ size));
      ends = rw c.if-branch.true at r.ends;
      failures = search rules;
      reads = omega (arith, r.reads, size);
    }
