use Rattle.std.proofs.Common.{rules, ◌≡◌, ◌∙◌, ap, sym, pos, ◌-ℤ◌, ◌&&◌}
use Rattle.std.specs.Int.{int_rem_euclid}
use Rattle.std.specs.Ordering.{int_eq}
use Rattle.ts_check.proofs.coverage.is_aligned.Goals as goal

pub returns-then-is_multiple : goal.returns-then-is_multiple
returns-then-is_multiple g c =
    let r = c.args.rule.now in
    let q = c.args.query.now.query in
    let whole : c.is_multiple.result ≡ int_eq (int_rem_euclid q.interval r.interval) (pos 0) = search rules in
    let apart : c.is_multiple-then-is_multiple.result ≡ int_eq (int_rem_euclid (q.offset -ℤ r.offset) r.interval) (pos 0) = search rules in
    apart ∙ ap (λ b. b && int_eq (int_rem_euclid (q.offset -ℤ r.offset) r.interval) (pos 0)) (sym c.if-is_multiple.true ∙ whole)
