use Rattle.std.proofs.Common.{◌≡◌, arith}
use Rattle.ts_ql.proofs.LexingLemmas.{unit_at, unit_within, unit_boundary}
use Rattle.ts_ql.proofs.number.unit_end.Goals as goal

pub overflow_add-result : goal.overflow_add-result
overflow_add-result c =
    let e : c.unit_len.result ≡ unit_at c.args.text.now c.args.at = cc in
    let within = unit_within c.args.text.now c.args.at c.unit_len.result e c.requires in
    omega arith

pub returns-clause-boundary : goal.returns-clause-boundary
returns-clause-boundary c =
    let e : c.unit_len.result ≡ unit_at c.args.text.now c.args.at = cc in
    λ some. unit_boundary c.args.text.now c.args.at c.unit_len.result e c.utf8.text c.requires some
