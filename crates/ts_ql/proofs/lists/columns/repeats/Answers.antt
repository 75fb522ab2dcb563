use Rattle.std.proofs.Common.{◌≡◌, rules, false, codes, bytes_eq}
use Rattle.ts_ql.proofs.StatementLemmas.{has_name, told_first, told_more}
use Rattle.ts_ql.proofs.lists.columns.repeats.Goals as goal

pub loop-column-init : goal.loop-column-init
loop-column-init g c = rw c.new-names.ensures.empty (told_first c.args.columns.now)

pub loop-column-preserved : goal.loop-column-preserved
loop-column-preserved g c =
    let item = c.column-item.result in
    let other : bytes_eq item.name (codes "time") ≡ false = search rules in
    let new : has_name c.loop-column.names.keys item.name ≡ false = search rules in
    rw c.in_ok-insert.ensures.keys (told_more c.loop-column.names.keys c.args.columns.now c.loop-column.column-index item c.name-name.result c.loop-column-test.true c.column-item.is c.loop-column.invariant other new c.name-name.ensures)
