use Rattle.ts_ql.proofs.LiteralLemmas.{spelled_time}
use Rattle.ts_ql.proofs.lists.columns.Column.is_time.Goals as goal

pub returns : goal.returns
returns c =
    let is = rw (spelled_time, c.written_name.ensures) at c.is_spelled_alike.ensures in
    is
