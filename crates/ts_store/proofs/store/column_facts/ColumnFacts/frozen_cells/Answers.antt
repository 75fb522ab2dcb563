use Rattle.std.proofs.Common.{◌∙◌, pos, get_or, arith}
use Rattle.std.proofs.lemmas.Int.{ints}
use Rattle.ts_store.proofs.read.ShownCells.{facts_frozen}
use Rattle.ts_store.proofs.store.column_facts.ColumnFacts.frozen_cells.Goals as goal

pub returns : goal.returns
returns g c =
    facts_frozen c.args.self.now c.args.rule.now c.args.number c.index.result.now c.args.low.now (pos 170141183460469231731687303715884105727) c.walk.result c.requires (omega (arith, ints))
    (c.index.ensures ∙ (λ i. get_or (c.self.view_is i).rollups c.args.number c.index.result.now)) c.walk.ensures.entries
