use Rattle.std.proofs.Common.{◌∙◌, ◌≡◌, ◌+◌, negsuc, sym, get_or, length, arith}
use Rattle.std.proofs.lemmas.Int.{ints}
use Rattle.ts_store.specs.image.SavedContent.{frozen_from}
use Rattle.ts_store.specs.image.FrozenLeft.{frozen_left}
use Rattle.ts_store.specs.read.LiveCells.{rollup_at}
use Rattle.ts_store.proofs.read.ShownCells.{facts_counted}
use Rattle.ts_store.proofs.store.column_facts.ColumnFacts.frozen_count.Given.{Over}
use Rattle.ts_store.proofs.store.column_facts.ColumnFacts.frozen_count.Goals as goal

-- all cells with frozen facts
all : (g : Over) (c : goal.After-frozen_count g) → length (frozen_from c.args.low.now (rollup_at c.args.self.now.rollups c.args.number).grid.cells) + length (frozen_left c.walk.result) ≡ c.frozen_count.result
all g c =
    facts_counted c.args.self.now c.args.rule.now c.args.number c.index-rollup.result.now (negsuc 170141183460469231731687303715884105727) c.args.low.now c.walk.result c.requires (omega (arith, ints))
    (c.index-rollup.ensures ∙ (λ i. get_or (c.self.view_is i).rollups c.args.number c.index-rollup.result.now)) c.walk.ensures.entries ∙ sym c.frozen_count.ensures

pub without-requires : goal.without-requires
without-requires g c = let a = all g c in omega arith

pub returns : goal.returns
returns g c = let a = all g c.before in let w = c.without.ensures in omega arith
