use Rattle.std.proofs.Common.{ℤ, List, ◌∙◌, ap, subst, get_or, arith}
use Rattle.ts_raw.specs.BlockColumns.{AreHeld, points_in_texts}
use Rattle.ts_store.proofs.read.ColumnRefLemmas.{points_shown}
use Rattle.ts_store.proofs.store.ColumnsLemmas.{its_columns}
use Rattle.ts_store.proofs.store.column_facts.ColumnFacts.blocks_of.Goals as goal

pub index-requires : goal.index-requires
index-requires g c =
    let many = its_columns _ _ _ _ c.self.invariant c.self.view_is in
    omega (arith, c.requires, c.number.ensures, many)

pub returns : goal.returns
returns g c =
    subst (λ (ps : List (ℤ × ℤ)). AreHeld ps c.blocks-2.result (points_in_texts c.blocks-2.result))
    (points_shown _ _ _ _ c.args.column c.index.result.now c.self.invariant c.self.view_is c.requires
    (c.index.ensures ∙ ap (λ n. get_or c.self.inside.columns.items n c.index.result.now) c.number.ensures))
    c.blocks-2.ensures
