use Rattle.std.proofs.Common.{◌≡◌, ℕ, ◌+◌, List, [], ◌∷◌, ◌++◌, map, drop, append_assoc, sym, ◌∙◌, ap}
use Rattle.std.proofs.lemmas.List.{drop_more}
use Rattle.ts_core.specs.facts.Facts.{Column}
use Rattle.ts_store.specs.read.ViewResults.{ColumnRef, column_ref_in}
use Rattle.ts_store.proofs.read.view_columns.view_columns_of.Goals as goal

pub loop-id-preserved : goal.loop-id-preserved
loop-id-preserved g c =
    let cs : List Column = c.args.index.now.columns in
    let ids : List ℕ = c.args.ids.now in
    let i : ℕ = c.loop-id.id-index in
    let id : ℕ = c.id-item.result in
    let column_refs : List ColumnRef = c.loop-id.columns.items in
    let rest : List ColumnRef = map (column_ref_in cs) (drop (i + 1) ids) in
    let pushed : c.push.new.self.items ≡ column_refs ++ column_ref_in cs id ∷ [] = c.in_ok-push.ensures.items ∙ ap (λ (s : ColumnRef). column_refs ++ s ∷ []) c.view_column.ensures in
    let next : id ∷ drop (i + 1) ids ≡ drop i ids = ap (λ (n : ℕ). n ∷ drop (i + 1) ids) c.id-item.is ∙ sym (drop_more ids i _ c.loop-id-test.true) in
    ap (λ (ss : List ColumnRef). ss ++ rest) pushed ∙ append_assoc column_refs (column_ref_in cs id ∷ []) rest
    ∙ ap (λ (ns : List ℕ). column_refs ++ map (column_ref_in cs) ns) next ∙ c.loop-id.invariant
