use Rattle.std.proofs.Common.{◌≡◌, ℕ, List, [], ◌∷◌, ◌++◌, Option, sym, ◌∙◌, ap, subst}
use Rattle.std.proofs.lemmas.List.{map-append}
use Rattle.std.specs.HashMap.{get}
use Rattle.ts_raw.specs.ColumnTables.{IsColumnTable, same_numbers}
use Rattle.ts_raw.specs.Lists.{lists_of}
use Rattle.ts_raw.proofs.ColumnLemmas.{columns_more_fields}
use Rattle.ts_raw.proofs.index.columns.ColumnTable.add_field.Goals as goal

pub invariant_of-self-2 : goal.invariant_of-self-2
invariant_of-self-2 g c =
    let index : ℕ × ℕ → Option ℕ = get same_numbers c.self.inside.indices in
    let columns : List (ℕ × ℕ) = c.self.inside.columns.items in
    let members : List (List ℕ) = lists_of c.self.inside.members.items in
    let more : lists_of c.push.new.self.items ≡ members ++ [] ∷ [] =
    ap lists_of c.in_ok-push.ensures.items ∙ map-append (λ v. v.items) c.self.inside.members.items (c.new.result ∷ [])
    ∙ ap (λ (xs : List ℕ). members ++ xs ∷ []) c.new.ensures.items in
    subst (λ ms. IsColumnTable index columns ms) (sym more) (columns_more_fields index columns members c.self.invariant)
