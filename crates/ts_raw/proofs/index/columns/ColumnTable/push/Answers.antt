use Rattle.std.proofs.Common.{◌≡◌, ℕ, ◌<◌, List, [], ◌∷◌, ◌++◌, length, get_or, set, Option, Some, OnOk, cond, is_ok, sym, ◌∙◌, ap, subst, rules}
use Rattle.std.proofs.lemmas.List.{length-map}
use Rattle.std.specs.HashMap.{get, Updates}
use Rattle.ts_core.specs.lists.Members.{Among}
use Rattle.ts_raw.specs.ColumnTables.{ColumnNumbers, IsColumnTable, same_numbers}
use Rattle.ts_raw.specs.Lists.{lists_of}
use Rattle.ts_raw.proofs.ColumnLemmas.{columns_same, columns_push}
use Rattle.ts_raw.proofs.ListsLemmas.{lists_same, lists_more}
use Rattle.ts_raw.proofs.index.columns.ColumnTable.push.Goals as goal

pub invariant_of-self-in_err-push : goal.invariant_of-self-in_err-push
invariant_of-self-in_err-push g c =
    let index : ℕ × ℕ → Option ℕ = get same_numbers c.self.inside.indices in
    let columns : List (ℕ × ℕ) = c.self.inside.columns.items in
    let members : List (List ℕ) = lists_of c.self.inside.members.items in
    columns_same index columns members c.self.invariant (get same_numbers c.reserve-2.new.self) c.reserve.new.self.items
    (lists_of (set c.self.inside.members.items c.args.field c.push.new.self)) c.in_ok-reserve-2.ensures.entries.2 c.in_ok-reserve.ensures.items
    (lists_same c.self.inside.members.items c.args.field c.index_mut-members.result.now c.push.new.self c.index_mut-members.ensures.value c.in_err-push.ensures.items)

pub invariant_of-self-2 : goal.invariant_of-self-2
invariant_of-self-2 g c =
    let index : ℕ × ℕ → Option ℕ = get same_numbers c.self.inside.indices in
    let after : ℕ × ℕ → Option ℕ = get same_numbers c.insert-inserted.new.self in
    let columns : List (ℕ × ℕ) = c.self.inside.columns.items in
    let members : List (List ℕ) = lists_of c.self.inside.members.items in
    let x : ℕ × ℕ = (c.args.series, c.args.field) in
    let number : c.in_ok-number.number ≡ length columns = search rules in
    let spare : c.args.field < length c.self.inside.members.items = subst (λ (t : ColumnNumbers). c.args.field < t.fields) (sym c.self.view_is) c.requires.field in
    let made : c.args.field < length members = subst (λ n. c.args.field < n) (sym (length-map c.self.inside.members.items (λ v. v.items))) spare in
    let absent : Among x columns → ⊥ = subst (λ (t : ColumnNumbers). Among x t.columns → ⊥) (sym c.self.view_is) c.requires.absent in
    let updated : Updates same_numbers c.reserve-2.new.self c.insert-inserted.new.self x (Some c.in_ok-number.number) =
    subst (λ r. OnOk r (Updates same_numbers c.reserve-2.new.self c.insert-inserted.new.self x (Some c.in_ok-number.number))) c.unwrap.ensures c.insert-inserted.ensures.updates in
    let indices : (y : ℕ × ℕ) → after y ≡ cond (same_numbers x y) (Some (length columns)) (index y) =
    λ y. updated.0 y ∙ ap (λ o. cond (same_numbers x y) (Some c.in_ok-number.number) o) (c.in_ok-reserve-2.ensures.entries.2 y) ∙ ap (λ n. cond (same_numbers x y) (Some n) (index y)) number in
    let pushed : c.push-2.new.self.items ≡ columns ++ x ∷ [] =
    c.push-2.ensures.items ∙ ap (λ r. cond (is_ok r) (c.reserve.new.self.items ++ x ∷ []) c.reserve.new.self.items) c.unwrap-2.ensures
    ∙ ap (λ (xs : List (ℕ × ℕ)). xs ++ x ∷ []) c.in_ok-reserve.ensures.items in
    let more : lists_of (set c.self.inside.members.items c.args.field c.push.new.self) ≡ set members c.args.field (get_or members c.args.field [] ++ length columns ∷ []) =
    lists_more c.self.inside.members.items c.args.field c.index_mut-members.result.now c.push.new.self c.index_mut-members.ensures.value c.in_ok-number.number spare c.in_ok-push.ensures.items
    ∙ ap (λ n. set members c.args.field (get_or members c.args.field [] ++ n ∷ [])) number in
    subst (λ (ms : List (List ℕ)). IsColumnTable after c.push-2.new.self.items ms) (sym more)
    (subst (λ (cs : List (ℕ × ℕ)). IsColumnTable after cs (set members c.args.field (get_or members c.args.field [] ++ length columns ∷ []))) (sym pushed)
    (columns_push index columns members c.self.invariant after x made absent indices))
