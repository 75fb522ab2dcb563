-- Conditions sorted, and each once: the same series meet them.
use Rattle.std.proofs.Common.{◌≡◌, ℕ, ◌+◌, ◌<◌, ◌≤◌, Bool, true, false, not, cond, ◌&&◌, ◌||◌, List, [], ◌∷◌, length, get_or, drop, refl, sym, ◌∙◌, ap, Bor}
use Rattle.std.specs.List.{list_all, list_any}
use Rattle.std.specs.List.Sorted.{IsPermutation}
use Rattle.std.proofs.lemmas.List.{drop_more, drop_all}
use Rattle.std.proofs.lemmas.List.Folds.{list_all-map}
use Rattle.std.proofs.lemmas.List.Sorted.{list_any-IsPermutation}
use Rattle.ts_core.specs.facts.Facts.{Series}
use Rattle.ts_core.specs.queries.Queries.{Condition, meets}
use Rattle.ts_store.specs.read.ViewResults.{ColumnRef}
use Rattle.ts_exec.specs.Borrowed.{borrowed}
use Rattle.ts_exec.specs.GroupTables.{selected_column_refs}
use Rattle.ts_exec.specs.ReducedConditions.{meets_all, AreMetAlike, IsMetByNone}

all_or_one : {X : Type 0} (p : X → Bool) (xs : List X) → list_all p xs ≡ not (list_any (λ x. not (p x)) xs)
all_or_one p [] = refl
all_or_one p (x ∷ xs) = elim (p x) as (λ b. (b && list_all p xs) ≡ not (not b || list_any (λ y. not (p y)) xs)) [ true ↦ all_or_one p xs | false ↦ refl ]

-- in another order
pub met-permuted : (xs ys : List (Bor Condition)) → IsPermutation xs ys → AreMetAlike (borrowed ys) (borrowed xs)
met-permuted xs ys h s =
    let p : Bor Condition → Bool = λ c. meets s c.now in
    list_all-map (meets s) (λ (c : Bor Condition). c.now) ys
    ∙ all_or_one p ys
    ∙ ap not (sym (list_any-IsPermutation (λ c. not (p c)) xs ys h))
    ∙ sym (all_or_one p xs)
    ∙ sym (list_all-map (meets s) (λ (c : Bor Condition). c.now) xs)

-- ---- the conditions that are kept

pub and_assoc : (x y z : Bool) → ((x && y) && z) ≡ (x && (y && z))
and_assoc true y z = refl
and_assoc false y z = refl

-- one more fits
kept_more : (old new own left rest all fits : Bool) → (old && own) ≡ (fits && new) → fits ≡ true → rest ≡ (own && left) → (old && rest) ≡ all → (new && left) ≡ all
kept_more old new own left rest all fits e t r h =
    sym (ap (λ x. (x && new) && left) t)
    ∙ ap (λ x. x && left) (sym e)
    ∙ and_assoc old own left
    ∙ ap (λ x. old && x) (sym r)
    ∙ h

pub met-next : (old new items : List (Bor Condition)) (i : ℕ) (c : Bor Condition) (fits : Bool) (s : Series) → i < length items → c ≡ get_or items i c
    → (meets_all (borrowed old) s && meets s c.now) ≡ (fits && meets_all (borrowed new) s) → fits ≡ true
    → (meets_all (borrowed old) s && meets_all (borrowed (drop i items)) s) ≡ meets_all (borrowed items) s
    → (meets_all (borrowed new) s && meets_all (borrowed (drop (i + 1) items)) s) ≡ meets_all (borrowed items) s
met-next old new items i c fits s below at e t h =
    let next : drop i items ≡ c ∷ drop (i + 1) items = drop_more items i c below ∙ ap (λ x. x ∷ drop (i + 1) items) (sym at) in
    kept_more (meets_all (borrowed old) s) (meets_all (borrowed new) s) (meets s c.now) (meets_all (borrowed (drop (i + 1) items)) s) (meets_all (borrowed (drop i items)) s) (meets_all (borrowed items) s) fits e t
    (ap (λ (cs : List (Bor Condition)). meets_all (borrowed cs) s) next) h

pub met-all : (kept items : List (Bor Condition)) (i : ℕ) (s : Series) → length items ≤ i
    → (meets_all (borrowed kept) s && meets_all (borrowed (drop i items)) s) ≡ meets_all (borrowed items) s → meets_all (borrowed kept) s ≡ meets_all (borrowed items) s
met-all kept items i s long h = sym (and_true (meets_all (borrowed kept) s)) ∙ ap (λ (cs : List (Bor Condition)). meets_all (borrowed kept) s && meets_all (borrowed cs) s) (sym (drop_all i items long)) ∙ h
  where
    and_true : (b : Bool) → (b && true) ≡ b
    and_true true = refl
    and_true false = refl

-- no column is selected by conditions that no series meets
pub none-selected : (conditions : List Condition) (ss : List ColumnRef) → IsMetByNone conditions → [] ≡ selected_column_refs conditions ss
none-selected conditions [] h = refl
none-selected conditions (s ∷ ss) h = none-selected conditions ss h ∙ sym (ap (λ b. cond b (s ∷ selected_column_refs conditions ss) (selected_column_refs conditions ss)) (h s.series))
