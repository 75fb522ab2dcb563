-- Columns whose series meet the conditions: their result is that of all columns.
use Rattle.std.proofs.Common.{◌≡◌, ℕ, ℤ, ◌<◌, Bool, true, false, not, cond, List, [], ◌∷◌, filter, refl, sym, ◌∙◌, ap, subst, ⊎_elim}
use Rattle.std.specs.List.{list_all, AllByRecursion}
use Rattle.std.proofs.lemmas.Bool.{and_parts}
use Rattle.ts_core.specs.lists.Members.{Among}
use Rattle.ts_core.proofs.lists.MembersLemmas.{filter-filter}
use Rattle.ts_core.specs.facts.Facts.{same_text}
use Rattle.ts_core.specs.facts.Tags.{tag_value}
use Rattle.ts_core.specs.queries.Queries.{Query, Condition, meets}
use Rattle.ts_core.specs.store.StoreStates.{ColumnPoints}
use Rattle.ts_store.specs.read.ViewResults.{ColumnRef, column_ref_has}
use Rattle.ts_exec.specs.declared.aggregate_parts.AggregateParts.{AggregateParts}
use Rattle.ts_exec.specs.GroupTables.{Table, with_column_ref, with_column_refs, selected_column_refs, IsNarrowing}

-- ---- what the selected columns give

abbrev is_met : List Condition → ColumnRef → Bool
is_met conditions s = list_all (meets s.series) conditions

-- a column that is there and meets the conditions
abbrev pub IsSelected : ℕ → List Condition → ColumnRef → Type 0
IsSelected m conditions s = (s.number < m) × (list_all (meets s.series) conditions ≡ true)

pub all_selected : (m : ℕ) (conditions : List Condition) (ss : List ColumnRef) → AllByRecursion (λ (s : ColumnRef). s.number < m) ss → AllByRecursion (IsSelected m conditions) (selected_column_refs conditions ss)
all_selected m conditions [] h = tt
all_selected m conditions (s ∷ ss) h =
    let rest = all_selected m conditions ss h.1 in
    elim (is_met conditions s) as (λ v. is_met conditions s ≡ v → AllByRecursion (IsSelected m conditions) (cond v (s ∷ selected_column_refs conditions ss) (selected_column_refs conditions ss))) [
      | true ↦ λ e. ((h.0, e), rest)
      | false ↦ λ e. rest
    ] refl

pub selected_give : (parts : AggregateParts) (q : Query) (cs : List ColumnPoints) (a b : ℤ) (ss : List ColumnRef) (t : Table) → with_column_refs parts q cs a b (selected_column_refs q.conditions ss) t ≡ with_column_refs parts q cs a b ss t
selected_give parts q cs a b [] t = refl
selected_give parts q cs a b (s ∷ ss) t =
    let left : List ColumnRef = selected_column_refs q.conditions ss in
    elim (is_met q.conditions s) as (λ v. is_met q.conditions s ≡ v → with_column_refs parts q cs a b (cond v (s ∷ left) left) t ≡ with_column_refs parts q cs a b ss (with_column_ref parts q cs a b s t)) [
      | true ↦ λ e. selected_give parts q cs a b ss (with_column_ref parts q cs a b s t)
      | false ↦ λ e. selected_give parts q cs a b ss t ∙ ap (λ (u : Table). with_column_refs parts q cs a b ss u) (sym (unmet s t e))
    ] refl
  where
    unmet : (s : ColumnRef) (t : Table) → is_met q.conditions s ≡ false → with_column_ref parts q cs a b s t ≡ t
    unmet s t e = rw e refl

-- ---- which columns are selected

all_among : {X : Type 0} (p : X → Bool) (xs : List X) (x : X) → list_all p xs ≡ true → Among x xs → p x ≡ true
all_among p [] x h a = absurd a
all_among p (y ∷ ys) x h a =
    let s = and_parts (p y) (list_all p ys) h in
    ⊎_elim {C = p x ≡ true} (λ e. ap p e ∙ s.0) (λ k. all_among p ys x s.1 k) a

pub selected_narrowed : (conditions : List Condition) (k : Condition) → IsNarrowing conditions k → (ss : List ColumnRef) → selected_column_refs conditions (filter (column_ref_has k.tag k.value) ss) ≡ selected_column_refs conditions ss
selected_narrowed conditions k is ss = filter-filter (is_met conditions) (column_ref_has k.tag k.value) has ss
  where
    has : (s : ColumnRef) → is_met conditions s ≡ true → column_ref_has k.tag k.value s ≡ true
    has s h =
        let same : Bool = same_text (tag_value s.series k.tag) k.value in
        subst (λ d. cond d (not same) same ≡ true) is.same (all_among (meets s.series) conditions k h is.among)
