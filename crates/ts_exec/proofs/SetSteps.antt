-- Values without the empty ones, as the code finds and compares them.
use Rattle.std.proofs.Common.{◌≡◌, ℕ, zero, suc, ◌+◌, ◌-◌, ◌<◌, ◌==◌, if◌then◌else◌, true, false, arith, None, drop, ap₂, List, [], ◌∷◌, ◌++◌, cond, map, zip, length, Option, Some, refl, sym, ◌∙◌, ap, subst, String, string_bytes, Bor, add-one}
use Rattle.std.specs.declared.cmp.Reverse.{Reverse}
use Rattle.std.specs.Ordering.{ordering_then, nat_cmp}
use Rattle.std.specs.Cmp.Lexicographic.{slice_cmp}
use Rattle.std.specs.List.{position_from}
use Rattle.std.specs.List.Sorted.{IsStrictlySortedBy}
use Rattle.std.proofs.lemmas.Option.{same_Some}
use Rattle.ts_core.specs.facts.Facts.{Text, same_text, text_cmp}
use Rattle.ts_core.specs.facts.Tags.{value_among}
use Rattle.ts_core.specs.text.Texts.{IsTagSet}
use Rattle.ts_ql.specs.Selects.{texts}
use Rattle.ts_exec.specs.GroupValues.{SetValue, AreSetValues, all_values, seen_set, set_value_cmp, set_values, tag_index, first_value, own_values, kept_indices, kept_values}
use Rattle.ts_exec.proofs.GroupValuesLemmas.{all-set, are-set, own-set, kept-set}

-- a search by position finds a tag's index
pub position-index : {A : Type 0} (name : Text) (i : ℕ) (kept : List (String A)) → position_from (λ k. same_text (string_bytes k) name) i kept ≡ tag_index i (texts kept) name
position-index name i [] = refl
position-index name i (k ∷ kept) =
    ap (λ (o : Option ℕ). cond (same_text (string_bytes k) name) (Some i) o) (position-index name (i + 1) kept ∙ ap (λ n. tag_index n (texts kept) name) (add-one i))

-- lists compare as the values in them
pub seen-cmp : (xs ys : List (Reverse ℕ × Bor Text))
    → slice_cmp (λ (x y : Reverse ℕ × Bor Text). ordering_then (nat_cmp y.0.0 x.0.0) (text_cmp x.1.now y.1.now)) xs ys ≡ slice_cmp set_value_cmp (seen_set xs) (seen_set ys)
seen-cmp [] [] = refl
seen-cmp [] (y ∷ ys) = refl
seen-cmp (x ∷ xs) [] = refl
seen-cmp (x ∷ xs) (y ∷ ys) = ap (ordering_then (set_value_cmp (x.0.0, x.1.now) (y.0.0, y.1.now))) (seen-cmp xs ys)

pub none-more : (n : ℕ) → 0 + n ≡ n
none-more n = omega arith

-- the values of n tags are set, and are all values
pub set-fits : (tags : List Text) (f : Text → Text) (n : ℕ) (vs : List SetValue) → length tags ≡ n → vs ≡ set_values 0 tags f → AreSetValues 0 n vs × (all_values 0 n vs ≡ map f tags)
set-fits tags f n vs long is =
    subst (λ m. AreSetValues 0 m vs × (all_values 0 m vs ≡ map f tags)) long
    (subst (λ (us : List SetValue). AreSetValues 0 (length tags) us × (all_values 0 (length tags) us ≡ map f tags)) (sym is)
    (subst (λ m. AreSetValues 0 m (set_values 0 tags f)) (none-more (length tags)) (are-set 0 tags f), all-set 0 tags f))

-- those that are appended to an empty list: of a series' own tags
pub own-fits : (tags : List Text) (own : List (Text × Text)) (n : ℕ) (none all : List (Reverse ℕ × Bor Text)) → length tags ≡ n → IsStrictlySortedBy text_cmp tags → IsTagSet own
    → none ≡ [] → seen_set all ≡ seen_set none ++ own_values tags own → AreSetValues 0 n (seen_set all) × (all_values 0 n (seen_set all) ≡ map (value_among own) tags)
own-fits tags own n none all long sorted set empty is =
    set-fits tags (value_among own) n (seen_set all) long (is ∙ ap (λ xs. seen_set xs ++ own_values tags own) empty ∙ own-set tags own sorted set)

-- of a cell's group
pub kept-fits : (tags own group : List Text) (kept : List (ℕ × ℕ)) (n : ℕ) (none all : List (Reverse ℕ × Bor Text)) → length tags ≡ n → kept ≡ kept_indices 0 tags own
    → none ≡ [] → seen_set all ≡ seen_set none ++ kept_values kept group → AreSetValues 0 n (seen_set all) × (all_values 0 n (seen_set all) ≡ map (value_among (zip own group)) tags)
kept-fits tags own group kept n none all long are empty is =
    set-fits tags (value_among (zip own group)) n (seen_set all) long
    (is ∙ ap (λ xs. seen_set xs ++ kept_values kept group) empty ∙ ap (λ ks. kept_values ks group) are ∙ kept-set tags own group)

-- ---- one value after the other

drop-seen : (i : ℕ) (xs : List (Reverse ℕ × Bor Text)) → seen_set (drop (i + 1) xs) ≡ drop 1 (seen_set (drop i xs))
drop-seen zero [] = refl
drop-seen zero (x ∷ xs) = refl
drop-seen (suc i) [] = rw (add-one (suc i)) refl
drop-seen (suc i) (x ∷ xs) = rw (add-one (suc i)) (ap (λ k. seen_set (drop k xs)) (sym (add-one i)) ∙ drop-seen i xs)

some-value : (i n : ℕ) (t : Text) (vs : List SetValue) → first_value i vs ≡ Some t → all_values i (suc n) vs ≡ t ∷ all_values (suc i) n (drop 1 vs)
some-value i n t [] e = absurd cc
some-value i n t (v ∷ vs) e =
    elim (v.0 == i) as (λ b. (if b then Some v.1 else None) ≡ Some t → (if b then v.1 ∷ all_values (suc i) n vs else [] ∷ all_values (suc i) n (v ∷ vs)) ≡ t ∷ all_values (suc i) n vs) [
      | true ↦ λ h. ap (λ (x : Text). x ∷ all_values (suc i) n vs) (same_Some v.1 t h)
      | false ↦ λ h. absurd cc
    ] e

no-value : (i n : ℕ) (vs : List SetValue) → first_value i vs ≡ None → all_values i (suc n) vs ≡ [] ∷ all_values (suc i) n vs
no-value i n [] e = refl
no-value i n (v ∷ vs) e =
    elim (v.0 == i) as (λ b. (if b then Some v.1 else None) ≡ None → (if b then v.1 ∷ all_values (suc i) n vs else [] ∷ all_values (suc i) n (v ∷ vs)) ≡ [] ∷ all_values (suc i) n (v ∷ vs)) [
      | true ↦ λ h. absurd cc
      | false ↦ λ h. refl
    ] e

-- the next of the values from index i on
pub some-next : (i n at : ℕ) (t : Text) (xs : List (Reverse ℕ × Bor Text)) → i < n → first_value i (seen_set (drop at xs)) ≡ Some t
    → all_values i (n - i) (seen_set (drop at xs)) ≡ t ∷ all_values (i + 1) (n - (i + 1)) (seen_set (drop (at + 1) xs))
some-next i n at t xs l e =
    let more : n - i ≡ suc (n - (i + 1)) = omega arith in
    ap (λ k. all_values i k (seen_set (drop at xs))) more ∙ some-value i (n - (i + 1)) t (seen_set (drop at xs)) e
    ∙ ap₂ (λ k (vs : List SetValue). t ∷ all_values k (n - (i + 1)) vs) (sym (add-one i)) (sym (drop-seen at xs))

pub no-next : (i n : ℕ) (vs : List SetValue) → i < n → first_value i vs ≡ None → all_values i (n - i) vs ≡ [] ∷ all_values (i + 1) (n - (i + 1)) vs
no-next i n vs l e =
    let more : n - i ≡ suc (n - (i + 1)) = omega arith in
    ap (λ k. all_values i k vs) more ∙ no-value i (n - (i + 1)) vs e ∙ ap (λ k. [] ∷ all_values k (n - (i + 1)) vs) (sym (add-one i))
