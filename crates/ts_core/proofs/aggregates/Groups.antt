-- Folds by groups: together they are the fold of all.
use Rattle.std.proofs.lemmas.Bool.{not-true, not_from_false, false_from_ne_true}
use Rattle.std.proofs.Common.{◌≡◌, ℕ, ℤ, Bool, true, not, List, [], ◌∷◌, filter, refl, sym, ◌∙◌, ap, ap₂, subst, inl, inr, ⊎_elim, true≢false}
use Rattle.ts_core.specs.lists.Members.{Among, AllDistinct}
use Rattle.ts_core.specs.aggregates.Partials.{PartialLaws, fold_by}
use Rattle.ts_core.proofs.aggregates.Folds.{fold-split}
use Rattle.ts_core.proofs.lists.MembersLemmas.{Among-filter_passes, Among-filter_was, filter-filter, no_members}

module _ {M : Type 0} {empty : M} {single : ℤ → ℤ → M} {merge : M → M → M} {count : M → ℕ} (laws : PartialLaws empty single merge count) {X K : Type 0} (one : X → M)
    (key : X → K) (same : K → K → Bool) (exact : (j k : K) → same j k ≡ true → j ≡ k) (itself : (k : K) → same k k ≡ true) where
  abbrev total : List X → M
  total xs = fold_by empty merge one xs

  -- the members of a group
  abbrev pub of_group : List X → K → List X
  of_group xs k = filter (λ x. same (key x) k) xs

  abbrev pub by_groups : List X → List K → M
  by_groups xs ks = fold_by empty merge (λ k. total (of_group xs k)) ks

  groups_same : (xs ys : List X) (ks : List K) → ((k : K) → Among k ks → of_group xs k ≡ of_group ys k) → by_groups xs ks ≡ by_groups ys ks
  groups_same xs ys [] h = refl
  groups_same xs ys (k ∷ ks) h = ap₂ merge (ap total (h k (inl refl))) (groups_same xs ys ks (λ j a. h j (inr a)))

  -- of distinct keys, among which each member's key is
  pub fold-groups : (ks : List K) → AllDistinct ks → (xs : List X) → ((x : X) → Among x xs → Among (key x) ks) → total xs ≡ by_groups xs ks
  fold-groups [] d xs h = ap total (no_members xs h)
  fold-groups (k ∷ ks) d xs h =
      let rest : List X = filter (λ x. not (same (key x) k)) xs in
      let inside : (x : X) → Among x rest → Among (key x) ks = λ x a.
      ⊎_elim {C = Among (key x) ks}
      (λ e. absurd (true≢false (sym (subst (λ j. same j k ≡ true) (sym e) (itself k)) ∙ not-true _ (Among-filter_passes (λ y. not (same (key y) k)) x xs a))))
      (λ b. b) (h x (Among-filter_was (λ y. not (same (key y) k)) x xs a)) in
      let alike : (j : K) → Among j ks → of_group rest j ≡ of_group xs j = λ j a.
      filter-filter (λ x. same (key x) j) (λ x. not (same (key x) k)) (λ x e.
      not_from_false _ (false_from_ne_true _ (λ t. d.0 (subst (λ z. Among z ks) (sym (exact (key x) j e) ∙ exact (key x) k t) a)))) xs in
      fold-split laws one (λ x. same (key x) k) xs ∙ ap (merge (total (of_group xs k))) (fold-groups ks d.1 rest inside ∙ groups_same rest xs ks alike)
