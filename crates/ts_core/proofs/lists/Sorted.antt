-- Entries in the order of their keys, by membership.
use Rattle.std.proofs.Common.{◌≡◌, true, false, cond, T, List, [], ◌∷◌, refl, sym, ◌∙◌, ap, inl, inr, ◌⊎◌, ⊎_elim, true≢false, Some, Ordering, Less, Greater, is_lt, is_eq}
use Rattle.std.specs.Ordering.{ordering_reverse}
use Rattle.std.specs.Cmp.{IsTotalOrder}
use Rattle.std.specs.FinMap.{find, is_sorted}
use Rattle.std.specs.FinMap.Entries.{below_all}
use Rattle.std.proofs.lemmas.Cmp.{tied_itself}
use Rattle.std.proofs.lemmas.Map.Lookups.{CmpEqualImpliesEq}
use Rattle.std.proofs.lemmas.Option.{none-some, same_Some}
use Rattle.ts_core.specs.lists.Members.{Among, AllDistinct}
use Rattle.ts_core.proofs.lists.Places.{both_of, less_of}
use Rattle.ts_core.proofs.facts.Ids.{equal_of}

pub not_itself : {K : Type 0} {R : K → K → Ordering} (o : IsTotalOrder R) (x : K) → R x x ≡ Less → ⊥
not_itself o x h = true≢false (sym (ap is_lt h) ∙ ap is_lt (tied_itself o x))

module _ {K X : Type 0} {R : K → K → Ordering} (o : IsTotalOrder R) where
  -- a later entry has a greater key
  pub later_greater : (x : K) (es : List (K × X)) → T (below_all R x es) → (e : K × X) → Among e es → R x e.0 ≡ Less
  later_greater x [] h e a = absurd a
  later_greater x (f ∷ es) h e a =
      ⊎_elim {C = R x e.0 ≡ Less} (λ q. ap (λ (g : K × X). R x g.0) q ∙ less_of _ (both_of _ _ h).0) (λ k. later_greater x es (both_of _ _ h).1 e k) a

  pub sorted-distinct : (es : List (K × X)) → T (is_sorted R es) → AllDistinct es
  sorted-distinct [] s = tt
  sorted-distinct (e ∷ es) s = (λ a. not_itself o e.0 (later_greater e.0 es (both_of _ _ s).0 e a), sorted-distinct es (both_of _ _ s).1)

  -- an entry of the list is found
  pub found_among : (es : List (K × X)) → T (is_sorted R es) → (e : K × X) → Among e es → find R e.0 es ≡ Some e.1
  found_among [] s e a = absurd a
  found_among (f ∷ es) s e a =
      ⊎_elim {C = cond (is_eq (R e.0 f.0)) (Some f.1) (find R e.0 es) ≡ Some e.1}
      (λ q. ap (λ b. cond b (Some f.1) (find R e.0 es)) (ap (λ (g : K × X). is_eq (R g.0 f.0)) q ∙ ap is_eq (tied_itself o f.0)) ∙ ap (λ (g : K × X). Some g.1) (sym q))
      (λ k.
      let less : R f.0 e.0 ≡ Less = later_greater f.0 es (both_of _ _ s).0 e k in
      let greater : R e.0 f.0 ≡ Greater = o.antisymm e.0 f.0 ∙ ap ordering_reverse less in
      ap (λ r. cond (is_eq r) (Some f.1) (find R e.0 es)) greater ∙ found_among es (both_of _ _ s).1 e k)
      a

module _ {K X : Type 0} {R : K → K → Ordering} (exact : CmpEqualImpliesEq R) where
  entry : (k : K) (v : X) (e : K × X) → k ≡ e.0 → v ≡ e.1 → (k, v) ≡ e
  entry k v e p q = λ i. (p i, q i)

  -- a value that is found is an entry of the list
  pub among_found : (es : List (K × X)) (k : K) (v : X) → find R k es ≡ Some v → Among (k, v) es
  among_found [] k v h = absurd (none-some v h)
  among_found (e ∷ es) k v h =
      elim (is_eq (R k e.0)) as (λ b. is_eq (R k e.0) ≡ b → cond b (Some e.1) (find R k es) ≡ Some v → ((k, v) ≡ e) ⊎ Among (k, v) es) [
        | true ↦ λ t q. inl (entry k v e (exact k e.0 (equal_of _ t)) (sym (same_Some e.1 v q)))
        | false ↦ λ t q. inr (among_found es k v q)
      ] refl h
