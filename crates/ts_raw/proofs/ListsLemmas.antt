-- Replacing one list in a list of lists.
use Rattle.std.proofs.Common.{◌≡◌, ℕ, ◌<◌, List, [], ◌∷◌, ◌++◌, length, get_or, set, sym, ◌∙◌, ap, Vec}
use Rattle.std.proofs.lemmas.List.{map-set, get_or-map}
use Rattle.std.proofs.Math.Seq.{map-set_same}
use Rattle.ts_raw.specs.Lists.{lists_of}

module _ {X A : Type 0} (vs : List (Vec X A)) (i : ℕ) (old new : Vec X A) (is : old ≡ get_or vs i old) where
  pub lists_same : new.items ≡ old.items → lists_of (set vs i new) ≡ lists_of vs
  lists_same e = map-set_same (λ (v : Vec X A). v.items) vs i new old (e ∙ ap (λ (v : Vec X A). v.items) is)

  pub lists_more : (x : X) → i < length vs → new.items ≡ old.items ++ x ∷ [] → lists_of (set vs i new) ≡ set (lists_of vs) i (get_or (lists_of vs) i [] ++ x ∷ [])
  lists_more x l e =
      map-set (λ (v : Vec X A). v.items) vs i new
      ∙ ap (λ xs. set (lists_of vs) i xs)
      (e ∙ ap (λ xs. xs ++ x ∷ []) (ap (λ (v : Vec X A). v.items) is ∙ sym (get_or-map (λ (v : Vec X A). v.items) vs i old [] l)))
