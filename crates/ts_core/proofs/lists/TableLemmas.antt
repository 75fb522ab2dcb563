-- Names with their hashes: the result of a search, and one more name.
use Rattle.std.proofs.Common.{◌≡◌, ℕ, ◌<◌, List, [], ◌∷◌, ◌++◌, length, get_or, Option, Some, None, IfNone, sym, ◌∙◌, ap, subst, refl}
use Rattle.std.proofs.lemmas.List.{map-append}
use Rattle.std.proofs.lemmas.Option.{slice_get_read}
use Rattle.ts_core.specs.lists.Members.{Among}
use Rattle.ts_core.specs.lists.Numbered.{IsAt}
use Rattle.ts_core.specs.lists.Tables.{IsTable}
use Rattle.ts_core.proofs.lists.MembersLemmas.{at_map_of}
use Rattle.ts_core.proofs.lists.NumberedLemmas.{among_at, once_more}

module _ {X : Type 0} (hash_of : X → ℕ) (names : List X) (hashes : List ℕ) (table : IsTable hash_of names hashes) where
  -- a name isn't there if none was found and each with its hash was rejected, as those that have another name are
  pub sought_in_vain : {Y : Type 0} {IsRejected : ℕ → Type 0} (name : X) (hash : ℕ) (found : Option Y) → hash ≡ hash_of name
      → IfNone found ((n : ℕ) → IsAt hashes n hash → IsRejected n) → ((n : ℕ) → IsRejected n → IsAt names n name → ⊥) → IfNone found (Among name names → ⊥)
  sought_in_vain name hash (Some y) e all other = tt
  sought_in_vain name hash None e all other =
      λ a. let at = among_at names name a in
      other at.0 (all at.0 (subst (IsAt hashes at.0) (sym e) (subst (λ hs. IsAt hs at.0 (hash_of name)) (sym table.hashed) (at_map_of hash_of names at.0 name at.1)))) at.1

pub found_at : {X : Type 0} (names : List X) (n : ℕ) (found name : X) → n < length names → found ≡ get_or names n found → found ≡ name → IsAt names n name
found_at names n found name l at e = subst (λ x. IsAt names n x) e (slice_get_read names (length names) n found refl l at)

pub table_more : {X : Type 0} (hash_of : X → ℕ) (names : List X) (hashes : List ℕ) (name : X) → IsTable hash_of names hashes → (Among name names → ⊥)
    → IsTable hash_of (names ++ name ∷ []) (hashes ++ hash_of name ∷ [])
table_more hash_of names hashes name table absent = record {
  once = once_more names name table.once absent;
  hashed = ap (λ hs. hs ++ hash_of name ∷ []) table.hashed ∙ sym (map-append hash_of names (name ∷ []));
}
