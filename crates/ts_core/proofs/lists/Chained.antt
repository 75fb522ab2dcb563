-- Indices chained by their hashes: one more, and a search along a chain.
use Rattle.std.proofs.Common.{◌≡◌, ℕ, ◌+◌, ◌<◌, ◌≤◌, cond, nat_eq, List, [], ◌∷◌, ◌++◌, length, get_or, Option, Some, None, sym, ◌∙◌, ap, ⊎_elim, arith}
use Rattle.std.proofs.lemmas.List.{length-map, map-append, length_push, get_or_push, get_or_append_left}
use Rattle.std.proofs.Math.Nat.{eq-or-lt_of_le}
use Rattle.ts_core.specs.declared.lists.chains.Link.{Link}
use Rattle.ts_core.specs.lists.LastBelow.{last_below, newest_of}
use Rattle.ts_core.specs.lists.Links.{hashes_of, AreChained}
use Rattle.ts_core.proofs.lists.LastBelows.{last_with-before, last_with-push}

-- a hash after the others changes nothing before it
pub newest_of-before : (hashes : List ℕ) (more hash n : ℕ) → n ≤ length hashes → newest_of (hashes ++ more ∷ []) hash n ≡ newest_of hashes hash n
newest_of-before hashes more hash n l = last_with-before 0 (λ h. nat_eq h hash) hashes more n l

-- and is found first
pub newest_of-push : (hashes : List ℕ) (more hash : ℕ) → newest_of (hashes ++ more ∷ []) hash (length hashes + 1) ≡ cond (nat_eq more hash) (Some (length hashes)) (newest_of hashes hash (length hashes))
newest_of-push hashes more hash = last_with-push 0 (λ h. nat_eq h hash) hashes more

pub chained_none : (newest : ℕ → Option ℕ) → ((q : ℕ) → newest q ≡ None) → AreChained newest []
unfolding last_below
chained_none newest none = record {
  heads = none;
  olders = λ i l d. absurd (omega arith);
}

pub chained_push : (before after : ℕ → Option ℕ) (links : List Link) (hash : ℕ) → AreChained before links → ((q : ℕ) → after q ≡ cond (nat_eq hash q) (Some (length links)) (before q))
    → AreChained after (links ++ record { hash = hash; older = before hash } ∷ [])
chained_push before after links hash s updates =
    let link : Link = record { hash = hash; older = before hash } in
    let hashes : List ℕ = hashes_of links in
    let long : length hashes ≡ length links = length-map links (λ (l : Link). l.hash) in
    let all : hashes_of (links ++ link ∷ []) ≡ hashes ++ hash ∷ [] = map-append (λ (l : Link). l.hash) links (link ∷ []) in
    let before_is : (q n : ℕ) → n ≤ length links → newest_of hashes q n ≡ newest_of (hashes_of (links ++ link ∷ [])) q n =
    λ q n l. sym (ap (λ hs. newest_of hs q n) all ∙ newest_of-before hashes hash q n (omega (arith, l, long))) in
    record {
      heads = λ q.
          updates q ∙ ap (λ o. cond (nat_eq hash q) (Some (length links)) o) (s.heads q)
          ∙ ap (λ n. cond (nat_eq hash q) (Some n) (newest_of hashes q n)) (sym long)
          ∙ sym (newest_of-push hashes hash q)
          ∙ ap (λ n. newest_of (hashes ++ hash ∷ []) q (n + 1)) long
          ∙ ap (λ n. newest_of (hashes ++ hash ∷ []) q n) (sym (length_push links link))
          ∙ ap (λ hs. newest_of hs q (length (links ++ link ∷ []))) (sym all);
      olders = λ i l d.
          ⊎_elim {C = (get_or (links ++ link ∷ []) i d).older ≡ newest_of (hashes_of (links ++ link ∷ [])) (get_or (links ++ link ∷ []) i d).hash i}
          (λ (e : i ≡ length links).
          let at : get_or (links ++ link ∷ []) i d ≡ link = get_or_push links link d i (sym e) in
          ap (λ (x : Link). x.older) at ∙ s.heads hash ∙ ap (λ n. newest_of hashes hash n) (sym e) ∙ ap (λ (x : Link). newest_of hashes x.hash i) (sym at)
          ∙ before_is (get_or (links ++ link ∷ []) i d).hash i (omega (arith, e)))
          (λ (k : i < length links).
          let at : get_or (links ++ link ∷ []) i d ≡ get_or links i d = get_or_append_left links (link ∷ []) d i k in
          ap (λ (x : Link). x.older) at ∙ s.olders i k d ∙ ap (λ (x : Link). newest_of hashes x.hash i) (sym at)
          ∙ before_is (get_or (links ++ link ∷ []) i d).hash i (omega (arith, k)))
          (let most : i ≤ length links = omega (arith, length_push links link) in eq-or-lt_of_le most);
    }
