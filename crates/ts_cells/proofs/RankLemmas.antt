-- Positions of rollup series in their order, after one more was inserted.
use Rattle.std.proofs.Common.{◌≡◌, ℕ, ◌<◌, ◌≤◌, ◌+◌, ◌-◌, List, length, get_or, insert, sym, ◌∙◌, ap, ⊎_elim, arith, Option, None}
use Rattle.std.proofs.lemmas.List.Edits.{length-insert, get_or-insert_at, get_or-insert_below, get_or-insert_above}
use Rattle.std.proofs.lemmas.Bool.{cases_lt}
use Rattle.ts_cells.specs.Grids.{held}
use Rattle.ts_cells.specs.RollupSeriesTable.{shifted, IsRanked}

pub shifted_below : (at r : ℕ) → r < at → shifted at r ≡ r
shifted_below at r h = grind arith

pub shifted_from : (at r : ℕ) → at ≤ r → shifted at r ≡ r + 1
shifted_from at r h = grind arith

module _ (n at : ℕ) (order ranks after : List ℕ) (is : IsRanked n order ranks) (h : at ≤ n) (len : length after ≡ n + 1) (put : (j : ℕ) → j < n → get_or after j 0 ≡ shifted at (get_or ranks j 0)) (new : get_or after n 0 ≡ at) where
  bound : at ≤ length order
  bound = let l = is.long in omega arith

  -- the order below and above the new one
  below : (p : ℕ) → p < at → get_or (insert order at n) p 0 ≡ get_or order p 0
  below p l = get_or-insert_below order at n 0 p l bound

  above : (p : ℕ) → at < p → get_or (insert order at n) p 0 ≡ get_or order (p - 1) 0
  above p l = ap (λ q. get_or (insert order at n) q 0) (let e : p ≡ p - 1 + 1 = omega arith in e) ∙ get_or-insert_above order at n 0 (p - 1) (omega arith) bound

  here : (p : ℕ) → p ≡ at → get_or (insert order at n) p 0 ≡ n
  here p e = ap (λ q. get_or (insert order at n) q 0) e ∙ get_or-insert_at order at n 0 bound

  -- the position of another
  rank_of : (q : ℕ) → q < n → get_or after (get_or order q 0) 0 ≡ shifted at q
  rank_of q l = put (get_or order q 0) (is.inside q l) ∙ ap (shifted at) (is.there q l)

  more_inside : (p : ℕ) → p < n + 1 → get_or (insert order at n) p 0 < n + 1
  more_inside p l =
      ⊎_elim {C = get_or (insert order at n) p 0 < n + 1}
      (λ (a : p < at). let e = below p a in let i = is.inside p (omega arith) in omega arith)
      (λ (a : at ≤ p). ⊎_elim {C = get_or (insert order at n) p 0 < n + 1}
      (λ (b : at < p). let e = above p b in let i = is.inside (p - 1) (omega arith) in omega arith)
      (λ (b : p ≤ at). let e = here p (omega arith) in omega arith)
      (cases_lt at p))
      (cases_lt p at)

  more_there : (p : ℕ) → p < n + 1 → get_or after (get_or (insert order at n) p 0) 0 ≡ p
  more_there p l =
      ⊎_elim {C = get_or after (get_or (insert order at n) p 0) 0 ≡ p}
      (λ (a : p < at). ap (λ s. get_or after s 0) (below p a) ∙ rank_of p (omega arith) ∙ shifted_below at p a)
      (λ (a : at ≤ p). ⊎_elim {C = get_or after (get_or (insert order at n) p 0) 0 ≡ p}
      (λ (b : at < p). ap (λ s. get_or after s 0) (above p b) ∙ rank_of (p - 1) (omega arith) ∙ shifted_from at (p - 1) (omega arith) ∙ (let e : p - 1 + 1 ≡ p = omega arith in e))
      (λ (b : p ≤ at). let s : p ≡ at = omega arith in ap (λ q. get_or after q 0) (here p s) ∙ new ∙ sym s)
      (cases_lt at p))
      (cases_lt p at)

  more_low : (j : ℕ) → j < n + 1 → get_or after j 0 < n + 1
  more_low j l =
      ⊎_elim {C = get_or after j 0 < n + 1}
      (λ (a : j < n).
      let r : ℕ = get_or ranks j 0 in
      let e : get_or after j 0 ≡ shifted at r = put j a in
      let w : r < n = is.low j a in
      ⊎_elim {C = get_or after j 0 < n + 1} (λ (b : r < at). let f = shifted_below at r b in omega arith) (λ (b : at ≤ r). let f = shifted_from at r b in omega arith) (cases_lt r at))
      (λ (a : n ≤ j). let e : get_or after j 0 ≡ at = ap (λ q. get_or after q 0) (let s : j ≡ n = omega arith in s) ∙ new in omega arith)
      (cases_lt j n)

  pub ranked_more : IsRanked (n + 1) (insert order at n) after
  ranked_more = record {
    long = length-insert order at n bound ∙ ap (λ m. m + 1) is.long;
    as_many = len;
    inside = more_inside;
    there = more_there;
    low = more_low;
  }

-- rollup series without cells, by their positions
pub rank_skipped : {P : Type 0} (order ranks : List ℕ) (cs : List (Option P)) (from to : ℕ) → IsRanked (length order) order ranks → to ≤ length order
    → ((j : ℕ) → j < length ranks → from ≤ get_or ranks j 0 → get_or ranks j 0 < to → held cs j ≡ None) → (p : ℕ) → from ≤ p → p < to → held cs (get_or order p 0) ≡ None
rank_skipped order ranks cs from to is h f p a b =
    let i = is.inside p (omega arith) in
    let t = is.there p (omega arith) in
    let m = is.as_many in
    f (get_or order p 0) (omega arith) (omega arith) (omega arith)
