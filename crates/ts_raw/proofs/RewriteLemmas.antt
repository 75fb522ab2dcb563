-- Encoding a block anew, with a point inserted or replaced.
use Rattle.std.proofs.Common.{◌≡◌, ℕ, zero, suc, ◌+◌, ◌<◌, ◌≤◌, ℤ, ◌<ℤ◌, ◌≤ℤ◌, int_cmp, T, Less, Equal, Greater, List, [], ◌∷◌, ◌++◌, length, take, drop, get_or, set, insert, append_assoc, append-nil, length-append, refl, sym, ◌∙◌, ap, arith}
use Rattle.std.proofs.lemmas.Int.{ints}
use Rattle.std.proofs.lemmas.List.{take-append-drop, length-take-le}
use Rattle.std.specs.List.{AllByRecursion}
use Rattle.std.specs.FinMap.{put}
use Rattle.std.specs.FinMap.Entries.{below_all, by_order}
use Rattle.ts_core.proofs.lists.Places.{both_of}
use Rattle.ts_block.specs.Blocks.{times_of, AreLater, ArePoints, last_of}
use Rattle.ts_block.specs.Appending.{last_time}
use Rattle.ts_block.proofs.SplicingLemmas.{put_after}
use Rattle.ts_raw.specs.declared.block_handle.BlockHandle.{BlockHandle}
use Rattle.ts_raw.specs.Columns.{AreTimed}
use Rattle.ts_raw.specs.PlainColumns.{IsRising}
use Rattle.ts_raw.specs.CodedPoints.{block_points_at, coded_points, AreBlocks, count_in_blocks}
use Rattle.ts_raw.specs.declared.rewriting.Rewritten.{Rewritten}
use Rattle.ts_raw.specs.Rewriting.{handles_replaced, blocks_of}
use Rattle.ts_raw.proofs.PushLemmas.{and_T}
use Rattle.ts_raw.proofs.BlockLists.{take_next}

-- ---- points that make a block

timed_later : (u : ℤ) (ps : List (ℤ × ℤ)) → AreLater u (times_of ps) → AreTimed ps
timed_later u [] h = tt
timed_later u (p ∷ ps) h = (h.1, timed_later p.0 ps h.2)

pub timed_of : (ps : List (ℤ × ℤ)) → ArePoints ps → AreTimed ps
timed_of [] h = absurd h
timed_of (p ∷ ps) h = (h.1, timed_later p.0 ps h.2)

pub length_put : (t v : ℤ) (ps : List (ℤ × ℤ)) → (length (put int_cmp t v ps) ≤ length ps + 1) × (0 < length (put int_cmp t v ps)) × (length ps ≤ length (put int_cmp t v ps))
length_put t v [] = (omega arith, omega arith, omega arith)
length_put t v (x ∷ ps) =
    elim (int_cmp t x.0) as (λ r. (length (by_order r ((t, v) ∷ x ∷ ps) ((x.0, v) ∷ ps) (x ∷ put int_cmp t v ps)) ≤ suc (length ps) + 1) × (0 < length (by_order r ((t, v) ∷ x ∷ ps) ((x.0, v) ∷ ps) (x ∷ put int_cmp t v ps))) × (suc (length ps) ≤ length (by_order r ((t, v) ∷ x ∷ ps) ((x.0, v) ∷ ps) (x ∷ put int_cmp t v ps)))) [
      | Less ↦ (omega arith, omega arith, omega arith)
      | Equal ↦ (omega arith, omega arith, omega arith)
      | Greater ↦ let a = length_put t v ps in (let b = a.0 in omega arith, omega arith, let d = a.2 in omega arith)
    ]

-- ---- a point is put among the points of its block alone

put_before : (t v : ℤ) (u : ℤ) (ps : List (ℤ × ℤ)) (ys : List (ℤ × ℤ)) → t ≤ℤ last_of u (times_of ps) → (w : ℤ) → put int_cmp t v ((u, w) ∷ (ps ++ ys)) ≡ put int_cmp t v ((u, w) ∷ ps) ++ ys
put_before t v u [] ys h w =
    elim (int_cmp t u) as (λ r. int_cmp t u ≡ r → by_order r ((t, v) ∷ (u, w) ∷ ys) ((u, v) ∷ ys) ((u, w) ∷ put int_cmp t v ys) ≡ by_order r ((t, v) ∷ (u, w) ∷ []) ((u, v) ∷ []) ((u, w) ∷ put int_cmp t v []) ++ ys) [
      | Less ↦ λ e. refl
      | Equal ↦ λ e. refl
      | Greater ↦ λ e. absurd (grind (arith, ints, h, e))
    ] refl
put_before t v u (p ∷ ps) ys h w =
    elim (int_cmp t u) as (λ r. by_order r ((t, v) ∷ (u, w) ∷ p ∷ (ps ++ ys)) ((u, v) ∷ p ∷ (ps ++ ys)) ((u, w) ∷ put int_cmp t v (p ∷ (ps ++ ys))) ≡ by_order r ((t, v) ∷ (u, w) ∷ p ∷ ps) ((u, v) ∷ p ∷ ps) ((u, w) ∷ put int_cmp t v (p ∷ ps)) ++ ys) [
      | Less ↦ refl
      | Equal ↦ refl
      | Greater ↦ ap (λ (z : List (ℤ × ℤ)). (u, w) ∷ z) (put_before t v p.0 ps ys h p.1)
    ]

-- the last time of points, of which the first ones may be left out
last_dropped : (k : ℕ) (p : ℤ × ℤ) (ps : List (ℤ × ℤ)) → k < length (p ∷ ps) → last_time (drop k (p ∷ ps)) ≡ last_time (p ∷ ps)
last_dropped zero p ps l = refl
last_dropped (suc k) p [] l = absurd (omega arith)
last_dropped (suc k) p (q ∷ ps) l = last_dropped k q ps (omega arith)

pub put_first : (t v : ℤ) (ps ys : List (ℤ × ℤ)) → 0 < length ps → t ≤ℤ last_time ps → put int_cmp t v (ps ++ ys) ≡ put int_cmp t v ps ++ ys
put_first t v [] ys some h = absurd (omega arith)
put_first t v (p ∷ ps) ys some h = put_before t v p.0 ps ys h p.1

-- among three lists of points, of which the first are before it and the second reach it
pub put_within : (t v : ℤ) (xs ps ys : List (ℤ × ℤ)) → AllByRecursion (λ (q : ℤ × ℤ). q.0 <ℤ t) xs → 0 < length ps → t ≤ℤ last_time ps → put int_cmp t v (xs ++ (ps ++ ys)) ≡ xs ++ (put int_cmp t v ps ++ ys)
put_within t v xs ps ys less some reach = put_after t v xs (ps ++ ys) less ∙ ap (λ (z : List (ℤ × ℤ)). xs ++ z) (put_first t v ps ys some reach)

pub last_after_drop : (k : ℕ) (ps : List (ℤ × ℤ)) → k < length ps → last_time (drop k ps) ≡ last_time ps
last_after_drop k [] l = absurd (omega arith)
last_after_drop k (p ∷ ps) l = last_dropped k p ps l

-- ---- blocks

pub counts_are : (bytes : List ℕ) (ms : List BlockHandle) → AreBlocks bytes ms → count_in_blocks ms ≡ length (coded_points bytes ms)
unfolding coded_points
counts_are bytes [] h = refl
counts_are bytes (m ∷ ms) h = let a = h.0.count_is in let b = counts_are bytes ms h.1 in let c = length-append (block_points_at bytes m) (coded_points bytes ms) in omega arith

pub insert_seam : (xs ys : List BlockHandle) (z : BlockHandle) → insert (xs ++ ys) (length xs) z ≡ xs ++ z ∷ ys
insert_seam [] ys z = insert_first ys z
  where
    insert_first : (ys : List BlockHandle) (z : BlockHandle) → insert ys 0 z ≡ z ∷ ys
    insert_first [] z = refl
    insert_first (y ∷ ys) z = refl
insert_seam (x ∷ xs) ys z = ap (λ (q : List BlockHandle). x ∷ q) (insert_seam xs ys z)

pub count_join : (xs ys : List BlockHandle) → count_in_blocks (xs ++ ys) ≡ count_in_blocks xs + count_in_blocks ys
count_join [] ys = let n : count_in_blocks ys ≡ 0 + count_in_blocks ys = omega arith in n
count_join (m ∷ xs) ys = let a = count_join xs ys in omega arith

pub coded_join : (bytes : List ℕ) (xs ys : List BlockHandle) → coded_points bytes (xs ++ ys) ≡ coded_points bytes xs ++ coded_points bytes ys
unfolding coded_points
coded_join bytes [] ys = refl
coded_join bytes (m ∷ xs) ys = ap (λ (z : List (ℤ × ℤ)). block_points_at bytes m ++ z) (coded_join bytes xs ys) ∙ sym (append_assoc (block_points_at bytes m) (coded_points bytes xs) (coded_points bytes ys))

pub coded_one : (bytes : List ℕ) (m : BlockHandle) → coded_points bytes (m ∷ []) ≡ block_points_at bytes m
unfolding coded_points
coded_one bytes m = append-nil (block_points_at bytes m)

-- ---- points that are encoded

pub rising_first : (k : ℕ) (ps : List (ℤ × ℤ)) → IsRising ps → IsRising (take k ps)
rising_first zero ps s = tt
rising_first (suc k) [] s = tt
rising_first (suc k) (p ∷ ps) s = let b = both_of _ _ s in and_T _ _ (below_first k p.0 ps b.0) (rising_first k ps b.1)
  where
    below_first : (k : ℕ) (t : ℤ) (ps : List (ℤ × ℤ)) → T (below_all int_cmp t ps) → T (below_all int_cmp t (take k ps))
    below_first zero t ps h = tt
    below_first (suc k) t [] h = tt
    below_first (suc k) t (p ∷ ps) h = let b = both_of _ _ h in and_T _ _ b.0 (below_first k t ps b.1)

pub set_replaced : (ms : List BlockHandle) (at : ℕ) (x : BlockHandle) → at < length ms → set ms at x ≡ take at ms ++ (x ∷ drop (at + 1) ms)
set_replaced [] at x l = absurd (omega arith)
set_replaced (m ∷ ms) zero x l = refl
set_replaced (m ∷ ms) (suc at) x l = ap (λ (z : List BlockHandle). m ∷ z) (set_replaced ms at x (omega arith)) ∙ ap (λ k. m ∷ (take at ms ++ (x ∷ drop k (m ∷ ms)))) (let n : suc (at + 1) ≡ suc at + 1 = omega arith in n)

pub insert_replaced : (ms : List BlockHandle) (at : ℕ) (x y : BlockHandle) → at < length ms → insert (set ms at x) (at + 1) y ≡ take at ms ++ (x ∷ y ∷ drop (at + 1) ms)
insert_replaced ms at x y l =
    let front : List BlockHandle = take at ms ++ (x ∷ []) in
    let size : length front ≡ at + 1 = length-append (take at ms) (x ∷ []) ∙ ap (λ k. k + 1) (length-take-le at ms (omega arith)) in
    let split : set ms at x ≡ front ++ drop (at + 1) ms = set_replaced ms at x l ∙ sym (append_assoc (take at ms) (x ∷ []) (drop (at + 1) ms)) in
    (λ i. insert (split i) (sym size i) y) ∙ insert_seam front (drop (at + 1) ms) y ∙ append_assoc (take at ms) (x ∷ []) (y ∷ drop (at + 1) ms)

-- ---- numbers of points

-- the blocks before an index, the one there, and those after it
pub count_split : (ms : List BlockHandle) (at : ℕ) (d : BlockHandle) → at < length ms → count_in_blocks ms ≡ count_in_blocks (take at ms) + ((get_or ms at d).count + count_in_blocks (drop (at + 1) ms))
count_split [] at d l = absurd (omega arith)
count_split (m ∷ ms) zero d l = let n : count_in_blocks (m ∷ ms) ≡ 0 + (m.count + count_in_blocks ms) = omega arith in n
count_split (m ∷ ms) (suc at) d l =
    let a = count_split ms at d (omega arith) in
    let n : drop (suc at + 1) (m ∷ ms) ≡ drop (at + 1) ms = ap (λ k. drop k (m ∷ ms)) (let k : suc at + 1 ≡ suc (at + 1) = omega arith in k) in
    let b = ap count_in_blocks n in
    omega arith

pub count_replaced : (r : Rewritten) (ms : List BlockHandle) (d : BlockHandle) → r.at < length ms → count_in_blocks (handles_replaced r ms) + (get_or ms r.at d).count ≡ count_in_blocks ms + count_in_blocks (blocks_of r)
count_replaced r ms d l =
    let a = count_split ms r.at d l in
    let b = count_join (take r.at ms) (blocks_of r ++ drop (r.at + 1) ms) in
    let c = count_join (blocks_of r) (drop (r.at + 1) ms) in
    omega arith

pub count_new_few : (r : Rewritten) (ms : List BlockHandle) → count_in_blocks (blocks_of r) ≤ count_in_blocks (handles_replaced r ms)
count_new_few r ms =
    let b = count_join (take r.at ms) (blocks_of r ++ drop (r.at + 1) ms) in
    let c = count_join (blocks_of r) (drop (r.at + 1) ms) in
    omega arith

pub count_front : (ms : List BlockHandle) (at : ℕ) → count_in_blocks (take at ms) + count_in_blocks (drop at ms) ≡ count_in_blocks ms
count_front ms at = sym (count_join (take at ms) (drop at ms)) ∙ ap count_in_blocks (take-append-drop at ms)

pub count_next : (ms : List BlockHandle) (i : ℕ) (d : BlockHandle) → i < length ms → count_in_blocks (take (i + 1) ms) ≡ count_in_blocks (take i ms) + (get_or ms i d).count
count_next ms i d l = let a = ap count_in_blocks (take_next ms i d l) in let b = count_join (take i ms) (get_or ms i d ∷ []) in omega arith
