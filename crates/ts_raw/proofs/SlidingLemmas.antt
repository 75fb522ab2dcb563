-- Blocks that slide down in the bytes, in the order of their bytes.
use Rattle.std.proofs.Common.{◌≡◌, ℕ, zero, suc, ◌+◌, ◌-◌, ◌<◌, ◌≤◌, ◌⊎◌, ℤ, List, [], ◌∷◌, ◌++◌, length, take, drop, set, get_or, Option, Some, None, inl, inr, ⊎_elim, length-drop, append_assoc, refl, sym, ◌∙◌, ap, subst, arith}
use Rattle.std.proofs.lemmas.Bool.{cases_lt}
use Rattle.std.proofs.lemmas.List.{length-take-le, drop-drop}
use Rattle.std.proofs.lemmas.List.Edits.{drop-paste, length-paste}
use Rattle.std.proofs.Math.Seq.{drop-append_seam, take-append_seam, take-length}
use Rattle.std.specs.List.{AllByRecursion, copy_within}
use Rattle.ts_raw.specs.declared.block_handle.BlockHandle.{BlockHandle}
use Rattle.ts_raw.specs.CodedPoints.{block_text_at, block_points_at, blocks_at, IsBlockHandle, AreBlocks, AllEndBy, LieApart, AreApart}
use Rattle.ts_raw.specs.BlockColumns.{size_of_blocks}
use Rattle.ts_raw.specs.Sliding.{bytes_in_blocks, IsNextBlock, NoneStartBetween, AllStartBefore}
use Rattle.ts_raw.proofs.PushLemmas.{mark_moved, blocks_before}
use Rattle.ts_raw.proofs.BlockLists.{mark_at, take_next, text_size}

-- all blocks but the one at an index
abbrev AllBut : (BlockHandle → Type 0) → ℕ → List BlockHandle → Type 0
AllBut P at [] = Unit {0}
AllBut P zero (m ∷ ms) = AllByRecursion P ms
AllBut P (suc at) (m ∷ ms) = P m × AllBut P at ms

-- n bytes are those of blocks that end by an offset
abbrev pub AreMoved : ℕ → List BlockHandle → ℕ → Type 0
AreMoved to [] n = n ≡ 0
AreMoved to (m ∷ ms) n = (k : ℕ) × AreMoved to ms k × (((m.end ≤ to) × (n ≡ (m.end - m.start) + k)) ⊎ (n ≡ k))

turned : (m n : BlockHandle) → LieApart m n → LieApart n m
turned m n h = ⊎_elim {C = LieApart n m} (λ l. inr l) (λ l. inl l) h

-- ---- the blocks beside one

apart_there : (k d : BlockHandle) (ms : List BlockHandle) (at : ℕ) → at < length ms → AllByRecursion (LieApart k) ms → LieApart k (get_or ms at d)
apart_there k d [] at l h = absurd (omega arith)
apart_there k d (n ∷ ms) zero l h = h.0
apart_there k d (n ∷ ms) (suc at) l h = apart_there k d ms at (omega arith) h.1

apart_beside : (d : BlockHandle) (ms : List BlockHandle) (at : ℕ) → at < length ms → AreApart ms → AllBut (LieApart (get_or ms at d)) at ms
apart_beside d [] at l h = tt
apart_beside d (n ∷ ms) zero l h = h.0
apart_beside d (n ∷ ms) (suc at) l h = (turned n (get_or ms at d) (apart_there n d ms at (omega arith) h.0), apart_beside d ms at (omega arith) h.1)

-- a block ends by an offset or starts from another one on
abbrev pub Parted : ℕ → ℕ → BlockHandle → Type 0
Parted to from k = (k.end ≤ to) ⊎ (from ≤ k.start)

-- a block beside the next one, m, is moved or starts after it
module _ (m : BlockHandle) (to from : ℕ) (low : from ≤ m.start) where
  later : (k : BlockHandle) → k.start < k.end → Parted to from k → (k.start < from) ⊎ (m.start ≤ k.start) → LieApart m k → Parted to m.end k
  later k some p n a =
      ⊎_elim {C = Parted to m.end k} (λ l. inl l)
      (λ (f : from ≤ k.start). ⊎_elim {C = Parted to m.end k} (λ (l : k.start < from). absurd (omega arith))
      (λ (g : m.start ≤ k.start). ⊎_elim {C = Parted to m.end k} (λ (x : m.end ≤ k.start). inr x) (λ (x : k.end ≤ m.start). absurd (omega arith)) a) n) p

  all_later : (bytes : List ℕ) (ms : List BlockHandle) → AreBlocks bytes ms → AllByRecursion (Parted to from) ms → NoneStartBetween from m.start ms → AllByRecursion (LieApart m) ms → AllByRecursion (Parted to m.end) ms
  all_later bytes [] b p n a = tt
  all_later bytes (k ∷ ms) b p n a = (later k b.0.some p.0 n.0 a.0, all_later bytes ms b.1 p.1 n.1 a.1)

  others_later : (bytes : List ℕ) (ms : List BlockHandle) (at : ℕ) → AreBlocks bytes ms → AllByRecursion (Parted to from) ms → NoneStartBetween from m.start ms → AllBut (LieApart m) at ms → AllBut (Parted to m.end) at ms
  others_later bytes [] at b p n a = tt
  others_later bytes (k ∷ ms) zero b p n a = all_later bytes ms b.1 p.1 n.1 a
  others_later bytes (k ∷ ms) (suc at) b p n a = (later k b.0.some p.0 n.0 a.0, others_later bytes ms at b.1 p.1 n.1 a.1)

-- ---- the bytes of a block move

-- the block m of these bytes moves down to an offset
module _ (bytes new : List ℕ) (m n : BlockHandle) (to : ℕ) (h : IsBlockHandle bytes m) (low : to ≤ m.start) (is : new ≡ copy_within bytes m.start m.end to)
    (start : n.start ≡ to) (end : n.end ≡ to + (m.end - m.start)) (values : n.values ≡ m.values) (count : n.count ≡ m.count) (last : n.last ≡ m.last) (spacing : n.spacing ≡ m.spacing) (summary : n.summary ≡ m.summary) where
  abbrev size : ℕ
  size = m.end - m.start

  rest_size : size ≤ length (drop m.start bytes)
  rest_size = let w = h.within in let l = length-drop m.start bytes in omega arith

  low_size : to ≤ length bytes
  low_size = let w = h.within in let s = h.some in omega arith

  fits : to + size ≤ length bytes
  fits = let w = h.within in let s = h.some in omega arith

  pub same_length : length new ≡ length bytes
  same_length = ap length is ∙ length-paste bytes to (drop m.start bytes) size fits rest_size

  text_moved : block_text_at new n ≡ block_text_at bytes m
  text_moved =
      let front : List ℕ = take to bytes in
      let text : List ℕ = take size (drop m.start bytes) in
      let back : List ℕ = drop (to + size) bytes in
      let front_size : length front ≡ to = length-take-le to bytes low_size in
      let text_size : length text ≡ size = length-take-le size (drop m.start bytes) rest_size in
      let all : new ≡ front ++ (text ++ back) = is ∙ append_assoc front text back in
      let width : n.end - n.start ≡ length text = omega arith in
      let at : n.start ≡ length front = omega arith in
      (λ i. take (width i) (drop (at i) (all i))) ∙ ap (take (length text)) (drop-append_seam front (text ++ back)) ∙ take-append_seam text back

  moved : IsBlockHandle new n × (block_points_at new n ≡ block_points_at bytes m)
  moved = let s = h.some in let l = same_length in let f = fits in mark_moved bytes new m n h text_moved (omega arith) (omega arith) values count last spacing summary

  before : take to new ≡ take to bytes
  before = front_same new (take to bytes) (take size (drop m.start bytes)) (drop (to + size) bytes) (length-take-le to bytes low_size) is
    where
      front_same : (new xs ys zs : List ℕ) → length xs ≡ to → new ≡ (xs ++ ys) ++ zs → take to new ≡ xs
      front_same new xs ys zs l e = (λ i. take (sym l i) ((e ∙ append_assoc xs ys zs) i)) ∙ take-append_seam xs (ys ++ zs)

  behind : (k : ℕ) → m.end ≤ k → drop k new ≡ drop k bytes
  behind k l =
      let on : (to + size) + (k - (to + size)) ≡ k = let s = h.some in omega arith in
      let here : drop (to + size) new ≡ drop (to + size) bytes = ap (drop (to + size)) is ∙ drop-paste bytes to (drop m.start bytes) size low_size rest_size in
      ap (λ j. drop j new) (sym on) ∙ sym (drop-drop (k - (to + size)) (to + size) new) ∙ ap (drop (k - (to + size))) here ∙ drop-drop (k - (to + size)) (to + size) bytes ∙ ap (λ j. drop j bytes) on

  stays_there : (k : BlockHandle) → IsBlockHandle bytes k → Parted to m.end k → IsBlockHandle new k × (block_points_at new k ≡ block_points_at bytes k)
  stays_there k b p =
      ⊎_elim {C = IsBlockHandle new k × (block_points_at new k ≡ block_points_at bytes k)}
      (λ (l : k.end ≤ to). let both = blocks_before bytes new to (k ∷ []) low_size before (l, tt) (b, tt) in (both.0.0, ap (first (block_points_at bytes k)) both.1))
      (λ (l : m.end ≤ k.start). mark_moved bytes new k k b (ap (take (k.end - k.start)) (behind k.start l)) b.some (let w = b.within in let e = same_length in omega arith) refl refl refl refl refl) p
    where
      first : List (ℤ × ℤ) → List (List (ℤ × ℤ)) → List (ℤ × ℤ)
      first d [] = d
      first d (x ∷ xs) = x

  all_stay : (ms : List BlockHandle) → AreBlocks bytes ms → AllByRecursion (Parted to m.end) ms → AreBlocks new ms × (blocks_at new ms ≡ blocks_at bytes ms)
  all_stay [] b p = (tt, refl)
  all_stay (k ∷ ms) b p = let one = stays_there k b.0 p.0 in let rest = all_stay ms b.1 p.1 in ((one.0, rest.0), λ i. one.1 i ∷ rest.1 i)

  all_moved : (d : BlockHandle) (ms : List BlockHandle) (at : ℕ) → at < length ms → get_or ms at d ≡ m → AreBlocks bytes ms → AllBut (Parted to m.end) at ms → AreBlocks new (set ms at n) × (blocks_at new (set ms at n) ≡ blocks_at bytes ms)
  all_moved d [] at l e b p = absurd (omega arith)
  all_moved d (k ∷ ms) zero l e b p = let rest = all_stay ms b.1 p in ((moved.0, rest.0), λ i. (moved.1 ∙ ap (block_points_at bytes) (sym e)) i ∷ rest.1 i)
  all_moved d (k ∷ ms) (suc at) l e b p = let one = stays_there k b.0 p.0 in let rest = all_moved d ms at (omega arith) e b.1 p.1 in ((one.0, rest.0), λ i. one.1 i ∷ rest.1 i)

  -- ---- the offsets afterwards

  apart_again : (k : BlockHandle) → Parted to m.end k → LieApart n k
  apart_again k p = ⊎_elim {C = LieApart n k} (λ (l : k.end ≤ to). inr (omega arith)) (λ (l : m.end ≤ k.start). inl (let s = h.some in omega arith)) p

  all_apart : (ms : List BlockHandle) → AllByRecursion (Parted to m.end) ms → AllByRecursion (LieApart n) ms
  all_apart [] p = tt
  all_apart (k ∷ ms) p = (apart_again k p.0, all_apart ms p.1)

  one_apart : (k : BlockHandle) (ms : List BlockHandle) (at : ℕ) → LieApart k n → AllByRecursion (LieApart k) ms → AllByRecursion (LieApart k) (set ms at n)
  one_apart k [] at a h = tt
  one_apart k (j ∷ ms) zero a h = (a, h.1)
  one_apart k (j ∷ ms) (suc at) a h = (h.0, one_apart k ms at a h.1)

  set_apart : (ms : List BlockHandle) (at : ℕ) → AreApart ms → AllBut (Parted to m.end) at ms → AreApart (set ms at n)
  set_apart [] at a p = tt
  set_apart (k ∷ ms) zero a p = (all_apart ms p, a.1)
  set_apart (k ∷ ms) (suc at) a p = (one_apart k ms at (turned n k (apart_again k p.0)) a.0, set_apart ms at a.1 p.1)

  parted_on : (k : BlockHandle) → Parted to m.end k → Parted (to + size) m.end k
  parted_on k p = ⊎_elim {C = Parted (to + size) m.end k} (λ (l : k.end ≤ to). inl (omega arith)) (λ l. inr l) p

  all_parted_on : (ms : List BlockHandle) → AllByRecursion (Parted to m.end) ms → AllByRecursion (Parted (to + size) m.end) ms
  all_parted_on [] p = tt
  all_parted_on (k ∷ ms) p = (parted_on k p.0, all_parted_on ms p.1)

  set_parted : (ms : List BlockHandle) (at : ℕ) → AllBut (Parted to m.end) at ms → AllByRecursion (Parted (to + size) m.end) (set ms at n)
  set_parted [] at p = tt
  set_parted (k ∷ ms) zero p = (inl (omega arith), all_parted_on ms p)
  set_parted (k ∷ ms) (suc at) p = (parted_on k p.0, set_parted ms at p.1)

  more_moved : (ms : List BlockHandle) (k : ℕ) → AreMoved to ms k → AreMoved (to + size) ms k
  more_moved [] k a = a
  more_moved (j ∷ ms) k a = (a.0, more_moved ms a.0 a.1, ⊎_elim {C = ((j.end ≤ to + size) × (k ≡ (j.end - j.start) + a.0)) ⊎ (k ≡ a.0)} (λ (x : (j.end ≤ to) × (k ≡ (j.end - j.start) + a.0)). inl (let l = x.0 in omega arith, x.1)) (λ x. inr x) a.2)

  set_moved : (d : BlockHandle) (ms : List BlockHandle) (at k : ℕ) → at < length ms → get_or ms at d ≡ m → AreMoved to ms k → AreMoved (to + size) (set ms at n) (k + size)
  set_moved d [] at k l e a = absurd (omega arith)
  set_moved d (j ∷ ms) zero k l e a =
      let same : k ≡ a.0 = ⊎_elim {C = k ≡ a.0} (λ (x : (j.end ≤ to) × (k ≡ (j.end - j.start) + a.0)). absurd (let y = x.0 in let z = ap (λ (x : BlockHandle). x.end) e in let s = h.some in omega arith)) (λ x. x) a.2 in
      (a.0, more_moved ms a.0 a.1, inl (omega arith, omega arith))
  set_moved d (j ∷ ms) (suc at) k l e a = (
    a.0 + size,
    set_moved d ms at a.0 (omega arith) e a.1,
    ⊎_elim {C = ((j.end ≤ to + size) × (k + size ≡ (j.end - j.start) + (a.0 + size))) ⊎ (k + size ≡ a.0 + size)}
        (λ (x : (j.end ≤ to) × (k ≡ (j.end - j.start) + a.0)). inl (let y = x.0 in omega arith, let z = x.1 in omega arith)) (λ (x : k ≡ a.0). inr (ap (λ j. j + size) x)) a.2,
  )

-- ---- the search for the next block

-- among the first i blocks, the index and the start of the one with the least start from an offset on
abbrev pub IsLeast : ℕ → List BlockHandle → ℕ → Option (ℕ × ℕ) → Type 0
IsLeast from ms i None = (k : ℕ) (d : BlockHandle) → k < i → (get_or ms k d).start < from
IsLeast from ms i (Some x) = (x.0 < length ms) × (from ≤ x.1) × ((d : BlockHandle) → (get_or ms x.0 d).start ≡ x.1) × ((k : ℕ) (d : BlockHandle) → k < i → ((get_or ms k d).start < from) ⊎ (x.1 ≤ (get_or ms k d).start))

get_same : (ms : List BlockHandle) (i : ℕ) (d e : BlockHandle) → i < length ms → get_or ms i d ≡ get_or ms i e
get_same [] i d e l = absurd (omega arith)
get_same (m ∷ ms) zero d e l = refl
get_same (m ∷ ms) (suc i) d e l = get_same ms i d e (omega arith)

-- one of the first i + 1 is one of the first i, or the next one
up_to : (P : ℕ → Type 0) (i k : ℕ) → k < i + 1 → (k < i → P k) → P i → P k
up_to P i k l f p = ⊎_elim {C = P k} (λ (h : k < i). f h) (λ (h : i ≤ k). subst P (let e : i ≡ k = omega arith in e) p) (cases_lt k i)

module _ (from : ℕ) (ms : List BlockHandle) (i : ℕ) (m : BlockHandle) (within : i < length ms) (there : m ≡ get_or ms i m) where
  here : (d : BlockHandle) → (get_or ms i d).start ≡ m.start
  here d = ap (λ (x : BlockHandle). x.start) (get_same ms i d m within ∙ sym there)

  pub least_before : (next : Option (ℕ × ℕ)) → m.start < from → IsLeast from ms i next → IsLeast from ms (i + 1) next
  least_before None l h = λ k d u. up_to (λ j. (get_or ms j d).start < from) i k u (h k d) (let e = here d in omega arith)
  least_before (Some x) l h = (h.0, h.1, h.2, λ k d u. up_to (λ j. ((get_or ms j d).start < from) ⊎ (x.1 ≤ (get_or ms j d).start)) i k u (h.3 k d) (inl (let e = here d in omega arith)))

  pub least_stays : (x : ℕ × ℕ) → x.1 ≤ m.start → IsLeast from ms i (Some x) → IsLeast from ms (i + 1) (Some x)
  least_stays x l h = (h.0, h.1, h.2, λ k d u. up_to (λ j. ((get_or ms j d).start < from) ⊎ (x.1 ≤ (get_or ms j d).start)) i k u (h.3 k d) (inr (let e = here d in omega arith)))

  pub least_first : from ≤ m.start → IsLeast from ms i None → IsLeast from ms (i + 1) (Some (i, m.start))
  least_first l h =
      (within, l, here, λ k d u. up_to (λ j. ((get_or ms j d).start < from) ⊎ (m.start ≤ (get_or ms j d).start)) i k u (λ v. inl (h k d v)) (inr (let e = here d in omega arith)))

  pub least_sooner : (x : ℕ × ℕ) → from ≤ m.start → m.start < x.1 → IsLeast from ms i (Some x) → IsLeast from ms (i + 1) (Some (i, m.start))
  least_sooner x l s h = (
    within,
    l,
    here,
    λ k d u. up_to (λ j. ((get_or ms j d).start < from) ⊎ (m.start ≤ (get_or ms j d).start)) i k u
        (λ v. ⊎_elim {C = ((get_or ms k d).start < from) ⊎ (m.start ≤ (get_or ms k d).start)} (λ l. inl l) (λ (l : x.1 ≤ (get_or ms k d).start). inr (omega arith)) (h.3 k d v)) (inr (let e = here d in omega arith)),
  )

each_of : (P : BlockHandle → Type 0) (ms : List BlockHandle) → ((k : ℕ) (d : BlockHandle) → k < length ms → P (get_or ms k d)) → AllByRecursion P ms
each_of P [] f = tt
each_of P (m ∷ ms) f = (f 0 m (omega arith), each_of P ms (λ k d l. f (suc k) d (omega arith)))

pub least_none : (from : ℕ) (ms : List BlockHandle) → IsLeast from ms (length ms) None → AllStartBefore from ms
least_none from ms h = each_of (λ (m : BlockHandle). m.start < from) ms h

pub least_next : (from : ℕ) (ms : List BlockHandle) (x : ℕ × ℕ) → IsLeast from ms (length ms) (Some x) → IsNextBlock from ms x.0
least_next from ms x h =
    (h.0, λ d. let e = h.2 d in (let l = h.1 in omega arith, subst (λ s. NoneStartBetween from s ms) (sym e) (each_of (λ (m : BlockHandle). (m.start < from) ⊎ (x.1 ≤ m.start)) ms h.3)))

-- ---- the number of bytes

pub bytes_next : (ms : List BlockHandle) (i : ℕ) (d : BlockHandle) → i < length ms → bytes_in_blocks (take (i + 1) ms) ≡ bytes_in_blocks (take i ms) + ((get_or ms i d).end - (get_or ms i d).start)
bytes_next ms i d l = ap bytes_in_blocks (take_next ms i d l) ∙ bytes_push (take i ms) (get_or ms i d)
  where
    bytes_push : (ms : List BlockHandle) (m : BlockHandle) → bytes_in_blocks (ms ++ m ∷ []) ≡ bytes_in_blocks ms + (m.end - m.start)
    bytes_push [] m = omega arith
    bytes_push (k ∷ ms) m = let r = bytes_push ms m in omega arith

-- the blocks' bytes are their points' bytes
pub sizes_are : (bytes : List ℕ) (ms : List BlockHandle) → AreBlocks bytes ms → size_of_blocks (blocks_at bytes ms) ≡ bytes_in_blocks ms
sizes_are bytes [] h = refl
sizes_are bytes (m ∷ ms) h = let one = text_size bytes m h.0.some h.0.within in let text = ap length h.0.block.spelled in let rest = sizes_are bytes ms h.1 in omega arith

-- ---- the loop

-- the blocks that start before `from` are moved, so that they take the first `to` bytes
pub record AreSliding (old : List ℕ) (was : List BlockHandle) (bytes : List ℕ) (ms : List BlockHandle) (to from : ℕ) : Type 0 where
  pub marked : AreBlocks bytes ms
  pub apart : AreApart ms
  pub blocks : blocks_at bytes ms ≡ blocks_at old was
  pub parted : AllByRecursion (Parted to from) ms
  pub low : to ≤ from
  pub within : from ≤ length bytes
  pub are_moved : AreMoved to ms to

pub sliding_first : (bytes : List ℕ) (ms : List BlockHandle) → AreBlocks bytes ms → AreApart ms → AreSliding bytes ms bytes ms 0 0
sliding_first bytes ms b a = record { marked = b; apart = a; blocks = refl; parted = all_behind ms; low = omega arith; within = omega arith; are_moved = none_moved ms }
  where
    all_behind : (ms : List BlockHandle) → AllByRecursion (Parted 0 0) ms
    all_behind [] = tt
    all_behind (m ∷ ms) = (inr (omega arith), all_behind ms)

    none_moved : (ms : List BlockHandle) → AreMoved 0 ms 0
    none_moved [] = refl
    none_moved (m ∷ ms) = (0, none_moved ms, inr refl)

pub sliding_next : (old : List ℕ) (was : List BlockHandle) (bytes new : List ℕ) (ms : List BlockHandle) (to from at : ℕ) (m n : BlockHandle) → AreSliding old was bytes ms to from → IsNextBlock from ms at → m ≡ get_or ms at m → new ≡ copy_within bytes m.start m.end to
    → n.start ≡ to → n.end ≡ to + (m.end - m.start) → n.values ≡ m.values → n.count ≡ m.count → n.last ≡ m.last → n.spacing ≡ m.spacing → n.summary ≡ m.summary → AreSliding old was new (set ms at n) (to + (m.end - m.start)) m.end
sliding_next old was bytes new ms to from at m n s next there is start end values count last spacing summary =
    let within = next.0 in
    let first : from ≤ m.start = subst (λ (x : BlockHandle). from ≤ x.start) (sym there) (next.1 m).0 in
    let none : NoneStartBetween from m.start ms = subst (λ (x : BlockHandle). NoneStartBetween from x.start ms) (sym there) (next.1 m).1 in
    let h : IsBlockHandle bytes m = subst (IsBlockHandle bytes) (sym there) (mark_at bytes ms at m s.marked within) in
    let low : to ≤ m.start = let l = s.low in omega arith in
    let beside : AllBut (LieApart m) at ms = subst (λ (x : BlockHandle). AllBut (LieApart x) at ms) (sym there) (apart_beside m ms at within s.apart) in
    let parted : AllBut (Parted to m.end) at ms = others_later m to from first bytes ms at s.marked s.parted none beside in
    let both = all_moved bytes new m n to h low is start end values count last spacing summary m ms at within (sym there) s.marked parted in
    record {
      marked = both.0;
      apart = set_apart bytes new m n to h low is start end values count last spacing summary ms at s.apart parted;
      blocks = both.1 ∙ s.blocks;
      parted = set_parted bytes new m n to h low is start end values count last spacing summary ms at parted;
      low = let x = h.some in omega arith;
      within = let x = h.within in let y = same_length bytes new m n to h low is start end values count last spacing summary in omega arith;
      are_moved = set_moved bytes new m n to h low is start end values count last spacing summary m ms at to within (sym there) s.are_moved;
    }

-- all blocks are moved
module _ (old : List ℕ) (was : List BlockHandle) (bytes new : List ℕ) (ms : List BlockHandle) (to from : ℕ) (s : AreSliding old was bytes ms to from) (none : AllStartBefore from ms) (is : new ≡ take to bytes) where
  all_by : (ms : List BlockHandle) → AllByRecursion (Parted to from) ms → AllStartBefore from ms → AllEndBy to ms
  all_by [] p h = tt
  all_by (m ∷ ms) p h = (⊎_elim {C = m.end ≤ to} (λ l. l) (λ (l : from ≤ m.start). absurd (let k = h.0 in omega arith)) p.0, all_by ms p.1 h.1)

  bound : (ms : List BlockHandle) (n : ℕ) → AreMoved to ms n → n ≤ bytes_in_blocks ms
  bound [] n a = omega arith
  bound (m ∷ ms) n a = let r = bound ms a.0 a.1 in ⊎_elim {C = n ≤ (m.end - m.start) + bytes_in_blocks ms} (λ (x : (m.end ≤ to) × (n ≡ (m.end - m.start) + a.0)). let y = x.1 in omega arith) (λ (x : n ≡ a.0). omega arith) a.2

  new_size : length new ≡ to
  new_size = ap length is ∙ length-take-le to bytes (let l = s.low in let w = s.within in omega arith)

  slid_both : AreBlocks new ms × (blocks_at new ms ≡ blocks_at bytes ms)
  slid_both = blocks_before bytes new to ms (let l = s.low in let w = s.within in omega arith) (ap (λ k. take k new) (sym new_size) ∙ take-length new ∙ is) (all_by ms s.parted none) s.marked

  pub slid_marked : AreBlocks new ms
  slid_marked = slid_both.0

  pub slid_blocks : blocks_at new ms ≡ blocks_at old was
  slid_blocks = slid_both.1 ∙ s.blocks

  pub slid_packed : length new ≤ bytes_in_blocks ms
  slid_packed = let b = bound ms to s.are_moved in let l = new_size in omega arith
