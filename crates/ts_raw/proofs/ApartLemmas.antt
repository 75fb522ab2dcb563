-- Blocks that share no bytes.
use Rattle.std.proofs.Common.{◌≡◌, ℕ, zero, suc, ◌+◌, ◌<◌, ◌≤◌, List, [], ◌∷◌, ◌++◌, length, take, drop, inl, inr, ⊎_elim, ap, subst, arith}
use Rattle.std.specs.List.{AllByRecursion}
use Rattle.ts_raw.specs.declared.block_handle.BlockHandle.{BlockHandle}
use Rattle.ts_raw.specs.CodedPoints.{AreBlocks, AllEndBy, LieApart, AreApart, LieFrom}

-- ---- lists

module _ {X : Type 0} (P : X → Type 0) where
  all_join : (xs ys : List X) → AllByRecursion P xs → AllByRecursion P ys → AllByRecursion P (xs ++ ys)
  all_join [] ys h k = k
  all_join (x ∷ xs) ys h k = (h.0, all_join xs ys h.1 k)

  all_front : (n : ℕ) (xs : List X) → AllByRecursion P xs → AllByRecursion P (take n xs)
  all_front zero xs h = tt
  all_front (suc n) [] h = tt
  all_front (suc n) (x ∷ xs) h = (h.0, all_front n xs h.1)

  all_behind : (n : ℕ) (xs : List X) → AllByRecursion P xs → AllByRecursion P (drop n xs)
  all_behind zero xs h = h
  all_behind (suc n) [] h = h
  all_behind (suc n) (x ∷ xs) h = all_behind n xs h.1

  all_before : (xs ys : List X) → AllByRecursion P (xs ++ ys) → AllByRecursion P xs
  all_before [] ys h = tt
  all_before (x ∷ xs) ys h = (h.0, all_before xs ys h.1)

-- ---- blocks of which some are left out

pub apart_behind : (n : ℕ) (ms : List BlockHandle) → AreApart ms → AreApart (drop n ms)
apart_behind zero ms h = h
apart_behind (suc n) [] h = h
apart_behind (suc n) (m ∷ ms) h = apart_behind n ms h.1

pub apart_before : (ms ns : List BlockHandle) → AreApart (ms ++ ns) → AreApart ms
apart_before [] ns h = tt
apart_before (m ∷ ms) ns h = (all_before (LieApart m) ms ns h.0, apart_before ms ns h.1)

-- ---- blocks behind others

pub from_less : (a b : ℕ) (ms : List BlockHandle) → a ≤ b → LieFrom b ms → LieFrom a ms
from_less a b ms l h = (less ms h.0, h.1)
  where
    less : (ms : List BlockHandle) → AllByRecursion (λ (m : BlockHandle). b ≤ m.start) ms → AllByRecursion (λ (m : BlockHandle). a ≤ m.start) ms
    less [] h = tt
    less (m ∷ ms) h = (let k = h.0 in omega arith, less ms h.1)

pub from_one : (a : ℕ) (m : BlockHandle) → a ≤ m.start → LieFrom a (m ∷ [])
from_one a m h = ((h, tt), (tt, tt))

-- two blocks, the first before the second or after it
pub from_two : (a : ℕ) (m n : BlockHandle) → a ≤ m.start → a ≤ n.start → LieApart m n → LieFrom a (m ∷ n ∷ [])
from_two a m n h k l = ((h, (k, tt)), ((l, tt), (tt, tt)))

module _ (a : ℕ) where
  -- a block that ends by the offset, before blocks that start from there on
  all_after : (m : BlockHandle) (ns : List BlockHandle) → m.end ≤ a → AllByRecursion (λ (n : BlockHandle). a ≤ n.start) ns → AllByRecursion (LieApart m) ns
  all_after m [] l h = tt
  all_after m (n ∷ ns) l h = (inl (let k = h.0 in omega arith), all_after m ns l h.1)

  all_earlier : (n : BlockHandle) (ms : List BlockHandle) → a ≤ n.start → AllEndBy a ms → AllByRecursion (LieApart n) ms
  all_earlier n [] l h = tt
  all_earlier n (m ∷ ms) l h = (inr (let k = h.0 in omega arith), all_earlier n ms l h.1)

  apart_joined : (ns ms : List BlockHandle) → LieFrom a ns → AreApart ms → AllEndBy a ms → AreApart (ns ++ ms)
  apart_joined [] ms h k l = k
  apart_joined (n ∷ ns) ms h k l = (all_join (LieApart n) ns ms h.1.0 (all_earlier n ms h.0.0 l), apart_joined ns ms (h.0.1, h.1.1) k l)

  pub apart_push : (ms : List BlockHandle) (n : BlockHandle) → AreApart ms → AllEndBy a ms → a ≤ n.start → AreApart (ms ++ n ∷ [])
  apart_push [] n h l k = (tt, tt)
  apart_push (m ∷ ms) n h l k = (all_join (LieApart m) ms (n ∷ []) h.0 (inl (let j = l.0 in omega arith), tt), apart_push ms n h.1 l.1 k)

  -- new blocks in place of an old one
  pub apart_replaced : (ns ms : List BlockHandle) (at : ℕ) → LieFrom a ns → AreApart ms → AllEndBy a ms → at < length ms → AreApart (take at ms ++ (ns ++ drop (at + 1) ms))
  apart_replaced ns [] at h k l within = absurd (omega arith)
  apart_replaced ns (m ∷ ms) zero h k l within = apart_joined ns ms h k.1 l.1
  apart_replaced ns (m ∷ ms) (suc at) h k l within =
      let same : drop (at + 1) ms ≡ drop (suc at + 1) (m ∷ ms) = ap (λ j. drop j (m ∷ ms)) (let j : suc (at + 1) ≡ suc at + 1 = omega arith in j) in
      let rest = apart_replaced ns ms at h k.1 l.1 (omega arith) in
      let here = all_join (LieApart m) (take at ms) (ns ++ drop (at + 1) ms) (all_front (LieApart m) at ms k.0) (all_join (LieApart m) ns (drop (at + 1) ms) (all_after m ns l.0 h.0) (all_behind (LieApart m) (at + 1) ms k.0)) in
      subst (λ (x : List BlockHandle). AreApart (m ∷ (take at ms ++ (ns ++ x)))) same (here, rest)

-- ---- the block that ends the bytes

-- all others end by its start
pub others_by : (bytes : List ℕ) (ms : List BlockHandle) (m : BlockHandle) → AreBlocks bytes ms → AreApart (ms ++ m ∷ []) → m.end ≡ length bytes → AllEndBy m.start ms
others_by bytes [] m b h e = tt
others_by bytes (k ∷ ms) m b h e = (⊎_elim {C = k.end ≤ m.start} (λ l. l) (λ (l : m.end ≤ k.start). absurd (let s = b.0.some in let w = b.0.within in omega arith)) (last ms h.0), others_by bytes ms m b.1 h.1 e)
  where
    last : (ms : List BlockHandle) → AllByRecursion (LieApart k) (ms ++ m ∷ []) → LieApart k m
    last [] h = h.0
    last (n ∷ ms) h = last ms h.1
