-- A point after all others, in a new last block or in the old one.
use Rattle.std.proofs.Common.{◌≡◌, ℕ, zero, suc, ◌+◌, ◌-◌, ◌<◌, ◌≤◌, ℤ, List, [], ◌∷◌, ◌++◌, length, take, get_or, set, append_assoc, refl, sym, ◌∙◌, ap, subst, arith}
use Rattle.std.proofs.Math.ListN.{drop_of_length-le}
use Rattle.ts_block.specs.Blocks.{ArePoints}
use Rattle.ts_raw.specs.declared.block_handle.BlockHandle.{BlockHandle}
use Rattle.ts_raw.specs.Columns.{AreTimed}
use Rattle.ts_raw.specs.PlainColumns.{IsRising}
use Rattle.ts_raw.specs.CodedPoints.{block_points_at, coded_points, blocks_at, IsBlockHandle, AreBlocks, IsCoded, AllEndBefore, AllEndBy, AreApart, LastGrows}
use Rattle.ts_raw.specs.Rewriting.{IsEncoded}
use Rattle.ts_raw.proofs.ApartLemmas.{apart_before, apart_push}
use Rattle.ts_raw.proofs.PushLemmas.{one_more, parted_last, blocks_before, coded_push, blocks_push, coded_less, rising_push}
use Rattle.ts_raw.proofs.BlockLists.{blocks_stay, same_points}
use Rattle.ts_raw.proofs.RewriteLemmas.{timed_of, set_replaced}
use Rattle.ts_raw.proofs.ColumnBlocks.{coded_anew}

timed_join : (ps qs : List (ℤ × ℤ)) → AreTimed ps → AreTimed qs → AreTimed (ps ++ qs)
timed_join [] qs h k = k
timed_join (p ∷ ps) qs h k = (h.0, timed_join ps qs h.1 k)

-- blocks with these points, and a last one with others
module _ {from : ℕ} (bytes : List ℕ) (ms : List BlockHandle) (n : BlockHandle) (qs ps : List (ℤ × ℤ)) (marked : AreBlocks bytes ms) (same : coded_points bytes ms ≡ qs) (e : IsEncoded from bytes n ps) where
  ended_points : coded_points bytes (ms ++ n ∷ []) ≡ qs ++ ps
  ended_points = coded_push bytes n ms ∙ (λ i. same i ++ e.points_are i)

  ended : IsRising (qs ++ ps) → AreTimed qs → IsCoded bytes (ms ++ n ∷ [])
  ended s d =
      let are : ArePoints ps = subst ArePoints e.points_are e.handle.block.points_are in
      coded_anew bytes (ms ++ n ∷ []) (one_more bytes n ms marked e.handle) (subst IsRising (sym ended_points) s) (subst AreTimed (sym ended_points) (timed_join qs ps d (timed_of ps are)))

-- a block of one point after all others
module _ {from : ℕ} (old new : List ℕ) (ms : List BlockHandle) (n : BlockHandle) (p : ℤ × ℤ) (c : IsCoded old ms) (later : AllEndBefore ms p.0) (front : take (length old) new ≡ old) (e : IsEncoded from new n (p ∷ [])) where
  stay : AreBlocks new ms × (blocks_at new ms ≡ blocks_at old ms)
  stay = blocks_stay old new ms front c.marked

  pub begun_points : coded_points new (ms ++ n ∷ []) ≡ coded_points old ms ++ p ∷ []
  begun_points = ended_points new ms n (coded_points old ms) (p ∷ []) stay.0 (same_points old new ms ms stay.1) e

  pub begun_blocks : blocks_at new (ms ++ n ∷ []) ≡ blocks_at old ms ++ ((p ∷ []) ∷ [])
  begun_blocks = blocks_push new ms n ∙ (λ i. stay.1 i ++ (e.points_are i ∷ []))

  pub begun : IsCoded new (ms ++ n ∷ [])
  begun = ended new ms n (coded_points old ms) (p ∷ []) stay.0 (same_points old new ms ms stay.1) e (rising_push (coded_points old ms) p c.rising (coded_less old p.0 ms c.marked later)) c.timed

-- a point after all others in the last block, which shares no bytes with others
module _ (old new : List ℕ) (ms : List BlockHandle) (m n : BlockHandle) (p : ℤ × ℤ) (c : IsCoded old (ms ++ m ∷ [])) (later : AllEndBefore (ms ++ m ∷ []) p.0) (apart : AllEndBy m.start ms)
    (front : take m.start new ≡ take m.start old) (e : IsEncoded m.start new n (block_points_at old m ++ p ∷ [])) where
  split : AreBlocks old ms × IsBlockHandle old m
  split = parted_last old m ms c.marked

  kept : AreBlocks new ms × (blocks_at new ms ≡ blocks_at old ms)
  kept = blocks_before old new m.start ms (let a = split.1.some in let b = split.1.within in omega arith) front apart split.0

  joined : coded_points old ms ++ (block_points_at old m ++ p ∷ []) ≡ coded_points old (ms ++ m ∷ []) ++ p ∷ []
  joined = sym (append_assoc (coded_points old ms) (block_points_at old m) (p ∷ [])) ∙ ap (λ (x : List (ℤ × ℤ)). x ++ p ∷ []) (sym (coded_push old m ms))

  pub grown_points : coded_points new (ms ++ n ∷ []) ≡ coded_points old (ms ++ m ∷ []) ++ p ∷ []
  grown_points = ended_points new ms n (coded_points old ms) (block_points_at old m ++ p ∷ []) kept.0 (same_points old new ms ms kept.1) e ∙ joined

  -- it still shares no bytes with them
  pub grown_apart : AreApart (ms ++ m ∷ []) → AreApart (ms ++ n ∷ [])
  grown_apart h = apart_push m.start ms n (apart_before ms (m ∷ []) h) apart e.starts

  pub grown_blocks : blocks_at new (ms ++ n ∷ []) ≡ blocks_at old ms ++ ((block_points_at old m ++ p ∷ []) ∷ [])
  grown_blocks = blocks_push new ms n ∙ (λ i. kept.1 i ++ (e.points_are i ∷ []))

  pub grown : IsCoded new (ms ++ n ∷ [])
  grown =
      ended new ms n (coded_points old ms) (block_points_at old m ++ p ∷ []) kept.0 (same_points old new ms ms kept.1) e (subst IsRising (sym joined) (rising_push (coded_points old (ms ++ m ∷ [])) p c.rising (coded_less old p.0 (ms ++ m ∷ []) c.marked later)))
      (timed_front (coded_points old ms) (block_points_at old m) (subst AreTimed (coded_push old m ms) c.timed))
    where
      timed_front : (qs ps : List (ℤ × ℤ)) → AreTimed (qs ++ ps) → AreTimed qs
      timed_front [] ps h = tt
      timed_front (q ∷ qs) ps h = (h.0, timed_front qs ps h.1)

-- ---- the last block

pub record Growing (size : ℕ) (ms : List BlockHandle) (at : ℕ) (m : BlockHandle) : Type 0 where
  pub split : ms ≡ take at ms ++ m ∷ []
  pub some : suc at ≡ length ms
  pub few : m.count < 256
  pub ends : m.end ≡ size

pub growing : (size : ℕ) (ms : List BlockHandle) (at : ℕ) (d : BlockHandle) → LastGrows size ms → at ≡ length ms - 1 → Growing size ms at (get_or ms at d)
growing size [] at d g e = absurd g
growing size (m ∷ []) zero d g e = record { split = refl; some = refl; few = g.0; ends = g.1 }
growing size (m ∷ []) (suc at) d g e = absurd (omega arith)
growing size (m ∷ n ∷ ms) zero d g e = absurd (omega arith)
growing size (m ∷ n ∷ ms) (suc at) d g e =
    let rest = growing size (n ∷ ms) at d g (omega arith) in
    record { split = ap (λ (x : List BlockHandle). m ∷ x) rest.split; some = let s = rest.some in omega arith; few = rest.few; ends = rest.ends }

pub grows_last : (size : ℕ) (ms : List BlockHandle) (at : ℕ) (d : BlockHandle) → at ≡ length ms - 1 → 0 < length ms → (get_or ms at d).count < 256 → (get_or ms at d).end ≡ size → LastGrows size ms
grows_last size [] at d e s f g = absurd (omega arith)
grows_last size (m ∷ []) zero d e s f g = (f, g)
grows_last size (m ∷ []) (suc at) d e s f g = absurd (omega arith)
grows_last size (m ∷ n ∷ ms) zero d e s f g = absurd (omega arith)
grows_last size (m ∷ n ∷ ms) (suc at) d e s f g = grows_last size (n ∷ ms) at d (omega arith) (omega arith) f g

-- the handle of the last block changes where it stands
pub set_last : (ms : List BlockHandle) (at : ℕ) (n : BlockHandle) → suc at ≡ length ms → set ms at n ≡ take at ms ++ n ∷ []
set_last ms at n s = set_replaced ms at n (omega arith) ∙ ap (λ (x : List BlockHandle). take at ms ++ (n ∷ x)) (drop_of_length-le ms (let k : length ms ≤ at + 1 = omega arith in k))
