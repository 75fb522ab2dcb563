-- Blocks that are copied with one point more, or in parts.
use Rattle.std.proofs.Common.{◌≡◌, ℕ, zero, suc, ◌+◌, ◌<◌, ◌≤◌, ℤ, ◌<ℤ◌, ◌≤ℤ◌, List, [], ◌∷◌, ◌++◌, length, take, drop, length-append, inl, inr, sym, ◌∙◌, ap, subst, arith}
use Rattle.ts_core.specs.aggregates.Aggregates.{Aggregate, aggregate_of_one, merged, aggregate_of_points}
use Rattle.ts_core.specs.aggregates.MergeLaws.{aggregate_laws}
use Rattle.ts_core.proofs.aggregates.Folds.{fold-middle}
use Rattle.ts_core.proofs.aggregates.AggregatesLemmas.{count_of_fold}
use Rattle.std.proofs.Math.ListN.{drop_of_length-le}
use Rattle.std.specs.FinMap.{put}
use Rattle.std.proofs.Common.{int_cmp, append-nil, get_or}
use Rattle.std.proofs.lemmas.List.{take-append-drop, length-take-le}
use Rattle.ts_block.specs.Blocks.{ArePoints}
use Rattle.ts_block.specs.Appending.{last_time}
use Rattle.ts_block.specs.Splicing.{IsAdded}
use Rattle.ts_raw.specs.declared.block_handle.BlockHandle.{BlockHandle}
use Rattle.ts_raw.specs.CodedPoints.{IsBlockHandle, AreBlocks, LieFrom, CutFits, blocks_at, block_points_at, coded_points}
use Rattle.ts_raw.specs.Rewriting.{IsEncoded, AreHalves, cut_in_block}
use Rattle.ts_raw.proofs.ApartLemmas.{from_two}
use Rattle.ts_raw.proofs.PushLemmas.{points_less}
use Rattle.ts_raw.proofs.BlockLists.{mark_stays, mark_at}
use Rattle.ts_block.proofs.SplicingLemmas.{put_after}
use Rattle.ts_raw.proofs.RewriteLemmas.{put_first, last_after_drop}

-- ---- aggregates

pub summary_next : (s : Aggregate) (p : ℤ × ℤ) (old new all : List (ℤ × ℤ)) → old ≡ p ∷ new → merged s (aggregate_of_points old) ≡ aggregate_of_points all → merged (merged s (aggregate_of_one p.0 p.1)) (aggregate_of_points new) ≡ aggregate_of_points all
summary_next s p old new all e so_far = aggregate_laws.assoc s (aggregate_of_one p.0 p.1) (aggregate_of_points new) ∙ ap (λ (x : List (ℤ × ℤ)). merged s (aggregate_of_points x)) (sym e) ∙ so_far

pub summary_added : (xs ys : List (ℤ × ℤ)) (p : ℤ × ℤ) → aggregate_of_points (xs ++ p ∷ ys) ≡ merged (aggregate_of_points (xs ++ ys)) (aggregate_of_one p.0 p.1)
summary_added xs ys p = fold-middle aggregate_laws (λ (q : ℤ × ℤ). aggregate_of_one q.0 q.1) xs p ys ∙ aggregate_laws.comm (aggregate_of_one p.0 p.1) (aggregate_of_points (xs ++ ys))

pub added_summary : (points new : List (ℤ × ℤ)) (p : ℤ × ℤ) (s : Aggregate) → IsAdded points p new → s ≡ aggregate_of_points points → merged s (aggregate_of_one p.0 p.1) ≡ aggregate_of_points new
added_summary points new p s a is =
    ap (λ x. merged x (aggregate_of_one p.0 p.1)) (is ∙ ap aggregate_of_points a.without) ∙ sym (summary_added a.earlier a.later p) ∙ ap aggregate_of_points (sym a.with)

pub added_count : (points new : List (ℤ × ℤ)) (p : ℤ × ℤ) (n : ℕ) → IsAdded points p new → n ≡ length points → n + 1 ≡ length new
added_count points new p n a is =
    let b = ap length a.without in
    let c = ap length a.with in
    let d = length-append a.earlier a.later in
    let e = length-append a.earlier (p ∷ a.later) in
    omega arith

-- ---- handles

pub few_points : (ps : List (ℤ × ℤ)) → ArePoints ps → (length ps ≤ 256) × (0 < length ps)
few_points [] h = absurd h
few_points (p ∷ ps) h = (let a = h.0 in omega arith, omega arith)

pub summary_count : (bytes : List ℕ) (m : BlockHandle) → IsBlockHandle bytes m → m.summary.count ≡ m.count
summary_count bytes m h = ap (λ (a : Aggregate). a.count) h.summary_is ∙ count_of_fold (block_points_at bytes m) ∙ sym h.count_is

pub stays_encoded : {from : ℕ} (old new : List ℕ) (m : BlockHandle) (ps : List (ℤ × ℤ)) → take (length old) new ≡ old → IsEncoded from old m ps → IsEncoded from new m ps
stays_encoded old new m ps front h = let k = mark_stays old new m front h.handle in record { starts = h.starts; handle = k.0; points_are = k.1 ∙ h.points_are }

pub starts_later : {from at : ℕ} {bytes : List ℕ} {m : BlockHandle} {ps : List (ℤ × ℤ)} → at ≤ from → IsEncoded from bytes m ps → IsEncoded at bytes m ps
starts_later l h = record { starts = let s = h.starts in omega arith; handle = h.handle; points_are = h.points_are }

pub two_coded : {from at : ℕ} (bytes : List ℕ) (m n : BlockHandle) (ps qs : List (ℤ × ℤ)) → IsEncoded from bytes m ps → IsEncoded at bytes n qs → AreBlocks bytes (m ∷ n ∷ []) × (coded_points bytes (m ∷ n ∷ []) ≡ ps ++ qs)
unfolding coded_points
two_coded bytes m n ps qs a b = ((a.handle, (b.handle, tt)), λ i. a.points_are i ++ (append-nil (block_points_at bytes n) ∙ b.points_are) i)

pub last_of_encoded : {from : ℕ} (bytes : List ℕ) (m : BlockHandle) (ps : List (ℤ × ℤ)) → IsEncoded from bytes m ps → m.last ≡ last_time ps
last_of_encoded bytes m ps h = h.handle.last_is ∙ ap last_time h.points_are

module _ {from : ℕ} (bytes : List ℕ) (m n : BlockHandle) (points : List (ℤ × ℤ)) (h : AreHalves from bytes m n points) (t v : ℤ) where
  pub second_last : n.last ≡ last_time points
  second_last = last_of_encoded bytes n (drop h.half points) h.second_is ∙ last_after_drop h.half points h.less

  module _ (new : List ℕ) (front : take (length bytes) new ≡ bytes) (k : BlockHandle) where
    -- the new block is behind both halves
    pub behind_first : length bytes ≤ k.start → LieFrom from (k ∷ n ∷ [])
    behind_first s =
        let a = h.first_is.starts in let b = h.first_is.handle.some in let c = h.second_is.starts in let d = h.second_is.handle.some in let e = h.second_is.handle.within in
        from_two from k n (omega arith) (omega arith) (inr (omega arith))

    pub behind_second : length bytes ≤ k.start → LieFrom from (m ∷ k ∷ [])
    behind_second s =
        let a = h.first_is.starts in let b = h.first_is.handle.some in let e = h.first_is.handle.within in
        from_two from m k (omega arith) (omega arith) (inl (omega arith))

    pub in_first : {at : ℕ} → t ≤ℤ m.last → IsEncoded at new k (put int_cmp t v (block_points_at bytes m)) → AreBlocks new (k ∷ n ∷ []) × (coded_points new (k ∷ n ∷ []) ≡ put int_cmp t v points)
    in_first r e =
        let xs : List (ℤ × ℤ) = take h.half points in
        let ys : List (ℤ × ℤ) = drop h.half points in
        let both = two_coded new k n (put int_cmp t v (block_points_at bytes m)) ys e (stays_encoded bytes new n ys front h.second_is) in
        let some : 0 < length xs = let c = length-take-le h.half points (let l = h.less in omega arith) in let d = h.some in omega arith in
        (both.0, both.1 ∙ ap (λ (x : List (ℤ × ℤ)). put int_cmp t v x ++ ys) h.first_is.points_are ∙ sym (put_first t v xs ys some (subst (λ z. t ≤ℤ z) (last_of_encoded bytes m xs h.first_is) r)) ∙ ap (put int_cmp t v) (take-append-drop h.half points))

    pub in_second : {at : ℕ} → m.last <ℤ t → IsEncoded at new k (put int_cmp t v (block_points_at bytes n)) → AreBlocks new (m ∷ k ∷ []) × (coded_points new (m ∷ k ∷ []) ≡ put int_cmp t v points)
    in_second l e =
        let xs : List (ℤ × ℤ) = take h.half points in
        let ys : List (ℤ × ℤ) = drop h.half points in
        let both = two_coded new m k xs (put int_cmp t v (block_points_at bytes n)) (stays_encoded bytes new m xs front h.first_is) e in
        let are : ArePoints xs = subst ArePoints h.first_is.points_are h.first_is.handle.block.points_are in
        (both.0, both.1 ∙ ap (λ (x : List (ℤ × ℤ)). xs ++ put int_cmp t v x) h.second_is.points_are ∙ sym (put_after t v xs ys (points_less t xs are (subst (λ z. z <ℤ t) (last_of_encoded bytes m xs h.first_is) l))) ∙ ap (put int_cmp t v) (take-append-drop h.half points))

pub rest_last : {from : ℕ} (bytes new : List ℕ) (m n : BlockHandle) (k : ℕ) → IsBlockHandle bytes m → k < m.count → IsEncoded from new n (drop k (block_points_at bytes m)) → m.last ≡ n.last
rest_last bytes new m n k h l e = h.last_is ∙ sym (last_after_drop k (block_points_at bytes m) (let a = h.count_is in omega arith)) ∙ sym (last_of_encoded new n (drop k (block_points_at bytes m)) e)

-- the removed points of a block are not all of it
pub cut_less : (bytes : List ℕ) (ms : List BlockHandle) (at cut : ℕ) (d : BlockHandle) → AreBlocks bytes ms → CutFits cut (blocks_at bytes ms) → at < length ms → cut_in_block at cut < (get_or ms at d).count
cut_less bytes [] at cut d h f l = absurd (omega arith)
cut_less bytes (m ∷ ms) zero cut d h f l = let a = h.0.count_is in omega arith
cut_less bytes (m ∷ ms) (suc at) cut d h f l =
    let k = mark_at bytes (m ∷ ms) (suc at) d h l in
    let a = k.count_is in
    let b = (few_points (block_points_at bytes (get_or ms at d)) k.block.points_are).1 in
    omega arith

-- no blocks are left
pub none_behind : (bytes : List ℕ) (ms : List BlockHandle) (k cut : ℕ) → length ms ≤ k → drop cut (coded_points bytes (drop k ms)) ≡ []
unfolding coded_points
none_behind bytes ms k cut l = ap (λ (x : List BlockHandle). drop cut (coded_points bytes x)) (drop_of_length-le ms l) ∙ drop_of_length-le [] (omega arith)
