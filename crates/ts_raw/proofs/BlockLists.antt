-- Lists of points of blocks, anywhere in the bytes.
use Rattle.std.proofs.Common.{◌≡◌, ℕ, zero, suc, ◌+◌, ◌-◌, ◌<◌, ◌≤◌, ℤ, ◌<ℤ◌, List, [], ◌∷◌, ◌++◌, length, take, drop, get_or, append-nil, length-append, length-drop, refl, sym, ◌∙◌, ap, subst, arith}
use Rattle.std.proofs.lemmas.List.{take-append-drop, length-take-le}
use Rattle.std.proofs.Math.Seq.{drop-append_seam, take-length, take-append_seam}
use Rattle.std.specs.List.{AllByRecursion}
use Rattle.ts_core.specs.aggregates.Aggregates.{aggregate_of_points}
use Rattle.ts_core.proofs.store.StateLemmas.{same_head, same_rest}
use Rattle.ts_block.specs.Blocks.{ArePoints, IsBlockOf}
use Rattle.ts_block.specs.Appending.{EndsInBlock, values_start, last_time}
use Rattle.ts_block.specs.Decoding.{AreApartBy}
use Rattle.ts_block.proofs.DecodingLemmas.{values_inside}
use Rattle.ts_raw.specs.declared.block_handle.BlockHandle.{BlockHandle}
use Rattle.ts_raw.specs.Columns.{AreTimed}
use Rattle.ts_raw.specs.PlainColumns.{IsRising}
use Rattle.ts_raw.specs.CodedPoints.{block_text_at, block_points_at, coded_points, blocks_at, all_joined, IsBlockHandle, AreBlocks, AreOrdered, AreCountedBlocks, AllEndBefore, AreApart}
use Rattle.ts_raw.proofs.ApartLemmas.{apart_before, apart_push}
use Rattle.ts_raw.proofs.PushLemmas.{mark_kept, mark_moved, all_within, one_more, parted_last, blocks_before, blocks_push, new_mark}
use Rattle.ts_raw.specs.Rewriting.{IsEncoded}

-- ---- all points are those of the blocks

pub coded_concat : (bytes : List ℕ) (ms : List BlockHandle) → coded_points bytes ms ≡ all_joined (blocks_at bytes ms)
unfolding coded_points
coded_concat bytes [] = refl
coded_concat bytes (m ∷ ms) = ap (λ (x : List (ℤ × ℤ)). block_points_at bytes m ++ x) (coded_concat bytes ms)

pub same_points : (b c : List ℕ) (ms ns : List BlockHandle) → blocks_at c ns ≡ blocks_at b ms → coded_points c ns ≡ coded_points b ms
same_points b c ms ns e = coded_concat c ns ∙ ap all_joined e ∙ sym (coded_concat b ms)

-- ---- last times

pub ends_again : (t : ℤ) (b c : List ℕ) (ms ns : List BlockHandle) → AreBlocks b ms → AreBlocks c ns → blocks_at c ns ≡ blocks_at b ms → AllEndBefore ms t → AllEndBefore ns t
ends_again t b c ms [] h k e a = tt
ends_again t b c [] (n ∷ ns) h k e a = absurd (let s = ap length e in omega arith)
ends_again t b c (m ∷ ms) (n ∷ ns) h k e a =
    let here = k.0.last_is ∙ ap last_time (same_head (block_points_at c n) (block_points_at b m) (blocks_at c ns) (blocks_at b ms) e) ∙ sym h.0.last_is in
    (subst (λ z. z <ℤ t) (sym here) a.0, ends_again t b c ms ns h.1 k.1 (same_rest (block_points_at c n) (block_points_at b m) (blocks_at c ns) (blocks_at b ms) e) a.1)

pub ordered_again : (b c : List ℕ) (ms ns : List BlockHandle) → AreBlocks b ms → AreBlocks c ns → blocks_at c ns ≡ blocks_at b ms → AreOrdered ms → AreOrdered ns
ordered_again b c ms [] h k e o = tt
ordered_again b c [] (n ∷ ns) h k e o = absurd (let s = ap length e in omega arith)
ordered_again b c (m ∷ ms) (n ∷ ns) h k e o =
    let rest = same_rest (block_points_at c n) (block_points_at b m) (blocks_at c ns) (blocks_at b ms) e in
    let here : n.last ≡ m.last = k.0.last_is ∙ ap last_time (same_head (block_points_at c n) (block_points_at b m) (blocks_at c ns) (blocks_at b ms) e) ∙ sym h.0.last_is in
    (all_above n.last ms ns h.1 k.1 rest (subst (λ z. AllByRecursion (λ (x : BlockHandle). z <ℤ x.last) ms) (sym here) o.0), ordered_again b c ms ns h.1 k.1 rest o.1)
  where
    all_above : (t : ℤ) (ms ns : List BlockHandle) → AreBlocks b ms → AreBlocks c ns → blocks_at c ns ≡ blocks_at b ms → AllByRecursion (λ (x : BlockHandle). t <ℤ x.last) ms → AllByRecursion (λ (x : BlockHandle). t <ℤ x.last) ns
    all_above t ms [] h k e a = tt
    all_above t [] (n ∷ ns) h k e a = absurd (let s = ap length e in omega arith)
    all_above t (m ∷ ms) (n ∷ ns) h k e a =
        let here = k.0.last_is ∙ ap last_time (same_head (block_points_at c n) (block_points_at b m) (blocks_at c ns) (blocks_at b ms) e) ∙ sym h.0.last_is in
        (subst (λ z. t <ℤ z) (sym here) a.0, all_above t ms ns h.1 k.1 (same_rest (block_points_at c n) (block_points_at b m) (blocks_at c ns) (blocks_at b ms) e) a.1)

-- the same blocks elsewhere hold the same points
pub counted_again : (b c : List ℕ) (ms ns : List BlockHandle) (total : ℕ) → AreCountedBlocks b ms total → AreBlocks c ns → blocks_at c ns ≡ blocks_at b ms → AreCountedBlocks c ns total
counted_again b c ms ns total h marked e =
    let same : coded_points c ns ≡ coded_points b ms = same_points b c ms ns e in
    record {
      coded = record {
        marked = marked;
        ordered = ordered_again b c ms ns h.coded.marked marked e h.coded.ordered;
        rising = subst IsRising (sym same) h.coded.rising;
        timed = subst AreTimed (sym same) h.coded.timed;
      };
      total_is = h.total_is ∙ ap length (sym same);
    }

-- ---- bytes that are longer

-- if the bytes begin with the old ones, the blocks are as they were
pub blocks_stay : (old new : List ℕ) (ms : List BlockHandle) → take (length old) new ≡ old → AreBlocks old ms → AreBlocks new ms × (blocks_at new ms ≡ blocks_at old ms)
blocks_stay old new ms front h = blocks_before old new (length old) ms (omega arith) (front ∙ sym (take-length old)) (all_within old ms h) h

pub stays : (old new : List ℕ) (ms ns : List BlockHandle) (n : ℕ) → n ≡ length old → take n new ≡ old → ns ≡ ms → AreBlocks old ms → AreBlocks new ns × (blocks_at new ns ≡ blocks_at old ms)
stays old new ms ns n size front items marked =
    subst (λ (x : List BlockHandle). AreBlocks new x × (blocks_at new x ≡ blocks_at old ms)) (sym items) (blocks_stay old new ms (subst (λ k. take k new ≡ old) size front) marked)

pub mark_stays : (old new : List ℕ) (m : BlockHandle) → take (length old) new ≡ old → IsBlockHandle old m → IsBlockHandle new m × (block_points_at new m ≡ block_points_at old m)
mark_stays old new m front h =
    let text : new ≡ old ++ drop (length old) new = sym (take-append-drop (length old) new) ∙ ap (λ (x : List ℕ). x ++ drop (length old) new) front in
    let whole : IsBlockHandle (old ++ []) m = subst (λ (x : List ℕ). IsBlockHandle x m) (sym (append-nil old)) h in
    let k = mark_kept old [] (drop (length old) new) m whole h.within in
    let both : IsBlockHandle (old ++ drop (length old) new) m × (block_points_at (old ++ drop (length old) new) m ≡ block_points_at old m) = (k.0, k.1 ∙ ap (λ (x : List ℕ). block_points_at x m) (append-nil old)) in
    subst (λ (x : List ℕ). IsBlockHandle x m × (block_points_at x m ≡ block_points_at old m)) (sym text) both

-- ---- blocks that are copied

pub text_size : (bytes : List ℕ) (m : BlockHandle) → m.start < m.end → m.end ≤ length bytes → length (block_text_at bytes m) ≡ m.end - m.start
text_size bytes m s h = length-take-le (m.end - m.start) (drop m.start bytes) (let e = length-drop m.start bytes in omega arith)

-- the bytes of a block at the end of others
pub mark_copied : (src old new : List ℕ) (m n : BlockHandle) → IsBlockHandle src m → new ≡ old ++ block_text_at src m → n.start ≡ length old → n.end ≡ length new → n.values ≡ m.values → n.count ≡ m.count → n.last ≡ m.last → n.spacing ≡ m.spacing → n.summary ≡ m.summary
    → IsBlockHandle new n × (block_points_at new n ≡ block_points_at src m)
mark_copied src old new m n h is s e v k l g a =
    let size = text_size src m h.some h.within in
    let all = ap length is ∙ length-append old (block_text_at src m) in
    let some = h.some in
    let width : n.end - n.start ≡ length (block_text_at src m) = omega arith in
    let text : block_text_at new n ≡ block_text_at src m = (λ i. take (width i) (drop (s i) (is i))) ∙ ap (take (length (block_text_at src m))) (drop-append_seam old (block_text_at src m)) ∙ take-length (block_text_at src m) in
    mark_moved src new m n h text (omega arith) (omega arith) v k l g a

module _ (old new : List ℕ) (ms : List BlockHandle) (m n : BlockHandle) (h : AreBlocks old (ms ++ m ∷ [])) (is : new ≡ old ++ block_text_at old m)
    (s : n.start ≡ length old) (e : n.end ≡ length new) (v : n.values ≡ m.values) (k : n.count ≡ m.count) (l : n.last ≡ m.last) (g : n.spacing ≡ m.spacing) (a : n.summary ≡ m.summary) where
  front : take (length old) new ≡ old
  front = ap (take (length old)) is ∙ take-append_seam old (block_text_at old m)

  old_parts : AreBlocks old ms × IsBlockHandle old m
  old_parts = parted_last old m ms h

  stay : AreBlocks new ms × (blocks_at new ms ≡ blocks_at old ms)
  stay = blocks_stay old new ms front old_parts.0

  moved : IsBlockHandle new n × (block_points_at new n ≡ block_points_at old m)
  moved = mark_copied old old new m n old_parts.1 is s e v k l g a

  pub moved_marked : AreBlocks new (ms ++ n ∷ [])
  moved_marked = one_more new n ms stay.0 moved.0

  pub moved_blocks : blocks_at new (ms ++ n ∷ []) ≡ blocks_at old (ms ++ m ∷ [])
  moved_blocks = blocks_push new ms n ∙ (λ i. stay.1 i ++ (moved.1 i ∷ [])) ∙ sym (blocks_push old ms m)

  pub moved_apart : AreApart (ms ++ m ∷ []) → AreApart (ms ++ n ∷ [])
  moved_apart h = apart_push (length old) ms n (apart_before ms (m ∷ []) h) (all_within old ms old_parts.0) (omega arith)

pub mark_at : (bytes : List ℕ) (ms : List BlockHandle) (i : ℕ) (d : BlockHandle) → AreBlocks bytes ms → i < length ms → IsBlockHandle bytes (get_or ms i d)
mark_at bytes [] i d h l = absurd (omega arith)
mark_at bytes (m ∷ ms) zero d h l = h.0
mark_at bytes (m ∷ ms) (suc i) d h l = mark_at bytes ms i d h.1 (omega arith)

pub take_next : {X : Type 0} (xs : List X) (i : ℕ) (d : X) → i < length xs → take (i + 1) xs ≡ take i xs ++ (get_or xs i d ∷ [])
take_next [] i d l = absurd (omega arith)
take_next (x ∷ xs) zero d l = refl
take_next (x ∷ xs) (suc i) d l =
    let n : suc i + 1 ≡ suc (i + 1) = omega arith in
    ap (λ k. take k (x ∷ xs)) n ∙ ap (λ (z : List _). x ∷ z) (take_next xs i d (omega arith))

-- one more block is copied
pub copied_more : (src old new : List ℕ) (all ms : List BlockHandle) (i : ℕ) (n d : BlockHandle) → AreBlocks src all → i < length all → AreBlocks old ms → blocks_at old ms ≡ blocks_at src (take i all) → new ≡ old ++ block_text_at src (get_or all i d)
    → n.start ≡ length old → n.end ≡ length new → n.values ≡ (get_or all i d).values → n.count ≡ (get_or all i d).count → n.last ≡ (get_or all i d).last → n.spacing ≡ (get_or all i d).spacing → n.summary ≡ (get_or all i d).summary
    → AreBlocks new (ms ++ n ∷ []) × (blocks_at new (ms ++ n ∷ []) ≡ blocks_at src (take (i + 1) all))
copied_more src old new all ms i n d h l marked blocks is s e v k last spacing summary =
    let m : BlockHandle = get_or all i d in
    let front : take (length old) new ≡ old = ap (take (length old)) is ∙ take-append_seam old (block_text_at src m) in
    let stay = blocks_stay old new ms front marked in
    let here = mark_copied src old new m n (mark_at src all i d h l) is s e v k last spacing summary in (
      one_more new n ms stay.0 here.0,
      blocks_push new ms n ∙ (λ j. (stay.1 ∙ blocks) j ++ (here.1 j ∷ [])) ∙ sym (blocks_push src (take i all) m) ∙ ap (blocks_at src) (sym (take_next all i d l)),
    )

-- ---- a block of points at the end

pub block_at_end : (old block new : List ℕ) (ps : List (ℤ × ℤ)) (m : BlockHandle) → IsBlockOf block ps → new ≡ old ++ block → m.start ≡ length old → m.end ≡ length new → m.values ≡ values_start ps → m.count ≡ length ps → m.last ≡ last_time ps → AreApartBy m.spacing ps → m.summary ≡ aggregate_of_points ps
    → IsEncoded (length old) new m ps
block_at_end old block new ps m b is s e v k l g a =
    let rest : drop m.start new ≡ block = (λ i. drop (s i) (is i)) ∙ drop-append_seam old block in
    let some : 0 < length block = let w = values_inside block ps b (values_start ps) refl in let n = nine ps b.points_are in omega arith in
    let ends : EndsInBlock new m.start (m.start + m.values) m.last ps = record {
      within = let n = ap length is ∙ length-append old block in omega arith;
      block = subst (λ (x : List ℕ). IsBlockOf x ps) (sym rest) b;
      values_at = ap (λ n. m.start + n) v;
      last_is = l;
    } in
    let both = new_mark new m ps ends e k g a in
    record { starts = omega arith; handle = both.0; points_are = both.1 }
  where
    nine : (ps : List (ℤ × ℤ)) → ArePoints ps → 0 < values_start ps
    nine [] h = absurd h
    nine (p ∷ ps) h = omega arith
