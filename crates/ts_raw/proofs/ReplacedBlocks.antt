-- Blocks of a column that replace one of its blocks.
use Rattle.std.proofs.Common.{◌≡◌, ℕ, zero, suc, ◌+◌, ◌<◌, ◌≤◌, ℤ, ◌<ℤ◌, ◌≤ℤ◌, int_cmp, List, [], ◌∷◌, ◌++◌, length, take, drop, get_or, length-append, length-drop, drop-cons, Result, Ok, Err, IfOk, refl, sym, ◌∙◌, ap, subst, arith}
use Rattle.std.proofs.lemmas.List.{take-append-drop, drop-append-le}
use Rattle.std.specs.declared.alloc.AllocError.{AllocError}
use Rattle.std.specs.List.{AllByRecursion}
use Rattle.std.specs.FinMap.{put}
use Rattle.ts_core.specs.facts.Times.{IsTime}
use Rattle.ts_block.specs.Appending.{last_time}
use Rattle.ts_raw.specs.declared.block_handle.BlockHandle.{BlockHandle}
use Rattle.ts_raw.specs.declared.rewriting.Rewritten.{Rewritten}
use Rattle.ts_raw.specs.Columns.{AreTimed}
use Rattle.ts_raw.specs.PlainColumns.{IsRising}
use Rattle.ts_raw.specs.CodedPoints.{block_points_at, coded_points, blocks_at, IsBlockHandle, AreBlocks, IsCoded, AreCountedBlocks, count_in_blocks, AllEndBefore, AreApart, LieFrom, IsLastBefore, CutFits}
use Rattle.ts_raw.specs.Rewriting.{IsRewritten, blocks_of, handles_replaced, cut_in_block, cut_after}
use Rattle.ts_raw.proofs.CutLemmas.{is_rising_behind, timed_behind}
use Rattle.ts_raw.proofs.PointMaps.{rising-put, timed-put}
use Rattle.ts_raw.proofs.PushLemmas.{coded_less, all_within}
use Rattle.ts_raw.proofs.ApartLemmas.{apart_replaced}
use Rattle.ts_raw.proofs.BlockLists.{mark_at, mark_stays}
use Rattle.ts_raw.proofs.RewriteLemmas.{counts_are, coded_join, put_within, last_after_drop, length_put}
use Rattle.ts_raw.proofs.SplicedLemmas.{few_points}
use Rattle.ts_raw.proofs.ColumnBlocks.{ends_before, not_less, coded_anew, blocks_front, blocks_behind, blocks_join, all_dropped}

-- ---- a rewritten block

split_there : (ms : List BlockHandle) (at : ℕ) (d : BlockHandle) → at < length ms → ms ≡ take at ms ++ (get_or ms at d ∷ drop (at + 1) ms)
split_there ms at d l = sym (take-append-drop at ms) ∙ ap (λ (x : List BlockHandle). take at ms ++ x) (drop-cons ms at d l ∙ ap (λ k. get_or ms at d ∷ drop k ms) (let n : suc at ≡ at + 1 = omega arith in n))

pub reaches : (t : ℤ) (ms : List BlockHandle) (at : ℕ) (d : BlockHandle) → at < length ms → IsLastBefore t ms at → t ≤ℤ (get_or ms at d).last
reaches t ms at d l p = not_less (get_or ms at d).last t (p.1 at d (omega arith) l)

pub is_rewritten : (old new : List ℕ) (ms : List BlockHandle) (at cut : ℕ) (d : BlockHandle) (p : ℤ × ℤ) (r : Rewritten) → AreBlocks old ms → AreApart ms → at < length ms → IsLastBefore p.0 ms at → r.at ≡ at → AreBlocks new (blocks_of r) → LieFrom (length old) (blocks_of r)
    → coded_points new (blocks_of r) ≡ put int_cmp p.0 p.1 (drop (cut_in_block at cut) (block_points_at old (get_or ms at d))) → take (length old) new ≡ old → IsRewritten new ms cut p r
is_rewritten old new ms at cut d p r marked apart l part is blocks behind points front =
    let stays = mark_stays old new (get_or ms at d) front (mark_at old ms at d marked l) in
    record {
      within = let e = is in omega arith;
      old = get_or ms at d;
      split = split_there ms at d l ∙ ap (λ k. take k ms ++ (get_or ms at d ∷ drop (k + 1) ms)) (sym is);
      blocks = blocks;
      points = points ∙ (λ i. put int_cmp p.0 p.1 (drop (cut_in_block (sym is i) cut) (sym stays.1 i)));
      apart = apart_replaced (length old) (blocks_of r) ms r.at behind apart (all_within old ms marked) (let e = is in omega arith);
      earlier = subst (λ k. AllEndBefore (take k ms) p.0) (sym is) (ends_before p.0 ms at (omega arith) part);
      reached = reaches p.0 ms at d l part;
    }

pub cut_at_later : (at cut : ℕ) → (at ≡ 0 → ⊥) → (0 ≡ cut_in_block at cut) × (cut ≡ cut_after at cut)
cut_at_later zero cut n = absurd (n refl)
cut_at_later (suc at) cut n = (refl, refl)

pub rewritten_if_ok : (old new : List ℕ) (ms : List BlockHandle) (at cut : ℕ) (d : BlockHandle) (p : ℤ × ℤ) (r : Result Rewritten AllocError) → AreBlocks old ms → AreApart ms → at < length ms → IsLastBefore p.0 ms at → IfOk r (λ n. n.at ≡ at) → IfOk r (λ n. AreBlocks new (blocks_of n)) → IfOk r (λ n. LieFrom (length old) (blocks_of n))
    → IfOk r (λ n. coded_points new (blocks_of n) ≡ put int_cmp p.0 p.1 (drop (cut_in_block at cut) (block_points_at old (get_or ms at d)))) → take (length old) new ≡ old → IfOk r (λ n. IsRewritten new ms cut p n)
rewritten_if_ok old new ms at cut d p (Ok n) marked apart l part is blocks behind points front = is_rewritten old new ms at cut d p n marked apart l part is blocks behind points front
rewritten_if_ok old new ms at cut d p (Err e) marked apart l part is blocks behind points front = tt

-- ---- a rewritten block replaces the old one

module _ (bytes : List ℕ) (ms : List BlockHandle) (total cut : ℕ) (p : ℤ × ℤ) (r : Rewritten) (c : AreCountedBlocks bytes ms total) (f : CutFits cut (blocks_at bytes ms)) (w : IsRewritten bytes ms cut p r) where
  abbrev F : List (ℤ × ℤ)
  F = coded_points bytes (take r.at ms)

  abbrev P : List (ℤ × ℤ)
  P = block_points_at bytes w.old

  abbrev B : List (ℤ × ℤ)
  B = coded_points bytes (drop (r.at + 1) ms)

  old_is : coded_points bytes ms ≡ F ++ (P ++ B)
  unfolding coded_points
  old_is = ap (coded_points bytes) w.split ∙ coded_join bytes (take r.at ms) (w.old ∷ drop (r.at + 1) ms)

  new_is : coded_points bytes (handles_replaced r ms) ≡ F ++ (put int_cmp p.0 p.1 (drop (cut_in_block r.at cut) P) ++ B)
  new_is = coded_join bytes (take r.at ms) (blocks_of r ++ drop (r.at + 1) ms) ∙ ap (λ (x : List (ℤ × ℤ)). F ++ x) (coded_join bytes (blocks_of r) (drop (r.at + 1) ms) ∙ ap (λ (x : List (ℤ × ℤ)). x ++ B) w.points)

  split_blocks : AreBlocks bytes (take r.at ms ++ (w.old ∷ drop (r.at + 1) ms))
  split_blocks = subst (AreBlocks bytes) w.split c.coded.marked

  old_mark : (xs ys : List BlockHandle) (m : BlockHandle) → AreBlocks bytes (xs ++ (m ∷ ys)) → IsBlockHandle bytes m
  old_mark [] ys m h = h.0
  old_mark (x ∷ xs) ys m h = old_mark xs ys m h.1

  is_old : IsBlockHandle bytes w.old
  is_old = old_mark (take r.at ms) (drop (r.at + 1) ms) w.old split_blocks

  less : AllByRecursion (λ (q : ℤ × ℤ). q.0 <ℤ p.0) F
  less = coded_less bytes p.0 (take r.at ms) (blocks_front bytes r.at ms c.coded.marked) w.earlier

  reach : p.0 ≤ℤ last_time P
  reach = subst (λ z. p.0 ≤ℤ z) is_old.last_is w.reached

  first_cut : (ns : List BlockHandle) (m : BlockHandle) (ys : List BlockHandle) → ns ≡ m ∷ ys → CutFits cut (blocks_at bytes ns) → cut < length (block_points_at bytes m)
  first_cut ns m ys e h = subst (λ (x : List BlockHandle). CutFits cut (blocks_at bytes x)) e h

  front_cut : (ns : List BlockHandle) (at : ℕ) → (at ≡ 0 → ⊥) → at < length ns → CutFits cut (blocks_at bytes ns) → cut ≤ length (coded_points bytes (take at ns))
  unfolding coded_points
  front_cut ns zero n l h = absurd (n refl)
  front_cut [] (suc k) n l h = absurd (omega arith)
  front_cut (m ∷ ns) (suc k) n l h = let a = length-append (block_points_at bytes m) (coded_points bytes (take k ns)) in omega arith

  whole : (at : ℕ) → r.at ≡ at → (F ++ (put int_cmp p.0 p.1 (drop (cut_in_block at cut) P) ++ B) ≡ put int_cmp p.0 p.1 (drop (cut_in_block at cut) (F ++ (P ++ B))))
      × (drop (cut_after at cut) (F ++ (put int_cmp p.0 p.1 (drop (cut_in_block at cut) P) ++ B)) ≡ put int_cmp p.0 p.1 (drop cut (F ++ (P ++ B))))
  unfolding coded_points
  whole zero e =
      let none : F ≡ [] = ap (λ k. coded_points bytes (take k ms)) e in
      let first : ms ≡ w.old ∷ drop (r.at + 1) ms = w.split ∙ ap (λ k. take k ms ++ (w.old ∷ drop (r.at + 1) ms)) e in
      let few : cut < length P = first_cut ms w.old (drop (r.at + 1) ms) first f in
      let some : 0 < length (drop cut P) = let n = length-drop cut P in omega arith in
      let last : p.0 ≤ℤ last_time (drop cut P) = subst (λ z. p.0 ≤ℤ z) (sym (last_after_drop cut P few)) reach in
      let here : F ++ (put int_cmp p.0 p.1 (drop cut P) ++ B) ≡ put int_cmp p.0 p.1 (drop cut (F ++ (P ++ B))) =
      ap (λ (x : List (ℤ × ℤ)). x ++ (put int_cmp p.0 p.1 (drop cut P) ++ B)) none
      ∙ sym (put_within p.0 p.1 [] (drop cut P) B tt some last)
      ∙ ap (put int_cmp p.0 p.1) (sym (drop-append-le cut P B (omega arith)))
      ∙ ap (λ (x : List (ℤ × ℤ)). put int_cmp p.0 p.1 (drop cut (x ++ (P ++ B)))) (sym none) in
      (here, here)
  whole (suc k) e =
      let fits : cut ≤ length F = front_cut ms r.at (λ z. let n = e in omega arith) w.within f in
      let some : 0 < length P = (few_points P is_old.block.points_are).1 in
      let all : F ++ (put int_cmp p.0 p.1 P ++ B) ≡ put int_cmp p.0 p.1 (F ++ (P ++ B)) = sym (put_within p.0 p.1 F P B less some reach) in (
        all,
        drop-append-le cut F (put int_cmp p.0 p.1 P ++ B) fits
            ∙ sym (put_within p.0 p.1 (drop cut F) P B (all_dropped p.0 cut F less) some reach)
            ∙ ap (put int_cmp p.0 p.1) (sym (drop-append-le cut F (P ++ B) fits)),
      )

  pub replaced_blocks : AreBlocks bytes (handles_replaced r ms)
  replaced_blocks =
      let all = c.coded.marked in
      blocks_join bytes (take r.at ms) (blocks_of r ++ drop (r.at + 1) ms) (blocks_front bytes r.at ms all) (blocks_join bytes (blocks_of r) (drop (r.at + 1) ms) w.blocks (blocks_behind bytes (r.at + 1) ms all))

  all_new : coded_points bytes (handles_replaced r ms) ≡ put int_cmp p.0 p.1 (drop (cut_in_block r.at cut) (coded_points bytes ms))
  all_new = new_is ∙ (whole r.at refl).0 ∙ ap (λ (x : List (ℤ × ℤ)). put int_cmp p.0 p.1 (drop (cut_in_block r.at cut) x)) (sym old_is)

  pub replaced_count : count_in_blocks (handles_replaced r ms) ≡ length (coded_points bytes (handles_replaced r ms))
  replaced_count = counts_are bytes (handles_replaced r ms) replaced_blocks

  pub replaced_few : total < 18446744073709551615 → count_in_blocks (handles_replaced r ms) ≤ 18446744073709551615
  replaced_few t =
      let n = replaced_count in
      let a = ap length all_new in
      let b = (length_put p.0 p.1 (drop (cut_in_block r.at cut) (coded_points bytes ms))).0 in
      let d = length-drop (cut_in_block r.at cut) (coded_points bytes ms) in
      let e = c.total_is in
      omega arith

  replaced_anew : IsTime p.0 → IsCoded bytes (handles_replaced r ms)
  replaced_anew is =
      let rest : List (ℤ × ℤ) = drop (cut_in_block r.at cut) (coded_points bytes ms) in
      coded_anew bytes (handles_replaced r ms) replaced_blocks
      (subst IsRising (sym all_new) (rising-put rest (is_rising_behind (cut_in_block r.at cut) (coded_points bytes ms) c.coded.rising) p.0 p.1))
      (subst AreTimed (sym all_new) (timed-put rest (timed_behind (cut_in_block r.at cut) (coded_points bytes ms) c.coded.timed) p.0 p.1 is))

  pub replaced_points : drop (cut_after r.at cut) (coded_points bytes (handles_replaced r ms)) ≡ put int_cmp p.0 p.1 (drop cut (coded_points bytes ms))
  replaced_points = ap (drop (cut_after r.at cut)) new_is ∙ (whole r.at refl).1 ∙ ap (λ (x : List (ℤ × ℤ)). put int_cmp p.0 p.1 (drop cut x)) (sym old_is)

  cut_again : (at : ℕ) → r.at ≡ at → CutFits (cut_after at cut) (blocks_at bytes (handles_replaced r ms))
  cut_again zero e = subst (λ k. CutFits 0 (blocks_at bytes (take k ms ++ (blocks_of r ++ drop (r.at + 1) ms)))) (sym e) ((few_points (block_points_at bytes r.first) w.blocks.0.block.points_are).1)
  cut_again (suc k) e = subst (λ j. CutFits cut (blocks_at bytes (take j ms ++ (blocks_of r ++ drop (r.at + 1) ms)))) (sym e) (same_first ms f (subst (λ j. j < length ms) e w.within))
    where
      same_first : (ns : List BlockHandle) → CutFits cut (blocks_at bytes ns) → suc k < length ns → CutFits cut (blocks_at bytes (take (suc k) ns ++ (blocks_of r ++ drop (r.at + 1) ms)))
      same_first [] h l = absurd (omega arith)
      same_first (m ∷ ns) h l = h

  pub replaced_counted : IsTime p.0 → AreCountedBlocks bytes (handles_replaced r ms) (length (coded_points bytes (handles_replaced r ms)))
  replaced_counted is = record { coded = replaced_anew is; total_is = refl }

  pub replaced_cut : CutFits (cut_after r.at cut) (blocks_at bytes (handles_replaced r ms))
  replaced_cut = cut_again r.at refl
