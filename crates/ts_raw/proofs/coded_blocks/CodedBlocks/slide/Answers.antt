use Rattle.std.proofs.Common.{◌≡◌, ◌+◌, ◌-◌, ◌≤◌, ℕ, List, ◌++◌, length, take, drop, append-nil, refl, sym, ap, subst, ◌∙◌, arith}
use Rattle.std.proofs.Math.Seq.{take-length}
use Rattle.std.proofs.Math.ListN.{drop_of_length-le}
use Rattle.std.specs.List.{copy_within}
use Rattle.ts_raw.specs.declared.block_handle.BlockHandle.{BlockHandle}
use Rattle.ts_raw.specs.CodedPoints.{AreBlocks, AreApart, blocks_at}
use Rattle.ts_raw.specs.Sliding.{IsNextBlock, AllStartBefore, bytes_in_blocks}
use Rattle.ts_raw.proofs.SlidingLemmas.{sliding_first, sliding_next, slid_marked, slid_blocks, slid_packed}
use Rattle.ts_raw.proofs.coded_blocks.CodedBlocks.slide.Given.{Over}
use Rattle.ts_raw.proofs.coded_blocks.CodedBlocks.slide.Goals.{After-shrink_to_fit-2}
use Rattle.ts_raw.proofs.coded_blocks.CodedBlocks.slide.Goals as goal

pub loop-at-init : goal.loop-at-init
loop-at-init g c = record {
  sliding = sliding_first c.args.self.now.bytes.items c.args.self.now.handles.items c.requires.laid.marked c.requires.laid.apart;
  counts = (refl, refl);
}

pub loop-at-preserved : goal.loop-at-preserved
loop-at-preserved g c =
    let bytes : List ℕ = c.loop-at.self.bytes.items in
    let ms : List BlockHandle = c.loop-at.self.handles.items in
    let m : BlockHandle = c.index-handle.result.now in
    let copied : List ℕ = c.copy_within.new.self in
    let next : IsNextBlock c.loop-at.from ms c.in-Some.at = subst (λ (x : List BlockHandle). IsNextBlock c.loop-at.from x c.in-Some.at) c.as_slice.ensures.value c.in-Some.ensures.next in
    let is : copied ≡ copy_within bytes m.start m.end c.loop-at.to = c.copy_within.ensures.after ∙ ap (λ (x : List ℕ). copy_within x m.start m.end c.loop-at.to) c.as_mut_slice.ensures.value in
    let n : BlockHandle = record m { start = c.loop-at.to; end = c.loop-at.to + (m.end - m.start) } in
    let size = ap length c.as_mut_slice.ensures.value in
    let back = whole copied bytes c.loop-at.self.bytes.len (omega (arith, size, c.copy_within.ensures.len)) (omega (arith, size, c.copy_within.ensures.len, c.loop-at.self.bytes.ok.0)) in
    record {
      sliding = sliding_next c.args.self.now.bytes.items c.args.self.now.handles.items bytes _ ms c.loop-at.to c.loop-at.from c.in-Some.at m n c.loop-at.invariant.sliding next c.index-handle.ensures (back ∙ is) refl refl refl refl refl refl refl;
      counts = c.loop-at.invariant.counts;
    }
  where
    whole : (xs ys : List ℕ) (n : ℕ) → length xs ≡ length ys → n ≡ length xs → take n (xs ++ drop (length xs) ys) ≡ xs
    whole xs ys n l e = (λ i. take (e i) (xs ++ drop_of_length-le ys (let k : length ys ≤ length xs = omega arith in k) i)) ∙ ap (take (length xs)) (append-nil xs) ∙ take-length xs

none : (g : Over) (c : After-shrink_to_fit-2 g) → AllStartBefore c.loop-at.from c.loop-at.self.handles.items
none g c = subst (AllStartBefore c.loop-at.from) c.as_slice.ensures.value (c.next_block.ensures.none c.in_default.is)

cut : (g : Over) (c : After-shrink_to_fit-2 g) → c.shrink_to_fit.new.self.items ≡ take c.loop-at.to c.loop-at.self.bytes.items
cut g c = c.shrink_to_fit.ensures.items ∙ c.truncate.ensures.items

pub returns-clause-same : goal.returns-clause-same
returns-clause-same g c =
    let at = (goal.at.returns-clause-same g c).After-shrink_to_fit-2 in
    let old : List ℕ = c.args.self.now.bytes.items in
    let was : List BlockHandle = c.args.self.now.handles.items in
    let bytes : List ℕ = c.loop-at.self.bytes.items in
    let new : List ℕ = c.shrink_to_fit.new.self.items in
    let ms : List BlockHandle = c.loop-at.self.handles.items in
    let sliding = c.loop-at.invariant.sliding in
    record {
      laid = record {
        marked = subst (AreBlocks new) (sym c.shrink_to_fit-2.ensures.items) (slid_marked old was bytes new ms c.loop-at.to c.loop-at.from sliding (none g at) (cut g at));
        apart = subst AreApart (sym c.shrink_to_fit-2.ensures.items) sliding.apart;
      };
      counts = c.loop-at.invariant.counts;
      blocks = ap (blocks_at new) c.shrink_to_fit-2.ensures.items ∙ slid_blocks old was bytes new ms c.loop-at.to c.loop-at.from sliding (none g at) (cut g at);
    }

pub returns-clause-packed : goal.returns-clause-packed
returns-clause-packed g c =
    let at = (goal.at.returns-clause-packed g c).After-shrink_to_fit-2 in
    let packed = slid_packed c.args.self.now.bytes.items c.args.self.now.handles.items c.loop-at.self.bytes.items c.shrink_to_fit.new.self.items c.loop-at.self.handles.items c.loop-at.to c.loop-at.from c.loop-at.invariant.sliding (none g at) (cut g at) in
    let same = ap bytes_in_blocks c.shrink_to_fit-2.ensures.items in
    omega arith
