use Rattle.std.proofs.Common.{rules, ◌≡◌, ◌<◌, ℕ, List, [], ◌∷◌, ◌++◌, length, sym, ap, subst, ◌∙◌, arith}
use Rattle.ts_raw.specs.declared.block_handle.BlockHandle.{BlockHandle}
use Rattle.ts_raw.specs.CodedPoints.{block_text_at, IsBlockHandle, AreBlocks, AreApart, blocks_at}
use Rattle.ts_raw.proofs.ApartLemmas.{apart_push}
use Rattle.ts_raw.proofs.PushLemmas.{all_within}
use Rattle.ts_raw.proofs.BlockLists.{mark_at, copied_more}
use Rattle.ts_raw.proofs.relocating.copy_blocks.Goals as goal

pub text_of-requires : goal.text_of-requires
text_of-requires g c = subst (IsBlockHandle c.args.bytes.now) (sym c.handle-item.is) (mark_at c.args.bytes.now c.args.handles.now c.loop-handle.handle-index c.handle-item.result c.requires (search rules))

pub loop-handle-preserved : goal.loop-handle-preserved
loop-handle-preserved g c =
    let src : List ℕ = c.args.bytes.now in
    let all : List BlockHandle = c.args.handles.now in
    let m : BlockHandle = c.handle-item.result in
    let old : List ℕ = c.loop-handle.new_bytes.items in
    let new : List ℕ = c.extend_from_slice.new.self.items in
    let ms : List BlockHandle = c.loop-handle.new_handles.items in
    let n : BlockHandle = record m { start = c.len-start.result; end = c.len.result } in
    let l : c.loop-handle.handle-index < length all = search rules in
    let start : c.len-start.result ≡ length old = omega (arith, c.len-start.ensures, c.loop-handle.new_bytes.ok.0) in
    let end : c.len.result ≡ length new = omega (arith, c.len.ensures, c.extend_from_slice.new.self.ok.0) in
    let is : new ≡ old ++ block_text_at src m = c.in_ok-extend_from_slice.ensures.items ∙ ap (λ (x : List ℕ). old ++ x) c.text_of.ensures in
    let items : c.push.new.self.items ≡ ms ++ (n ∷ []) = c.in_ok-push.ensures.items in
    let there = c.handle-item.is in
    let both = copied_more src old new all ms c.loop-handle.handle-index n m c.requires l c.loop-handle.invariant.marked c.loop-handle.invariant.blocks (is ∙ ap (λ x. old ++ block_text_at src x) there) start end (ap (λ (x : BlockHandle). x.values) there) (ap (λ (x : BlockHandle). x.count) there) (ap (λ (x : BlockHandle). x.last) there) (ap (λ (x : BlockHandle). x.spacing) there) (ap (λ (x : BlockHandle). x.summary) there) in
    record {
      marked = subst (AreBlocks new) (sym items) both.0;
      apart = subst AreApart (sym items) (apart_push (length old) ms n c.loop-handle.invariant.apart (all_within old ms c.loop-handle.invariant.marked) (omega arith));
      blocks = ap (blocks_at new) items ∙ both.1;
    }
