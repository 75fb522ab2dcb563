use Rattle.std.proofs.Common.{◌≡◌, ◌-◌, get_or, ℕ, List, [], ◌∷◌, ◌++◌, length, sym, ap, subst, refl, ◌∙◌, arith, is_ok, if◌then◌else◌, option_to_list}
use Rattle.std.proofs.lemmas.Bool.{ltb-true}
use Rattle.ts_raw.specs.declared.block_handle.BlockHandle.{BlockHandle}
use Rattle.ts_raw.specs.CodedPoints.{block_text_at, IsBlockHandle, AreBlocks, AreApart, blocks_at}
use Rattle.ts_raw.proofs.PushLemmas.{parted_last}
use Rattle.ts_raw.proofs.BlockLists.{mark_at, moved_marked, moved_blocks, moved_apart}
use Rattle.ts_raw.proofs.coded_blocks.CodedBlocks.move_last.Given.{Over}
use Rattle.ts_raw.proofs.coded_blocks.CodedBlocks.move_last.Goals.{After-unwrap-handle, After-unwrap-2}
use Rattle.ts_raw.proofs.coded_blocks.CodedBlocks.move_last.Goals as goal

pub overflow_sub-handle : goal.overflow_sub-handle
overflow_sub-handle g c =
    let ms : List BlockHandle = c.args.self.now.handles.items in
    let there : c.in-Some.handle.now ≡ get_or ms (length ms - 1) c.in-Some.handle.now = subst (λ (x : List BlockHandle). c.in-Some.handle.now ≡ get_or x (length x - 1) c.in-Some.handle.now) c.deref.ensures.value c.in-Some.ensures.item.1 in
    let some = ltb-true 0 (length c.deref.result.now) (sym c.in-Some.ensures.item.0) in
    let same = ap length c.deref.ensures.value in
    let is = subst (IsBlockHandle c.args.self.now.bytes.items) (sym there) (mark_at c.args.self.now.bytes.items ms (length ms - 1) c.in-Some.handle.now c.requires.laid.marked (omega arith)) in
    let s = is.some in
    omega arith

items : (g : Over) (c : After-unwrap-handle g) → c.args.self.now.handles.items ≡ c.pop.new.self.items ++ (c.unwrap-handle.result ∷ [])
items g c = c.pop.ensures.items ∙ ap (λ r. c.pop.new.self.items ++ option_to_list r) c.unwrap-handle.ensures

marked : (g : Over) (c : After-unwrap-handle g) → AreBlocks c.args.self.now.bytes.items (c.pop.new.self.items ++ (c.unwrap-handle.result ∷ []))
marked g c = subst (AreBlocks c.args.self.now.bytes.items) (items g c) c.requires.laid.marked

pub extend_from_within-requires-clause-start_le_end : goal.extend_from_within-requires-clause-start_le_end
extend_from_within-requires-clause-start_le_end g c =
    let at = (goal.at.extend_from_within-requires-clause-start_le_end g c).After-unwrap-handle in
    let s = (parted_last c.args.self.now.bytes.items c.unwrap-handle.result c.pop.new.self.items (marked g at)).1.some in
    omega arith

pub extend_from_within-requires-clause-in_bounds : goal.extend_from_within-requires-clause-in_bounds
extend_from_within-requires-clause-in_bounds g c =
    let at = (goal.at.extend_from_within-requires-clause-in_bounds g c).After-unwrap-handle in
    let s = (parted_last c.args.self.now.bytes.items c.unwrap-handle.result c.pop.new.self.items (marked g at)).1.within in
    let size = ap length c.reserve_eighth.ensures.items in
    omega (arith, s, size, c.reserve_eighth.new.list.ok.0)

moved : (g : Over) (c : After-unwrap-2 g) → BlockHandle
moved g c = record c.unwrap-handle.result { start = c.len-start.result; end = c.len.result }

bytes_are : (g : Over) (c : After-unwrap-2 g) → c.extend_from_within.new.self.items ≡ c.args.self.now.bytes.items ++ block_text_at c.args.self.now.bytes.items c.unwrap-handle.result
bytes_are g c =
    c.extend_from_within.ensures.items
    ∙ ap (λ r. if is_ok r then c.reserve_eighth.new.list.items ++ block_text_at c.reserve_eighth.new.list.items c.unwrap-handle.result else c.reserve_eighth.new.list.items) c.unwrap.ensures
    ∙ ap (λ (x : List ℕ). x ++ block_text_at x c.unwrap-handle.result) c.reserve_eighth.ensures.items

marks_are : (g : Over) (c : After-unwrap-2 g) → c.push.new.self.items ≡ c.pop.new.self.items ++ (moved g c ∷ [])
unfolding moved
marks_are g c = c.push.ensures.items ∙ ap (λ r. if is_ok r then c.pop.new.self.items ++ (moved g c ∷ []) else c.pop.new.self.items) c.unwrap-2.ensures

start_is : (g : Over) (c : After-unwrap-2 g) → c.len-start.result ≡ length c.args.self.now.bytes.items
start_is g c = let e = ap length c.reserve_eighth.ensures.items in omega (arith, e, c.len-start.ensures, c.reserve_eighth.new.list.ok.0)

end_is : (g : Over) (c : After-unwrap-2 g) → c.len.result ≡ length c.extend_from_within.new.self.items
end_is g c = omega (arith, c.len.ensures, c.extend_from_within.new.self.ok.0)

pub returns : goal.returns
unfolding moved
returns g c =
    let a = goal.at.returns g c in
    let at = a.After-unwrap-2 in
    let old : List ℕ = c.args.self.now.bytes.items in
    let new : List ℕ = c.extend_from_within.new.self.items in
    let ms : List BlockHandle = c.pop.new.self.items in
    let m : BlockHandle = c.unwrap-handle.result in
    let was = marked g a.After-unwrap-handle in
    record {
      same = record {
        laid = record {
          marked = subst (AreBlocks new) (sym (marks_are g at)) (moved_marked old new ms m (moved g at) was (bytes_are g at) (start_is g at) (end_is g at) refl refl refl refl refl);
          apart = subst AreApart (sym (marks_are g at)) (moved_apart old new ms m (moved g at) was (bytes_are g at) (start_is g at) (end_is g at) refl refl refl refl refl (subst AreApart (items g a.After-unwrap-handle) c.requires.laid.apart));
        };
        counts = (refl, refl);
        blocks = ap (blocks_at new) (marks_are g at) ∙ moved_blocks old new ms m (moved g at) was (bytes_are g at) (start_is g at) (end_is g at) refl refl refl refl refl ∙ ap (blocks_at old) (sym (items g a.After-unwrap-handle));
      };
    }
