use Rattle.std.proofs.Common.{rules, ◌≡◌, ◌-◌, ◌<◌, ℕ, List, [], ◌∷◌, ◌++◌, length, take, vec_len, vec_capacity, ⊎_elim, sym, ap, subst, ◌∙◌, arith}
use Rattle.ts_raw.specs.declared.block_handle.BlockHandle.{BlockHandle}
use Rattle.ts_raw.specs.CodedPoints.{IsCoded, AllEndBefore, AllEndBy, AreApart, LastGrows, CutFits, block_points_at, coded_points, blocks_at}
use Rattle.ts_raw.proofs.PushLemmas.{all_split, parted_last, blocks_push, cut_longer, cut_more}
use Rattle.ts_raw.proofs.ApartLemmas.{others_by}
use Rattle.ts_raw.proofs.PushedBlocks.{Growing, growing, set_last, grown, grown_apart, grown_points, grown_blocks}
use Rattle.ts_raw.proofs.coded_blocks.CodedBlocks.push_later.Given.{Over}
use Rattle.ts_raw.proofs.coded_blocks.CodedBlocks.push_later.Goals.{After-index_mut}
use Rattle.ts_raw.proofs.coded_blocks.CodedBlocks.push_later.Goals as goal

last : (g : Over) (c : After-index_mut g) → Growing (vec_len c.args.self.now.bytes) c.args.self.now.handles.items (c.len-at.result - 1) c.index_mut.result.now
last g c =
    let ms : List BlockHandle = c.args.self.now.handles.items in
    let grows : LastGrows c.len.result c.as_slice.result.now = c.can_grow.ensures.0 (search rules) in
    let here : LastGrows (vec_len c.args.self.now.bytes) ms = subst (λ (x : List BlockHandle). LastGrows (vec_len c.args.self.now.bytes) x) c.as_slice.ensures.value (subst (λ n. LastGrows n c.as_slice.result.now) c.len.ensures grows) in
    let at : c.len-at.result - 1 ≡ length ms - 1 = omega (arith, c.len-at.ensures, c.args.self.now.handles.ok.0) in
    subst (Growing (vec_len c.args.self.now.bytes) ms (c.len-at.result - 1)) (sym c.index_mut.ensures.value) (growing (vec_len c.args.self.now.bytes) ms (c.len-at.result - 1) c.index_mut.result.now here at)

coded : (g : Over) (c : After-index_mut g) → IsCoded c.args.self.now.bytes.items (take (c.len-at.result - 1) c.args.self.now.handles.items ++ c.index_mut.result.now ∷ [])
coded g c = subst (IsCoded c.args.self.now.bytes.items) (last g c).split c.requires.coded

later : (g : Over) (c : After-index_mut g) → AllEndBefore (take (c.len-at.result - 1) c.args.self.now.handles.items ++ c.index_mut.result.now ∷ []) c.args.point.now.0
later g c = subst (λ (x : List BlockHandle). AllEndBefore x c.args.point.now.0) (last g c).split c.requires.later

lie_apart : (g : Over) (c : After-index_mut g) → AreApart (take (c.len-at.result - 1) c.args.self.now.handles.items ++ c.index_mut.result.now ∷ [])
lie_apart g c = subst AreApart (last g c).split c.requires.apart

apart : (g : Over) (c : After-index_mut g) → AllEndBy c.index_mut.result.now.start (take (c.len-at.result - 1) c.args.self.now.handles.items)
apart g c =
    let bytes : List ℕ = c.args.self.now.bytes.items in
    let ms : List BlockHandle = take (c.len-at.result - 1) c.args.self.now.handles.items in
    others_by bytes ms c.index_mut.result.now (parted_last bytes c.index_mut.result.now ms (coded g c).marked).0 (lie_apart g c) (omega (arith, (last g c).ends, c.args.self.now.bytes.ok.0))

pub push_block-requires-clause-handles_spare : goal.push_block-requires-clause-handles_spare
push_block-requires-clause-handles_spare g c =
    let ms : List BlockHandle = c.args.self.now.handles.items in
    let size : length c.args.self.now.bytes.items ≡ c.len.result = omega (arith, c.len.ensures, c.args.self.now.bytes.ok.0) in
    ⊎_elim {C = vec_len c.args.self.now.handles < vec_capacity c.args.self.now.handles}
    (λ h.
    let yes = c.can_grow.ensures.1 (subst (λ (x : List BlockHandle). LastGrows c.len.result x) (sym c.as_slice.ensures.value) (subst (λ n. LastGrows n ms) size h)) in
    absurd (search (rules, yes)))
    (λ h. h) c.requires.room.room

pub push_last-requires-clause-marked : goal.push_last-requires-clause-marked
push_last-requires-clause-marked g c =
    let at = (goal.at.push_last-requires-clause-marked g c).After-index_mut in
    (parted_last c.args.self.now.bytes.items c.index_mut.result.now (take (c.len-at.result - 1) c.args.self.now.handles.items) (coded g at).marked).1

pub push_last-requires-clause-later : goal.push_last-requires-clause-later
push_last-requires-clause-later g c =
    let at = (goal.at.push_last-requires-clause-later g c).After-index_mut in
    (all_split (take (c.len-at.result - 1) c.args.self.now.handles.items) c.args.point.now.0 c.index_mut.result.now (later g at)).1

pub push_last-requires-clause-few : goal.push_last-requires-clause-few
push_last-requires-clause-few g c = (last g (goal.at.push_last-requires-clause-few g c).After-index_mut).few

pub push_last-requires-clause-ends : goal.push_last-requires-clause-ends
push_last-requires-clause-ends g c = (last g (goal.at.push_last-requires-clause-ends g c).After-index_mut).ends

pub returns-clause-coded : goal.returns-clause-coded
returns-clause-coded g c =
    let a = (goal.at.returns-clause-coded g c).After-index_mut in
    let ms : List BlockHandle = take (c.len-at.result - 1) c.args.self.now.handles.items in
    subst (IsCoded c.push_last.new.bytes.items) (sym (set_last c.args.self.now.handles.items (c.len-at.result - 1) c.push_last.new.handle (last g a).some))
    (grown c.args.self.now.bytes.items c.push_last.new.bytes.items ms c.index_mut.result.now c.push_last.new.handle c.args.point.now (coded g a) (later g a) (apart g a) c.push_last.ensures.kept c.push_last.ensures.block)

pub returns-clause-apart : goal.returns-clause-apart
returns-clause-apart g c =
    let a = (goal.at.returns-clause-apart g c).After-index_mut in
    let bytes : List ℕ = c.args.self.now.bytes.items in
    let ms : List BlockHandle = take (c.len-at.result - 1) c.args.self.now.handles.items in
    subst AreApart (sym (set_last c.args.self.now.handles.items (c.len-at.result - 1) c.push_last.new.handle (last g a).some))
    (grown_apart bytes c.push_last.new.bytes.items ms c.index_mut.result.now c.push_last.new.handle c.args.point.now (coded g a) (later g a) (apart g a) c.push_last.ensures.kept c.push_last.ensures.block (lie_apart g a))

pub returns-clause-points : goal.returns-clause-points
returns-clause-points g c =
    let a = (goal.at.returns-clause-points g c).After-index_mut in
    let bytes : List ℕ = c.args.self.now.bytes.items in
    let new : List ℕ = c.push_last.new.bytes.items in
    let ms : List BlockHandle = take (c.len-at.result - 1) c.args.self.now.handles.items in
    ap (coded_points new) (set_last c.args.self.now.handles.items (c.len-at.result - 1) c.push_last.new.handle (last g a).some)
    ∙ grown_points bytes new ms c.index_mut.result.now c.push_last.new.handle c.args.point.now (coded g a) (later g a) (apart g a) c.push_last.ensures.kept c.push_last.ensures.block
    ∙ ap (λ (x : List BlockHandle). coded_points bytes x ++ c.args.point.now ∷ []) (sym (last g a).split)

pub returns-clause-cut : goal.returns-clause-cut
returns-clause-cut g c = λ cut h.
    let a = (goal.at.returns-clause-cut g c).After-index_mut in
    let bytes : List ℕ = c.args.self.now.bytes.items in
    let new : List ℕ = c.push_last.new.bytes.items in
    let ms : List BlockHandle = take (c.len-at.result - 1) c.args.self.now.handles.items in
    let m : BlockHandle = c.index_mut.result.now in
    let old = ap (blocks_at bytes) (last g a).split ∙ blocks_push bytes ms m in
    let now = ap (blocks_at new) (set_last c.args.self.now.handles.items (c.len-at.result - 1) c.push_last.new.handle (last g a).some)
    ∙ grown_blocks bytes new ms m c.push_last.new.handle c.args.point.now (coded g a) (later g a) (apart g a) c.push_last.ensures.kept c.push_last.ensures.block in
    subst (CutFits cut) (sym now) (cut_longer cut (blocks_at bytes ms) (block_points_at bytes m) c.args.point.now (subst (CutFits cut) old h))

pub returns-then-not-can_grow-clause-cut : goal.returns-then-not-can_grow-clause-cut
returns-then-not-can_grow-clause-cut g c = λ cut h.
    subst (CutFits cut) (sym c.push_block.ensures.blocks) (cut_more cut (blocks_at c.args.self.now.bytes.items c.args.self.now.handles.items) (c.args.point.now ∷ []) (omega arith) h)
