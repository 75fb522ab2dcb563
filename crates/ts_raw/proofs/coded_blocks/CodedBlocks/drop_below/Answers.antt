use Rattle.std.proofs.Common.{rules, ◌≡◌, ℕ, ℤ, List, length, drop, filter, int_le, sym, ap, subst, ◌∙◌, arith, SFits, w64, to_z-of_z}
use Rattle.ts_raw.specs.declared.block_handle.BlockHandle.{BlockHandle}
use Rattle.ts_raw.specs.CodedPoints.{AreApart, AreCountedBlocks, CutFits, blocks_at, coded_points}
use Rattle.ts_raw.proofs.ApartLemmas.{apart_behind}
use Rattle.ts_raw.proofs.SplicedLemmas.{none_behind}
use Rattle.ts_raw.proofs.RewriteLemmas.{counts_are}
use Rattle.ts_raw.proofs.ColumnBlocks.{dropped_counted, rest_count, sound_none, points_none, sound_again, points_again}
use Rattle.ts_raw.proofs.coded_blocks.CodedBlocks.drop_below.Given.{Over}
use Rattle.ts_raw.proofs.coded_blocks.CodedBlocks.drop_below.Goals.{After-position-at, After-remove_front-self}
use Rattle.ts_raw.proofs.coded_blocks.CodedBlocks.drop_below.Goals as goal

pub remove_front-self-requires-clause-total : goal.remove_front-self-requires-clause-total
remove_front-self-requires-clause-total g c = c.requires.sound.counted.total_is ∙ sym (counts_are c.args.self.now.bytes.items c.args.self.now.handles.items c.requires.sound.counted.coded.marked)

-- the blocks that are left, before they slide
counted : (g : Over) (c : After-remove_front-self g) → AreCountedBlocks c.args.self.now.bytes.items c.remove_front-self.new.handles.items c.remove_front-self.result
counted g c =
    let bytes : List ℕ = c.args.self.now.bytes.items in
    let ms : List BlockHandle = c.args.self.now.handles.items in
    let at : ℕ = c.position-at.result.0 in
    let total = c.remove_front-self.ensures.total ∙ rest_count bytes at ms c.requires.sound.counted.coded.marked in
    subst (AreCountedBlocks bytes c.remove_front-self.new.handles.items) (sym total)
    (subst (λ (x : List BlockHandle). AreCountedBlocks bytes x (length (coded_points bytes (drop at ms)))) (sym c.remove_front-self.ensures.handles) (dropped_counted bytes ms c.args.self.now.total at c.requires.sound.counted))

apart : (g : Over) (c : After-remove_front-self g) → AreApart c.remove_front-self.new.handles.items
apart g c = subst AreApart (sym c.remove_front-self.ensures.handles) (apart_behind c.position-at.result.0 c.args.self.now.handles.items c.requires.sound.apart)

cut_fits : (g : Over) (c : After-remove_front-self g) → CutFits c.position-at.result.1 (blocks_at c.args.self.now.bytes.items c.remove_front-self.new.handles.items)
cut_fits g c =
    let at : ℕ = c.position-at.result.0 in
    let cut : ℕ = c.position-at.result.1 in
    subst (λ (x : List BlockHandle). CutFits cut (blocks_at c.args.self.now.bytes.items x)) (sym c.remove_front-self.ensures.handles)
    (subst (λ (x : List ℕ). CutFits cut (blocks_at x (drop at c.args.self.now.handles.items))) c.as_slice.ensures.value (subst (λ (x : List BlockHandle). CutFits cut (blocks_at c.as_slice.result.now (drop at x))) c.as_slice-2.ensures.value c.position-at.ensures.cut))

pub pack-requires : goal.pack-requires
pack-requires g c = let a = (goal.at.pack-requires g c).After-remove_front-self in record { laid = record { marked = (counted g a).coded.marked; apart = apart g a } }

pub returns-clause-sound : goal.returns-clause-sound
returns-clause-sound g c =
    let a = (goal.at.returns-clause-sound g c).After-remove_front-self in
    sound_again _ c.pack.new.self (record { counted = counted g a; apart = apart g a; cut_fits = cut_fits g a }) c.pack.ensures.same

left : (g : Over) (c : After-position-at g) → drop c.position-at.result.1 (coded_points c.args.self.now.bytes.items (drop c.position-at.result.0 c.args.self.now.handles.items)) ≡ filter (λ (p : ℤ × ℤ). int_le c.args.time p.0) (drop c.args.self.now.cut (coded_points c.args.self.now.bytes.items c.args.self.now.handles.items))
left g c =
    let fits : SFits w64 c.args.time = search rules in
    (λ i. drop c.position-at.result.1 (coded_points (sym c.as_slice.ensures.value i) (drop c.position-at.result.0 (sym c.as_slice-2.ensures.value i)))) ∙ c.position-at.ensures.points
    ∙ (λ i. filter (λ (p : ℤ × ℤ). int_le (to_z-of_z fits i) p.0) (drop c.args.self.now.cut (coded_points (c.as_slice.ensures.value i) (c.as_slice-2.ensures.value i))))

pub returns-clause-points : goal.returns-clause-points
returns-clause-points g c =
    let at = (goal.at.returns-clause-points g c).After-position-at in
    points_again _ c.pack.new.self c.pack.ensures.same ∙ ap (λ (x : List BlockHandle). drop c.position-at.result.1 (coded_points c.args.self.now.bytes.items x)) c.remove_front-self.ensures.handles ∙ left g at

pub returns-then-at-len-clause-sound : goal.returns-then-at-len-clause-sound
returns-then-at-len-clause-sound g c = sound_none c.clear.new.self c.clear.ensures.none

pub returns-then-at-len-clause-points : goal.returns-then-at-len-clause-points
returns-then-at-len-clause-points g c =
    let a = (goal.at.returns-then-at-len-clause-points g c).After-position-at in
    let b = c.args.self.now in
    points_none c.clear.new.self c.clear.ensures.none
    ∙ sym (none_behind b.bytes.items b.handles.items c.position-at.result.0 c.position-at.result.1 (omega (arith, c.if-at-len.true, c.len.ensures, b.handles.ok.0)))
    ∙ left g a
