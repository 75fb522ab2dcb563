use Rattle.std.proofs.Common.{rules, ◌≡◌, ◌<ℤ◌, ℤ, List, length, sym, subst, ◌∙◌}
use Rattle.std.specs.List.{AllByRecursion}
use Rattle.std.proofs.lemmas.Bool.{ltb-true}
use Rattle.std.proofs.lemmas.List.{nil_from_length}
use Rattle.ts_raw.specs.declared.block_handle.BlockHandle.{BlockHandle}
use Rattle.ts_raw.specs.CodedPoints.{AreOrdered, AllEndBefore, coded_points}
use Rattle.ts_raw.specs.CodedBlocks.{points_of_blocks}
use Rattle.ts_raw.proofs.ColumnBlocks.{all_dropped}
use Rattle.ts_raw.proofs.PointMaps.{less_is}
use Rattle.ts_raw.proofs.PushLemmas.{behind_last, coded_less, less_from}
use Rattle.ts_raw.proofs.coded_blocks.CodedBlocks.end_before.Given.{Over}
use Rattle.ts_raw.proofs.coded_blocks.CodedBlocks.end_before.Goals.{After-deref}
use Rattle.ts_raw.proofs.coded_blocks.CodedBlocks.end_before.Goals as goal

-- if all blocks end before the time, so do the points that are left
earlier : (g : Over) (c : After-deref g) → AllEndBefore c.deref.result.now c.args.time → AllByRecursion (λ (p : ℤ × ℤ). p.0 <ℤ c.args.time) (points_of_blocks c.args.self.now)
earlier g c ends =
    let b = c.args.self.now in
    all_dropped c.args.time b.cut (coded_points b.bytes.items b.handles.items)
    (coded_less b.bytes.items c.args.time b.handles.items c.requires.sound.counted.coded.marked (subst (λ (ms : List BlockHandle). AllEndBefore ms c.args.time) c.deref.ensures.value ends))

pub returns-in-Some : goal.returns-in-Some
returns-in-Some g c = λ later.
    let ms : List BlockHandle = c.deref.result.now in
    let ordered : AreOrdered ms = subst AreOrdered (sym c.deref.ensures.value) c.requires.sound.counted.coded.ordered in
    earlier g (goal.at.returns-in-Some g c).After-deref
    (behind_last ms c.in-Some.handle.now c.args.time ordered c.in-Some.ensures.item.1 (ltb-true 0 (length ms) (sym c.in-Some.ensures.item.0)) (less_from _ _ (less_is _ (sym c.lt.ensures ∙ later))))

pub returns-in-None : goal.returns-in-None
returns-in-None g c = λ _.
    let none : length c.deref.result.now ≡ 0 = search rules in
    earlier g (goal.at.returns-in-None g c).After-deref (subst (λ (ms : List BlockHandle). AllEndBefore ms c.args.time) (sym (nil_from_length c.deref.result.now none)) tt)
