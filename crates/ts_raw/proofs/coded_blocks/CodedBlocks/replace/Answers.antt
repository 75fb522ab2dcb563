use Rattle.std.proofs.Common.{List, length, drop, sym, subst, ◌∙◌}
use Rattle.ts_raw.specs.declared.block_handle.BlockHandle.{BlockHandle}
use Rattle.ts_raw.specs.CodedPoints.{AreCountedBlocks, AreApart, CutFits, blocks_at, coded_points}
use Rattle.ts_raw.specs.Rewriting.{handles_replaced, cut_after}
use Rattle.ts_raw.proofs.RewriteLemmas.{counts_are}
use Rattle.ts_raw.proofs.ReplacedBlocks.{replaced_few, replaced_count, replaced_points, replaced_counted, replaced_cut}
use Rattle.ts_raw.proofs.coded_blocks.CodedBlocks.replace.Goals as goal

pub replace_handles-self-requires-clause-total : goal.replace_handles-self-requires-clause-total
replace_handles-self-requires-clause-total g c = c.requires.sound.counted.total_is ∙ sym (counts_are c.args.self.now.bytes.items c.args.self.now.handles.items c.requires.sound.counted.coded.marked)

pub replace_handles-self-requires-clause-few : goal.replace_handles-self-requires-clause-few
replace_handles-self-requires-clause-few g c =
    let b = c.args.self.now in
    let s = c.requires.staged.2 in
    replaced_few b.bytes.items b.handles.items b.total b.cut c.requires.staged.0 c.args.new.now c.requires.sound.counted c.requires.sound.cut_fits s.can.0 s.countable

pub returns-clause-sound : goal.returns-clause-sound
returns-clause-sound g c =
    let b = c.args.self.now in
    let bytes = b.bytes.items in
    let ms : List BlockHandle = b.handles.items in
    let r = c.args.new.now in
    let p = c.requires.staged.0 in
    let is = c.requires.staged.2.can.0 in
    let sound = c.requires.sound in
    let handles = c.replace_handles-self.ensures.handles in
    let now : List BlockHandle = c.replace_handles-self.new.handles.items in
    let total = c.replace_handles-self.ensures.total ∙ replaced_count bytes ms b.total b.cut p r sound.counted sound.cut_fits is in
    record {
      counted =
          subst (AreCountedBlocks bytes now) (sym total)
          (subst (λ (x : List BlockHandle). AreCountedBlocks bytes x (length (coded_points bytes (handles_replaced r ms)))) (sym handles) (replaced_counted bytes ms b.total b.cut p r sound.counted sound.cut_fits is c.requires.staged.1));
      apart = subst AreApart (sym handles) is.apart;
      cut_fits =
          subst (λ n. CutFits n (blocks_at bytes now)) (sym c.cut_left-self.ensures)
          (subst (λ (x : List BlockHandle). CutFits (cut_after r.at b.cut) (blocks_at bytes x)) (sym handles) (replaced_cut bytes ms b.total b.cut p r sound.counted sound.cut_fits is));
    }

pub returns-clause-points : goal.returns-clause-points
returns-clause-points g c = λ p staged.
    let b = c.args.self.now in
    let bytes = b.bytes.items in
    (λ i. drop (c.cut_left-self.ensures i) (coded_points bytes (c.replace_handles-self.ensures.handles i)))
    ∙ replaced_points bytes b.handles.items b.total b.cut p c.args.new.now c.requires.sound.counted c.requires.sound.cut_fits staged.can.0
