use Rattle.std.proofs.Common.{rules, Fits, w64, ◌≡◌, ℤ, List, length, take, sym, ap, subst, ◌∙◌, arith}
use Rattle.std.proofs.Math.Seq.{take-length}
use Rattle.ts_raw.specs.declared.block_handle.BlockHandle.{BlockHandle}
use Rattle.ts_raw.specs.CodedPoints.{AreOrdered, AllEndBefore, IsLastBefore}
use Rattle.ts_raw.proofs.BlockLists.{ordered_again, ends_again}
use Rattle.ts_raw.proofs.ColumnBlocks.{ends_before}
use Rattle.ts_raw.proofs.SameLemmas.{same_twice}
use Rattle.ts_raw.proofs.coded_blocks.CodedBlocks.stage.Goals as goal

pub blocks_before-at-requires : goal.blocks_before-at-requires
blocks_before-at-requires g c =
    let moved = c.reserve_bytes.ensures.same in
    subst AreOrdered (sym c.as_slice-2.ensures.value) (ordered_again c.args.self.now.bytes.items c.reserve_bytes.new.self.bytes.items c.args.self.now.handles.items c.reserve_bytes.new.self.handles.items c.requires.sound.counted.coded.marked moved.laid.marked moved.blocks c.requires.sound.counted.coded.ordered)

pub returns-then-at-len-clause-same : goal.returns-then-at-len-clause-same
returns-then-at-len-clause-same g c = same_twice c.args.self.now c.reserve_bytes.new.self c.stage_last.new.self c.reserve_bytes.ensures.same c.stage_last.ensures.same

pub returns-then-at-len-clause-staged : goal.returns-then-at-len-clause-staged
returns-then-at-len-clause-staged g c =
    let t : ℤ = c.args.point.0 in
    let old = c.reserve_bytes.new.self in
    let new = c.stage_last.new.self in
    let ms : List BlockHandle = old.handles.items in
    let all : c.blocks_before-at.result ≡ length ms = omega (arith, c.if-at-len.true, c.len.ensures, old.handles.ok.0) in
    let parted : IsLastBefore t ms c.blocks_before-at.result = subst (λ (x : List BlockHandle). IsLastBefore t x c.blocks_before-at.result) c.as_slice-2.ensures.value c.blocks_before-at.ensures.parted in
    let later : AllEndBefore ms t = subst (λ (x : List BlockHandle). AllEndBefore x t) (ap (λ n. take n ms) all ∙ take-length ms) (ends_before t ms c.blocks_before-at.result (omega arith) parted) in
    let moved = c.stage_last.ensures.same in
    record {
      countable = let first = c.reserve_bytes.ensures.same.counts.0 in let second = moved.counts.0 in let fits : Fits w64 c.args.self.now.total = search rules in omega (arith, c.if-self.false, fits.fits);
      can = (ends_again t old.bytes.items new.bytes.items ms new.handles.items c.reserve_bytes.ensures.same.laid.marked moved.laid.marked moved.blocks later, c.in_ok-stage_last.ensures.room);
    }
