use Rattle.std.proofs.Common.{◌≡◌, ◌<◌, ◌≤ℤ◌, ℕ, ℤ, List, length, vec_len, take, drop, get_or, int_cmp, IfOk, refl, sym, ap, subst, ◌∙◌, arith}
use Rattle.std.specs.FinMap.{put}
use Rattle.ts_raw.specs.declared.block_handle.BlockHandle.{BlockHandle}
use Rattle.ts_raw.specs.CodedPoints.{IsBlockHandle, LieFrom, block_points_at, coded_points}
use Rattle.ts_raw.specs.Rewriting.{IsRewritten, blocks_of, cut_in_block}
use Rattle.ts_raw.proofs.BlockLists.{mark_at}
use Rattle.ts_raw.proofs.ReplacedBlocks.{rewritten_if_ok, reaches}
use Rattle.ts_raw.proofs.SameLemmas.{same_longer}
use Rattle.ts_raw.proofs.SplicedLemmas.{cut_less}
use Rattle.ts_raw.proofs.coded_blocks.CodedBlocks.stage_among.Given.{Over}
use Rattle.ts_raw.proofs.coded_blocks.CodedBlocks.stage_among.Goals.{After-cut_of}
use Rattle.ts_raw.proofs.coded_blocks.CodedBlocks.stage_among.Goals as goal

there : (g : Over) (c : After-cut_of g) → c.index.result.now ≡ get_or c.args.self.now.handles.items c.args.at c.index.result.now
there g c = c.index.ensures ∙ ap (λ (x : List BlockHandle). get_or x c.args.at c.index.result.now) c.reserve_eighth.ensures.items

pub rewrite-requires : goal.rewrite-requires
rewrite-requires g c =
    let at = (goal.at.rewrite-requires g c).After-cut_of in
    let ms : List BlockHandle = c.args.self.now.handles.items in
    let d : BlockHandle = c.index.result.now in
    record {
      marked = subst (IsBlockHandle c.args.self.now.bytes.items) (sym (there g at)) (mark_at c.args.self.now.bytes.items ms c.args.at d c.requires.laid.marked c.requires.within);
      skip = subst (λ n. n < d.count) (sym c.cut_of.ensures) (subst (λ (m : BlockHandle). cut_in_block c.args.at c.args.self.now.cut < m.count) (sym (there g at)) (cut_less c.args.self.now.bytes.items ms c.args.at c.args.self.now.cut d c.requires.laid.marked c.requires.cut c.requires.within));
      reached = subst (λ (m : BlockHandle). c.args.point.now.0 ≤ℤ m.last) (sym (there g at)) (reaches c.args.point.now.0 ms c.args.at d c.requires.within c.requires.at);
    }

pub returns-clause-rewritten : goal.returns-clause-rewritten
returns-clause-rewritten g c =
    let at = (goal.at.returns-clause-rewritten g c).After-cut_of in
    let old : List ℕ = c.args.self.now.bytes.items in
    let new : List ℕ = c.rewrite.new.bytes.items in
    let ms : List BlockHandle = c.args.self.now.handles.items in
    let p : ℤ × ℤ = c.args.point.now in
    let front : take (length old) new ≡ old = ap (λ n. take n new) (let n : length old ≡ vec_len c.args.self.now.bytes = omega (arith, c.args.self.now.bytes.ok.0) in n) ∙ c.rewrite.ensures.kept in
    let same : put int_cmp p.0 p.1 (drop c.cut_of.result (block_points_at old c.index.result.now)) ≡ put int_cmp p.0 p.1 (drop (cut_in_block c.args.at c.args.self.now.cut) (block_points_at old (get_or ms c.args.at c.index.result.now))) =
    λ i. put int_cmp p.0 p.1 (drop (c.cut_of.ensures i) (block_points_at old (there g at i))) in
    let points = subst (λ (x : List (ℤ × ℤ)). IfOk c.rewrite.result (λ n. coded_points new (blocks_of n) ≡ x)) same c.rewrite.ensures.points in
    let behind = subst (λ n. IfOk c.rewrite.result (λ r. LieFrom n (blocks_of r))) (let n : vec_len c.args.self.now.bytes ≡ length old = omega (arith, c.args.self.now.bytes.ok.0) in n) c.rewrite.ensures.behind in
    subst (λ (x : List BlockHandle). IfOk c.rewrite.result (λ n. IsRewritten new x c.args.self.now.cut p n)) (sym c.reserve_eighth.ensures.items)
    (rewritten_if_ok old new ms c.args.at c.args.self.now.cut c.index.result.now p c.rewrite.result c.requires.laid.marked c.requires.laid.apart c.requires.within c.requires.at c.rewrite.ensures.at c.rewrite.ensures.blocks behind points front)

pub returns-clause-same : goal.returns-clause-same
returns-clause-same g c = same_longer c.args.self.now _ c.requires.laid (omega (arith, c.args.self.now.bytes.ok.0)) c.rewrite.ensures.kept c.reserve_eighth.ensures.items (refl, refl)
