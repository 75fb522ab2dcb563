use Rattle.std.proofs.Common.{◌≡◌, ℕ, List, [], ◌∷◌, ◌++◌, ◌+◌, ◌≤◌, length, vec_len, take, ◌∙◌, ap, sym, subst, refl, arith, rules, SFits, w64, to_z-of_z}
use Rattle.ts_core.specs.aggregates.Aggregates.{aggregate_of_one}
use Rattle.ts_block.specs.Appending.{EndsInBlock}
use Rattle.ts_raw.specs.declared.block_handle.BlockHandle.{BlockHandle}
use Rattle.ts_raw.specs.CodedPoints.{coded_points, blocks_at, IsCoded, AreApart}
use Rattle.ts_raw.specs.Rewriting.{IsEncoded}
use Rattle.ts_raw.proofs.PushLemmas.{all_within, new_mark, summary_of_one}
use Rattle.ts_raw.proofs.ApartLemmas.{apart_push}
use Rattle.ts_raw.proofs.PushedBlocks.{begun, begun_points, begun_blocks}
use Rattle.ts_raw.proofs.coded_blocks.CodedBlocks.push_block.Given.{Over}
use Rattle.ts_raw.proofs.coded_blocks.CodedBlocks.push_block.Goals.{After-push_reserved}
use Rattle.ts_raw.proofs.coded_blocks.CodedBlocks.push_block.Goals as goal

handle : (g : Over) (c : After-push_reserved g) → BlockHandle
handle g c = record {
  start = c.len-start.result;
  values = 9;
  end = c.len.result;
  count = 1;
  last = c.args.point.now.0;
  spacing = 0;
  summary = c.single.result;
}

kept : (g : Over) (c : After-push_reserved g) → take (length c.args.self.now.bytes.items) c.begin.new.bytes.items ≡ c.args.self.now.bytes.items
kept g c = ap (λ n. take n c.begin.new.bytes.items) (let n : length c.args.self.now.bytes.items ≡ vec_len c.args.self.now.bytes = omega (arith, c.args.self.now.bytes.ok.0) in n) ∙ c.begin.ensures.before

encoded : (g : Over) (c : After-push_reserved g) → IsEncoded c.len-start.result c.begin.new.bytes.items (handle g c) (c.args.point.now ∷ [])
unfolding handle
encoded g c =
    let new : List ℕ = c.begin.new.bytes.items in
    let end : c.len.result ≡ length new = omega (arith, c.len.ensures, c.begin.new.bytes.ok.0) in
    let block : EndsInBlock new c.len-start.result (c.len-start.result + 9) c.args.point.now.0 (c.args.point.now ∷ []) =
    subst (λ n. EndsInBlock new n (n + 9) c.args.point.now.0 (c.args.point.now ∷ [])) (let n : vec_len c.args.self.now.bytes ≡ c.len-start.result = omega (arith, c.len-start.ensures) in n) c.begin.ensures.ends in
    let fits : SFits w64 c.args.point.now.1 = search rules in
    let one = c.single.ensures ∙ ap (aggregate_of_one c.args.point.now.0) (to_z-of_z fits) in
    let both = new_mark new (handle g c) (c.args.point.now ∷ []) block end refl tt (one ∙ summary_of_one c.args.point.now) in
    record { starts = omega arith; handle = both.0; points_are = both.1 }

items : (g : Over) (c : After-push_reserved g) → c.push_reserved.new.self.items ≡ c.args.self.now.handles.items ++ handle g c ∷ []
unfolding handle
items g c = c.push_reserved.ensures.items

pub returns-clause-coded : goal.returns-clause-coded
returns-clause-coded g c =
    let at = (goal.at.returns-clause-coded g c).After-push_reserved in
    subst (IsCoded c.begin.new.bytes.items) (sym (items g at))
    (begun c.args.self.now.bytes.items c.begin.new.bytes.items c.args.self.now.handles.items (handle g at) c.args.point.now c.requires.coded c.requires.later (kept g at) (encoded g at))

pub returns-clause-points : goal.returns-clause-points
returns-clause-points g c =
    let at = (goal.at.returns-clause-points g c).After-push_reserved in
    ap (coded_points c.begin.new.bytes.items) (items g at)
    ∙ begun_points c.args.self.now.bytes.items c.begin.new.bytes.items c.args.self.now.handles.items (handle g at) c.args.point.now c.requires.coded c.requires.later (kept g at) (encoded g at)

pub returns-clause-blocks : goal.returns-clause-blocks
returns-clause-blocks g c =
    let at = (goal.at.returns-clause-blocks g c).After-push_reserved in
    ap (blocks_at c.begin.new.bytes.items) (items g at)
    ∙ begun_blocks c.args.self.now.bytes.items c.begin.new.bytes.items c.args.self.now.handles.items (handle g at) c.args.point.now c.requires.coded c.requires.later (kept g at) (encoded g at)

pub returns-clause-apart : goal.returns-clause-apart
unfolding handle
returns-clause-apart g c =
    let at = (goal.at.returns-clause-apart g c).After-push_reserved in
    let bytes : List ℕ = c.args.self.now.bytes.items in
    let start : length bytes ≤ c.len-start.result = omega (arith, c.len-start.ensures, c.args.self.now.bytes.ok.0) in
    subst AreApart (sym (items g at)) (apart_push (length bytes) c.args.self.now.handles.items (handle g at) c.requires.apart (all_within bytes c.args.self.now.handles.items c.requires.coded.marked) start)
