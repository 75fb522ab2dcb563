use Rattle.std.proofs.Common.{ℤ, List, [], ◌∷◌, length, drop, sym, ap, subst, ◌∙◌, arith}
use Rattle.std.proofs.lemmas.List.{length_push, drop-append-le}
use Rattle.ts_raw.specs.CodedPoints.{CutFits, blocks_at, coded_points}
use Rattle.ts_raw.proofs.ColumnBlocks.{cut_within}
use Rattle.ts_raw.proofs.coded_blocks.CodedBlocks.append.Goals as goal

pub returns-clause-sound : goal.returns-clause-sound
returns-clause-sound g c =
    let old = c.args.self.now in
    let new = c.push_later.new.self in
    record {
      counted = record {
        coded = c.push_later.ensures.coded;
        total_is = let a = ap length c.push_later.ensures.points in let b = length_push (coded_points old.bytes.items old.handles.items) c.args.point.now in let t = c.requires.sound.counted.total_is in let k = c.push_later.ensures.counts.0 in omega arith;
      };
      apart = c.push_later.ensures.apart;
      cut_fits = subst (λ n. CutFits n (blocks_at new.bytes.items new.handles.items)) (sym c.push_later.ensures.counts.1) (c.push_later.ensures.cut old.cut c.requires.sound.cut_fits);
    }

pub returns-clause-points : goal.returns-clause-points
returns-clause-points g c =
    let old = c.args.self.now in
    let points : List (ℤ × ℤ) = coded_points old.bytes.items old.handles.items in
    (λ i. drop (c.push_later.ensures.counts.1 i) (c.push_later.ensures.points i)) ∙ drop-append-le old.cut points (c.args.point.now ∷ []) (cut_within old.bytes.items old.handles.items old.cut c.requires.sound.cut_fits)
