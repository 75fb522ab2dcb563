use Rattle.std.proofs.Common.{◌≡◌, ◌∙◌, ap, subst, ◌/◌, ℕ, ℤ, List, length, take, drop, vec_len, arith}
use Rattle.ts_raw.specs.CodedPoints.{block_points_at}
use Rattle.ts_raw.specs.Rewriting.{IsEncoded}
use Rattle.ts_raw.proofs.BlockLists.{mark_stays}
use Rattle.ts_raw.proofs.SplicedLemmas.{stays_encoded, starts_later, few_points}
use Rattle.ts_raw.proofs.rewriting.halve.Goals as goal

pub copy_last-requires-clause-marked : goal.copy_last-requires-clause-marked
copy_last-requires-clause-marked g c =
    let before : take (length c.args.bytes.now.items) c.copy_first.new.bytes.items ≡ c.args.bytes.now.items = ap (λ n. take n c.copy_first.new.bytes.items) (let n : length c.args.bytes.now.items ≡ vec_len c.args.bytes.now = omega (arith, c.args.bytes.now.ok.0) in n) ∙ c.in_ok-first.ensures.kept in
    (mark_stays c.args.bytes.now.items c.copy_first.new.bytes.items c.args.handle.now before c.requires.marked).0

pub returns-clause-halves : goal.returns-clause-halves
returns-clause-halves g c =
    let before : take (length c.args.bytes.now.items) c.copy_first.new.bytes.items ≡ c.args.bytes.now.items = ap (λ n. take n c.copy_first.new.bytes.items) (let n : length c.args.bytes.now.items ≡ vec_len c.args.bytes.now = omega (arith, c.args.bytes.now.ok.0) in n) ∙ c.in_ok-first.ensures.kept in
    let t = mark_stays c.args.bytes.now.items c.copy_first.new.bytes.items c.args.handle.now before c.requires.marked in
    let points : List (ℤ × ℤ) = block_points_at c.args.bytes.now.items c.args.handle.now in
    let old : List ℕ = c.copy_first.new.bytes.items in
    let new : List ℕ = c.copy_last.new.bytes.items in
    let front : take (length old) new ≡ old = ap (λ n. take n new) (let n : length old ≡ vec_len c.copy_first.new.bytes = omega (arith, c.copy_first.new.bytes.ok.0) in n) ∙ c.in_ok-second.ensures.kept in
    let n = c.requires.marked.count_is in
    let some = c.requires.some in
    record {
      half = c.args.handle.now.count / 2;
      some = omega arith;
      less = omega arith;
      few = (few_points points c.requires.marked.block.points_are).0;
      first_is = stays_encoded old new c.in_ok-first.first (take (c.args.handle.now.count / 2) points) front c.in_ok-first.ensures.block;
      second_is = starts_later (let w = c.in_ok-first.ensures.block.handle.within in omega (arith, w, c.copy_first.new.bytes.ok.0)) (subst (λ (x : List (ℤ × ℤ)). IsEncoded (vec_len c.copy_first.new.bytes) new c.in_ok-second.second (drop (c.args.handle.now.count / 2) x)) t.1 c.in_ok-second.ensures.block);
    }
