-- Blocks that are skipped as a whole.
use Rattle.std.proofs.Common.{◌≡◌, ℕ, ◌+◌, ◌-◌, ◌<◌, ◌≤◌, ℤ, ◌<ℤ◌, ◌≤ℤ◌, true, List, [], ◌∷◌, ◌++◌, length, take, length-append, Option, Some, None, MatchOption, ⊎_elim, inl, inr, refl, sym, ◌∙◌, ap, subst, arith}
use Rattle.std.proofs.lemmas.Int.{ints}
use Rattle.std.proofs.lemmas.Bool.{and_from}
use Rattle.std.proofs.Math.Seq.{take-append-add}
use Rattle.std.specs.List.{AllByRecursion}
use Rattle.ts_core.specs.declared.aggregates.aggregate.Extremes.{Extremes}
use Rattle.ts_core.specs.facts.Facts.{is_within}
use Rattle.ts_core.specs.lists.Members.{Among}
use Rattle.ts_core.specs.aggregates.Aggregates.{Aggregate, aggregate_of_points, LiesWithin, AreExtremesOf}
use Rattle.ts_core.proofs.aggregates.AggregatesLemmas.{aggregate_of_points-is}
use Rattle.ts_core.proofs.lists.Comparisons.{le_true, lt_true}
use Rattle.ts_block.specs.Blocks.{ArePoints}
use Rattle.ts_raw.specs.declared.block_handle.BlockHandle.{BlockHandle}
use Rattle.ts_raw.specs.Summaries.{IsFront}
use Rattle.ts_raw.specs.CodedPoints.{block_points_at, coded_points, AreWithin, AreBlocks, points_walked, CanWalk}

-- ---- points between two times

point_within : (low high : ℤ) (e : Extremes) (p : ℤ × ℤ) → low ≤ℤ e.first.0 → e.last.0 <ℤ high → LiesWithin e p → is_within low high p.0 ≡ true
point_within low high e p a b h =
    let c : e.first.0 ≤ℤ p.0 = ⊎_elim {C = e.first.0 ≤ℤ p.0} (λ x. omega (arith, ints)) (λ x. let y = x.0 in omega (arith, ints)) h.first in
    let d : p.0 ≤ℤ e.last.0 = ⊎_elim {C = p.0 ≤ℤ e.last.0} (λ x. omega (arith, ints)) (λ x. let y = x.0 in omega (arith, ints)) h.last in
    and_from _ _ (le_true low p.0 (omega (arith, ints))) (lt_true p.0 high (omega (arith, ints)))

each_within : (low high : ℤ) (e : Extremes) (ps : List (ℤ × ℤ)) → low ≤ℤ e.first.0 → e.last.0 <ℤ high → ((p : ℤ × ℤ) → Among p ps → LiesWithin e p) → AllByRecursion (λ (p : ℤ × ℤ). is_within low high p.0 ≡ true) ps
each_within low high e [] a b h = tt
each_within low high e (p ∷ ps) a b h = (point_within low high e p a b (h p (inl refl)), each_within low high e ps a b (λ q k. h q (inr k)))

extremes_within : (low high : ℤ) (e : Option Extremes) (ps : List (ℤ × ℤ)) → AreWithin low high e → MatchOption e (ps ≡ []) (AreExtremesOf ps) → AllByRecursion (λ (p : ℤ × ℤ). is_within low high p.0 ≡ true) ps
extremes_within low high None ps a h = absurd a
extremes_within low high (Some e) ps a h = each_within low high e ps a.0 a.1 h.within

-- if the first and the last point of an aggregate are in a range, all are
pub all_within_range : (low high : ℤ) (a : Aggregate) (ps : List (ℤ × ℤ)) → a ≡ aggregate_of_points ps → AreWithin low high a.extremes → AllByRecursion (λ (p : ℤ × ℤ). is_within low high p.0 ≡ true) ps
all_within_range low high a ps is h =
    let all = aggregate_of_points-is ps in
    extremes_within low high (aggregate_of_points ps).extremes ps (subst (λ (x : Aggregate). AreWithin low high x.extremes) is h) all.extremes

some_points : (ps : List (ℤ × ℤ)) → ArePoints ps → 0 < length ps
some_points [] h = absurd h
some_points (p ∷ ps) h = omega arith

-- ---- the next block of a walk between two blocks

module _ (left : ℕ) (decoder : List (ℤ × ℤ)) (bytes : List ℕ) (handles : List BlockHandle) (m : BlockHandle) (ms : List BlockHandle) (none : decoder ≡ []) (is : handles ≡ m ∷ ms) (few : m.count ≤ left) (w : CanWalk left decoder bytes handles) where
  marked : AreBlocks bytes (m ∷ ms)
  marked = subst (AreBlocks bytes) is w.marked

  rest_is : decoder ++ coded_points bytes ms ≡ coded_points bytes ms
  rest_is = ap (λ (x : List (ℤ × ℤ)). x ++ coded_points bytes ms) none

  ahead : decoder ++ coded_points bytes handles ≡ block_points_at bytes m ++ coded_points bytes ms
  unfolding coded_points
  ahead = λ i. none i ++ coded_points bytes (is i)

  size : left ≡ length (block_points_at bytes m) + (left - m.count)
  size = let c = marked.0.count_is in omega arith

  pub block_skipped : points_walked left decoder bytes handles ≡ block_points_at bytes m ++ points_walked (left - m.count) decoder bytes ms
  block_skipped =
      (λ i. take (size i) (ahead i)) ∙ take-append-add (block_points_at bytes m) (coded_points bytes ms) (left - m.count)
      ∙ ap (λ (x : List (ℤ × ℤ)). block_points_at bytes m ++ take (left - m.count) x) (sym rest_is)

  pub walk_skips : CanWalk (left - m.count) decoder bytes ms
  walk_skips = record {
    marked = marked.1;
    enough = let a = ap length ahead in let b = length-append (block_points_at bytes m) (coded_points bytes ms) in let c = ap length rest_is in let d = w.enough in let e = size in omega arith;
  }

  pub block_in_front : (low high : ℤ) → AreWithin low high m.summary.extremes → IsFront low high (points_walked left decoder bytes handles) (points_walked (left - m.count) decoder bytes ms) m.summary
  block_in_front low high h = record {
    block = block_points_at bytes m;
    some = some_points (block_points_at bytes m) marked.0.block.points_are;
    split = block_skipped;
    within = all_within_range low high m.summary (block_points_at bytes m) marked.0.summary_is h;
    summary = marked.0.summary_is;
  }
