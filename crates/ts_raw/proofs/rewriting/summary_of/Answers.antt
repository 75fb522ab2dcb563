use Rattle.std.proofs.Common.{rules, ◌≡◌, ◌∙◌, ap, length, SFits, w64, to_z-of_z, arith}
use Rattle.ts_core.specs.aggregates.Aggregates.{Aggregate, aggregate_of_one, merged, aggregate_of_points}
use Rattle.ts_raw.proofs.SplicedLemmas.{summary_next}
use Rattle.ts_raw.proofs.rewriting.summary_of.Goals as goal

pub loop-point-preserved : goal.loop-point-preserved
loop-point-preserved c =
    let fits : SFits w64 c.in-Some.point.1 = search rules in
    let one : c.single.result ≡ aggregate_of_one c.in-Some.point.0 c.in-Some.point.1 = c.single.ensures ∙ ap (aggregate_of_one c.in-Some.point.0) (to_z-of_z fits) in
    let sum : c.merge-summary.result ≡ merged c.loop-point.summary (aggregate_of_one c.in-Some.point.0 c.in-Some.point.1) = c.merge-summary.ensures ∙ ap (merged c.loop-point.summary) one in
    record {
      can = (tt, tt);
      so_far = ap (λ s. merged s (aggregate_of_points c.next.new.self)) sum ∙ summary_next c.loop-point.summary c.in-Some.point c.loop-point.rest c.next.new.self c.args.decoder c.in-Some.ensures.steps c.loop-point.invariant.so_far;
      few = let a = ap (λ (x : Aggregate). x.count) sum in let b = ap length c.in-Some.ensures.steps in let d = c.loop-point.invariant.few in omega arith;
    }
