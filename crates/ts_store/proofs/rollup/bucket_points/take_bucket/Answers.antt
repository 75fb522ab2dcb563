use Rattle.std.proofs.Common.{rules, ◌≡◌, ◌<ℤ◌, ◌≤ℤ◌, ◌∙◌, ℤ, List, ◌∷◌, to_z, of_z, SFits, w64, to_z-of_z, sym, ap, subst}
use Rattle.std.specs.Int.{w128}
use Rattle.std.specs.List.{take_while}
use Rattle.ts_core.specs.facts.Facts.{is_within}
use Rattle.ts_core.specs.facts.Times.{IsTime}
use Rattle.ts_core.specs.settings.Settings.{Rule}
use Rattle.ts_core.specs.store.Marks.{index_of}
use Rattle.ts_store.specs.rollup.BucketsTaken.{TakesBucket}
use Rattle.ts_store.proofs.rollup.BucketsTakenLemmas.{bucket_taken}
use Rattle.ts_store.proofs.rollup.bucket_points.take_bucket.Goals as goal

pub returns : goal.returns
returns g c =
    let r : Rule = c.args.rule.now in
    let p : ℤ × ℤ = c.in_ok-time.field-0.now in
    let rest : List (ℤ × ℤ) = c.in_ok-time.ensures.0 in
    let points : c.args.run.now ≡ p ∷ rest = c.in_ok-time.ensures.1 in
    let end : ℤ = c.bucket_until-index.result.1 in
    let index : to_z w128 (of_z w128 c.bucket_until-index.result.0) ≡ index_of r p.0 = search rules in
    let after : p.0 <ℤ end = search rules in
    let same : (t : ℤ) → p.0 ≤ℤ t → t <ℤ end → index_of r t ≡ index_of r p.0 = c.bucket_until-index.ensures.same in
    let valid : IsTime p.0 = subst IsTime c.nanos.ensures.value c.nanos.ensures.valid in
    let time_fits : SFits w64 c.nanos.result = search rules in
    let end_fits : SFits w64 end = search rules in
    let taken : c.take_within.result.now ≡ take_while (λ (q : ℤ × ℤ). is_within p.0 end q.0) (p ∷ rest) =
    rw (to_z-of_z time_fits, to_z-of_z end_fits) at c.take_within.ensures.points ∙ ap (λ t. take_while (λ (q : ℤ × ℤ). is_within t end q.0) c.args.run.now) c.nanos.ensures.value ∙ ap (take_while (λ (q : ℤ × ℤ). is_within p.0 end q.0)) points in
    subst (λ (ps : List (ℤ × ℤ)). TakesBucket r (to_z w128 (of_z w128 c.bucket_until-index.result.0)) c.take_within.result.now ps c.take_within.new.self) (sym points)
    (subst (λ (i : ℤ). TakesBucket r i c.take_within.result.now (p ∷ rest) c.take_within.new.self) (sym index)
    (bucket_taken r end p rest c.take_within.result.now c.take_within.new.self same after valid taken (sym points ∙ c.take_within.ensures.left)))
