use Rattle.std.proofs.Common.{rules, Some, arith, ◌≡◌, ◌∙◌, ap, sym, true≢false, ◌-◌, ◌-ℤ◌, to_z, of_z, w64, SFits, refl}
use Rattle.std.specs.Int.{w128}
use Rattle.std.proofs.lemmas.Int.{ints}
use Rattle.ts_core.specs.aggregates.Aggregates.{Aggregate}
use Rattle.ts_core.specs.aggregates.SoundLaws.{spread_bound}
use Rattle.ts_core.proofs.aggregates.RemaindersLemmas.{beyond_from, spread_from, sound_at, LiesInside_from}
use Rattle.ts_core.proofs.aggregates.aggregate.Agg.without_inner.Goals.{After-saturating_sub-count, then-not-are_beyond-via-then-not-are_beyond, then-not-are_beyond-via-else-not-are_beyond+then-not-are_spread}
use Rattle.ts_core.proofs.aggregates.aggregate.Agg.without_inner.Goals as goal

-- the rest, as the code computes it
count : (c : After-saturating_sub-count) → c.saturating_sub-count.result ≡ c.args.self.count - c.args.part.count
count c =
    let a = ap (λ (x : Aggregate). x.count) c.self.view_is in
    let b = ap (λ (x : Aggregate). x.count) c.part.view_is in
    c.saturating_sub-count.ensures ∙ (λ i. a i - b i)

sum : (c : After-saturating_sub-count) → to_z w128 (of_z w128 (to_z w128 (of_z w128 c.self.inside.sum) -ℤ to_z w128 (of_z w128 c.part.inside.sum))) ≡ c.args.self.sum -ℤ c.args.part.sum
sum c =
    let e = ap (λ (x : Aggregate). x.sum) c.self.view_is in
    let f = ap (λ (x : Aggregate). x.sum) c.part.view_is in
    let h = c.self.invariant.1 in
    let k = c.part.invariant.1 in
    let m = c.self.invariant.0 in
    let n = c.part.invariant.0 in
    omega (arith, ints)

whole : (c : After-saturating_sub-count) → c.args.self.extremes ≡ Some c.in_ok-whole.whole
whole c = ap (λ (a : Aggregate). a.extremes) (sym c.self.view_is) ∙ c.in_ok-whole.was

part : (c : After-saturating_sub-count) → c.args.part.extremes ≡ Some c.in_ok-inner.inner
part c = ap (λ (a : Aggregate). a.extremes) (sym c.part.view_is) ∙ c.in_ok-inner.was

pub returns-then-not-are_beyond-clause-inside : goal.returns-then-not-are_beyond-clause-inside
returns-then-not-are_beyond-clause-inside c =
    let d = (goal.at.returns-then-not-are_beyond-clause-inside c).After-saturating_sub-count in (
      λ t. absurd (true≢false (sym t)),
      λ l. elim c.then-not-are_beyond.branch [
        | then-not-are_beyond-via-then-not-are_beyond w ↦ absurd (true≢false (sym (c.are_beyond.ensures.1 (beyond_from c.args.self c.args.part _ _ _ _ (whole d) (part d) (count d) (sum d) l)) ∙ w.if-not-are_beyond.true))
        | then-not-are_beyond-via-else-not-are_beyond+then-not-are_spread w ↦ absurd (true≢false (sym (w.are_spread.ensures.1 (spread_from c.args.self c.args.part _ _ _ _ (whole d) (part d) (count d) (sum d) l)) ∙ w.if-not-are_spread.true))
      ],
    )

pub invariant_of-result : goal.invariant_of-result
invariant_of-result c =
    let m = c.self.invariant.0 in
    let e = c.saturating_sub-count.ensures in
    let low : SFits w64 c.in_ok-whole.whole.min = search rules in
    let high : SFits w64 c.in_ok-whole.whole.max = search rules in
    let s = c.are_spread.ensures.0 c.if-not-are_spread.false in (
      omega arith,
      spread_bound _ _ c.in_ok-whole.whole s (omega (arith, ints)) (omega (arith, ints)),
      sound_at _ _ c.self.inside.extremes c.in_ok-whole.whole c.in_ok-whole.was s,
    )

pub returns-clause-inside : goal.returns-clause-inside
returns-clause-inside c =
    let d = (goal.at.returns-clause-inside c).After-saturating_sub-count in
    let beyond = c.are_beyond.ensures.0 c.if-not-are_beyond.false in
    let spread = c.are_spread.ensures.0 c.if-not-are_spread.false in
    (λ _. LiesInside_from c.args.self c.args.part _ _ _ _ (whole d) (part d) (count d) (sum d) beyond spread, λ _. refl)

pub returns-clause-rest : goal.returns-clause-rest
returns-clause-rest c =
    let d = (goal.at.returns-clause-rest c).After-saturating_sub-count in
    let x = ap (λ (a : Aggregate). a.extremes) c.self.view_is in
    λ i. record { count = count d i; sum = sum d i; extremes = x i }
