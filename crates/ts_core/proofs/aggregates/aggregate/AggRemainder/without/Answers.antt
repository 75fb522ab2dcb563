use Rattle.std.proofs.Common.{◌∙◌, ap, sym, subst, refl, inl, inr, ⊎_elim, IsSome, true≢false}
use Rattle.ts_core.specs.aggregates.Aggregates.{Aggregate, merged, IsSound}
use Rattle.ts_core.specs.aggregates.Remainders.{IsOnlyRest}
use Rattle.ts_core.proofs.aggregates.EqualLemmas.{same_aggregates, equal_aggregates_from}
use Rattle.ts_core.proofs.aggregates.RemaindersLemmas.{IsOnlyRest-all, rest_of_inner}
use Rattle.ts_core.proofs.aggregates.aggregate.AggRemainder.without.Goals as goal

pub returns-then-eq-clause-determined : goal.returns-then-eq-clause-determined
returns-then-eq-clause-determined c =
    (λ _. inr (inl (same_aggregates c.args.part c.args.self (sym c.eq.ensures ∙ c.if-eq.true))), λ _. refl)

pub returns-then-eq-clause-rest : goal.returns-then-eq-clause-rest
returns-then-eq-clause-rest c =
    subst (IsOnlyRest IsSound merged c.args.self c.args.part) (sym c.empty.ensures)
    (IsOnlyRest-all c.args.self c.args.part (same_aggregates c.args.part c.args.self (sym c.eq.ensures ∙ c.if-eq.true)))

pub returns-else-eq-clause-determined : goal.returns-else-eq-clause-determined
returns-else-eq-clause-determined c =
    let inside = c.without_inner.ensures.inside in
    let counts = ap (λ (a : Aggregate). a.count) c.part.view_is in (
      λ t. inr (inr (inside.0 t)),
      λ d.
          ⊎_elim {C = IsSome c.without_inner.result} (λ n. absurd (c.if-part-eq0.false (counts ∙ n)))
          (⊎_elim {C = IsSome c.without_inner.result} (λ e. absurd (true≢false (sym (c.eq.ensures ∙ equal_aggregates_from c.args.part c.args.self e) ∙ c.if-eq.false))) inside.1) d,
    )

pub returns-else-eq-clause-rest : goal.returns-else-eq-clause-rest
returns-else-eq-clause-rest c =
    rest_of_inner c.args.self c.args.part c.without_inner.result c.without_inner.ensures.inside.0 c.without_inner.ensures.rest
