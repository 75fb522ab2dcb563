-- The plan by the sweep and the walk; there is none if the start doesn't lead on.
use Rattle.std.proofs.Common.{◌≡◌, pos, ◌-ℤ◌, ◌≤ℤ◌, arith, refl, sym, ◌∙◌, List, [], ◌∷◌, true, false, true≢false}
use Rattle.std.specs.Int.Signed.{≤ℤ_refl}
use Rattle.std.specs.List.{AllByRecursion}
use Rattle.std.proofs.lemmas.Int.{ints}
use Rattle.ts_core.specs.lists.Members.{Among}
use Rattle.ts_core.specs.plans.Pieces.{QueryContext}
use Rattle.ts_core.specs.plans.Plans.{ReachesEnd, IsPlanOf, joined}
use Rattle.ts_plan.specs.declared.steps.Step.{Step}
use Rattle.ts_plan.specs.Steps.{IsPlannable, IsStep, Ascends, reaches_end, pruned_steps, walked}
use Rattle.ts_plan.proofs.Pruning.{Closed, closed_from, kept_good, kept_among, leads_good, good_leads_on}
use Rattle.ts_plan.proofs.StepWalks.{walks}
use Rattle.ts_plan.proofs.Searches.{kept_ascends}

abbrev pub AllSteps : QueryContext → List Step → Type 0
AllSteps t ss = (x : Step) → IsStep t x → Among x ss

lows : (t : QueryContext) (ss : List Step) → AllByRecursion (IsStep t) ss → AllByRecursion (λ (x : Step). (t.query.from -ℤ pos 1) ≤ℤ x.from) ss
lows t [] a = tt
lows t (s ∷ ss) a = (let f = a.0.from in omega (arith, ints), lows t ss a.1)

closed : (t : QueryContext) (ss : List Step) → AllByRecursion (IsStep t) ss → AllSteps t ss → Ascends ss → Closed t ss
closed t ss a all up = closed_from t (t.query.from -ℤ pos 1) ss up (λ x i l. all x i) (lows t ss a)

pub plan_made : (t : QueryContext) (ss : List Step) → IsPlannable t → t.query.from ≤ℤ t.query.to → AllByRecursion (IsStep t) ss → AllSteps t ss → Ascends ss → reaches_end t (pruned_steps t ss) t.query.from ≡ true → IsPlanOf t (joined t (walked t t.query.from (pruned_steps t ss)))
plan_made t ss k l a all up h =
    let good = kept_good t ss k a in (
      walked t t.query.from (pruned_steps t ss),
      walks t t.query.from (pruned_steps t ss) k (kept_ascends t ss up) good (≤ℤ_refl t.query.from) l (leads_good t (pruned_steps t ss) t.query.from k l good h)
          (λ x g _. kept_among t ss k (closed t ss a all up) x g (all x g.step)),
      refl,
    )

pub plan_none : (t : QueryContext) (ss : List Step) → IsPlannable t → t.query.from ≤ℤ t.query.to → AllByRecursion (IsStep t) ss → AllSteps t ss → Ascends ss → reaches_end t (pruned_steps t ss) t.query.from ≡ false → ReachesEnd t t.query.from → ⊥
plan_none t ss k l a all up h v =
    true≢false (sym (good_leads_on t (pruned_steps t ss) t.query.from k (≤ℤ_refl t.query.from) l v (λ x g _. kept_among t ss k (closed t ss a all up) x g (all x g.step))) ∙ h)
