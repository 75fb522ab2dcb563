-- The walk over the remaining steps: it is the walk of the plan.
use Rattle.std.proofs.Common.{◌≡◌, ℤ, ◌≤ℤ◌, ◌<ℤ◌, arith, refl, sym, ap, ◌∙◌, subst, List, [], ◌∷◌, true, false, cond, inl, inr, true≢false}
use Rattle.std.specs.Prelude.{slice_get}
use Rattle.std.specs.Int.Signed.{≤ℤ_refl}
use Rattle.std.specs.Ordering.{int_eq}
use Rattle.std.proofs.lemmas.Int.{ints, by_lt_z}
use Rattle.std.proofs.lemmas.Bool.Decides.{Decides-int_eq}
use Rattle.std.specs.List.{AllByRecursion}
use Rattle.ts_core.specs.lists.Members.{Among}
use Rattle.ts_core.specs.plans.Pieces.{QueryContext}
use Rattle.ts_core.specs.plans.Plans.{ReachesEnd, raw_piece, LeadsOn, NoneBefore, IsFirstToReach, IsWalk}
use Rattle.ts_core.proofs.lists.Permutations.{pick}
use Rattle.ts_plan.specs.declared.steps.Step.{Step}
use Rattle.ts_plan.specs.Steps.{IsPlannable, Upto, Ascends, name_or_none, bucket_piece, walked}
use Rattle.ts_plan.proofs.Searches.{apart}
use Rattle.ts_plan.proofs.Pruning.{IsGoodStep, step_on, on_step, step_up, step_at}

not_eq : (x y : ℤ) → int_eq x y ≡ false → x ≡ y → ⊥
not_eq x y h e = true≢false (sym ((Decides-int_eq x y).1 e) ∙ h)

-- every step that leads on from p on is among these
abbrev pub HasAll : QueryContext → ℤ → List Step → Type 0
HasAll t p gs = (x : Step) → IsGoodStep t x → p ≤ℤ x.from → Among x gs

pub walks : (t : QueryContext) (p : ℤ) (gs : List Step) → IsPlannable t → Ascends gs → AllByRecursion (IsGoodStep t) gs → t.query.from ≤ℤ p → p ≤ℤ t.query.to → ReachesEnd t p → HasAll t p gs → IsWalk t p (walked t p gs)
walks t p [] k a g f l good all =
    by_lt_z p t.query.to
    (λ m. by_lt_z p t.mark
    (λ m2. let n = step_at t p k f m2 m good in absurd (all n.step n.good (let q = n.at in omega (arith, ints))))
    (λ m2. subst (λ b. IsWalk t p (cond b [] (raw_piece p t.query.to ∷ []))) (sym (apart p t.query.to (λ e. absurd (omega (arith, ints))))) (m, refl, (m2, refl, refl))))
    (λ m. let e : p ≡ t.query.to = omega (arith, ints) in subst (λ b. IsWalk t p (cond b [] (raw_piece p t.query.to ∷ []))) (sym ((Decides-int_eq p t.query.to).1 e)) e)
walks t p (g ∷ gs) k a ok f l good all =
    let here = ok.0.step in
    let up = step_up t g k here in
    let low = here.from in
    let below = here.below in
    let inside = here.inside in
    elim (int_eq g.from p) as (λ b. int_eq g.from p ≡ b → IsWalk t p (cond b (bucket_piece t g ∷ walked t g.to gs) (walked t p gs))) [
      | true ↦ λ e.
          let at : g.from ≡ p = (Decides-int_eq g.from p).0 e in
          let on : LeadsOn t g.rule p g.to = subst (λ z. LeadsOn t g.rule z g.to) at (step_on t g k ok.0) in
          let name = name_or_none (slice_get t.rules g.rule) in
          let named : on.rule.rule.name ≡ name = ap name_or_none (sym on.there) in
          let first : NoneBefore t p g.rule = λ m d lt lo.
          let x : Step = record { from = p; rule = m; to = d } in
          let gx : IsGoodStep t x = on_step t x k f (omega (arith, ints)) lo in
          elim (all x gx (≤ℤ_refl p)) as (λ _. ⊥) [
            | inl q ↦ let r : m ≡ g.rule = ap (λ z. z.rule) q in absurd (omega arith)
            | inr q ↦ let u = (pick (Upto g) x gs a.0 q).rule at in absurd (omega arith)
          ] in
          let lead : IsFirstToReach t name p g.to = record { n = g.rule; leads = on; named = named; first = first } in
          let more : HasAll t g.to gs = λ x gx m.
          elim (all x gx (omega (arith, ints))) as (λ _. Among x gs) [
            | inl q ↦ let r : x.from ≡ g.from = ap (λ z. z.from) q in absurd (omega (arith, ints))
            | inr q ↦ q
          ] in
          (omega (arith, ints), at, (omega (arith, ints), lead, walks t g.to gs k a.1 ok.1 (omega (arith, ints)) inside ok.0.good more))
      | false ↦ λ e.
          let before : g.from <ℤ p = by_lt_z g.from p (λ m. m) (λ m.
          by_lt_z p g.from
          (λ m2. let n = step_at t p k f (omega (arith, ints)) (omega (arith, ints)) good in let at = n.at in
          elim (all n.step n.good (omega (arith, ints))) as (λ _. g.from <ℤ p) [
            | inl q ↦ let r : n.step.from ≡ g.from = ap (λ z. z.from) q in absurd (omega (arith, ints))
            | inr q ↦ let u = (pick (Upto g) n.step gs a.0 q).from in absurd (omega (arith, ints))
          ])
          (λ m2. absurd (not_eq g.from p e (omega (arith, ints))))) in
          let more : HasAll t p gs = λ x gx m.
          elim (all x gx m) as (λ _. Among x gs) [
            | inl q ↦ let r : x.from ≡ g.from = ap (λ z. z.from) q in absurd (omega (arith, ints))
            | inr q ↦ q
          ] in
          walks t p gs k a.1 ok.1 f l good more
    ] refl
