-- The sweep: it keeps exactly the steps that lead to the end.
use Rattle.std.proofs.Common.{◌≡◌, ℤ, ◌≤ℤ◌, ◌<ℤ◌, int_le, arith, refl, sym, ap, subst, List, [], ◌∷◌, Bool, true, false, ◌||◌, inl, inr, true≢false, ◌∙◌, Some}
use Rattle.std.specs.Int.Signed.{≤ℤ_refl}
use Rattle.std.specs.Ordering.{int_eq}
use Rattle.std.proofs.lemmas.Int.{ints, by_lt_z}
use Rattle.std.proofs.lemmas.Bool.{or_cases, or_left, or_right}
use Rattle.std.proofs.lemmas.Bool.Decides.{Decides-int_eq}
use Rattle.std.specs.List.{AllByRecursion}
use Rattle.ts_core.specs.lists.Members.{Among}
use Rattle.ts_core.specs.plans.Pieces.{QueryContext, RuleServes}
use Rattle.ts_core.specs.plans.Plans.{ReachesEnd, rollup_piece, raw_piece, LeadsOn}
use Rattle.ts_core.proofs.plans.GoodPlaces.{rule_wide, good_within, good_leads}
use Rattle.ts_core.proofs.settings.RuleNames.{rule_named-at}
use Rattle.ts_core.proofs.lists.Comparisons.{le_from, le_true}
use Rattle.ts_plan.specs.declared.steps.Step.{Step}
use Rattle.ts_plan.specs.Steps.{IsPlannable, IsStep, Upto, Ascends, starts_first, starts_at, reaches_end, kept_if, pruned_steps}

-- ---- steps that reach the end

good_end : (t : QueryContext) → ReachesEnd t t.query.to
good_end t = ([], record { covers = refl; each = tt })

good_raw : (t : QueryContext) (p : ℤ) → t.mark ≤ℤ p → p <ℤ t.query.to → ReachesEnd t p
good_raw t p h l = (raw_piece p t.query.to ∷ [], record { covers = (refl, l, ≤ℤ_refl t.query.to, refl); each = (h, tt) })

-- a step whose end is good
pub record IsGoodStep (t : QueryContext) (s : Step) : Type 0 where
  pub step : IsStep t s
  pub good : ReachesEnd t s.to

-- it leads on, from where it starts to where it ends
pub step_on : (t : QueryContext) (s : Step) → IsPlannable t → IsGoodStep t s → LeadsOn t s.rule s.from s.to
step_on t s k g =
    let i = g.step in
    record { rule = i.rule; there = i.there; one = i.one; valid = (i.rule, rule_named-at t.rules s.rule i.rule k.named i.there, i.serves); good = g.good }

-- and a step that leads on is such a step
pub on_step : (t : QueryContext) (s : Step) → IsPlannable t → t.query.from ≤ℤ s.from → s.from <ℤ t.mark → LeadsOn t s.rule s.from s.to → IsGoodStep t s
on_step t s k f m l =
    let v = l.valid in
    let q : v.0 ≡ l.rule = (let e : Some v.0 ≡ Some l.rule = sym v.1 ∙ rule_named-at t.rules s.rule l.rule k.named l.there in cc) in
    record { step = record { from = f; below = m; inside = good_within t s.to l.good; rule = l.rule; there = l.there; one = l.one; serves = subst (λ r. RuleServes t.query r s.from s.to) q v.2 }; good = l.good }

pub step_up : (t : QueryContext) (s : Step) → IsPlannable t → IsStep t s → s.from <ℤ s.to
step_up t s k i = let wide = rule_wide t.rules s.rule i.rule k.wide.rules i.there in let one = i.one in omega (arith, ints)

good_step : (t : QueryContext) (s : Step) → IsPlannable t → IsGoodStep t s → ReachesEnd t s.from
good_step t s k g =
    let l = step_on t s k g in
    let up = step_up t s k g.step in
    (rollup_piece l.rule.rule.name s.from s.to ∷ g.good.0, record { covers = (refl, up, g.step.inside, g.good.1.covers); each = (l.valid, g.good.1.each) })

pub first_starts : (e : ℤ) (gs : List Step) → starts_first e gs ≡ true → starts_at e gs ≡ true
first_starts e [] h = absurd (true≢false (sym h))
first_starts e (g ∷ gs) h = or_left (int_eq g.from e) (starts_at e gs) h

-- ---- the remaining steps reach the end

starts_good : (t : QueryContext) (gs : List Step) (e : ℤ) → IsPlannable t → AllByRecursion (IsGoodStep t) gs → starts_at e gs ≡ true → ReachesEnd t e
starts_good t [] e k a h = absurd (true≢false (sym h))
starts_good t (g ∷ gs) e k a h =
    elim (or_cases (int_eq g.from e) (starts_at e gs) h) as (λ _. ReachesEnd t e) [
      | inl q ↦ subst (ReachesEnd t) ((Decides-int_eq g.from e).0 q) (good_step t g k a.0)
      | inr q ↦ starts_good t gs e k a.1 q
    ]

pub leads_good : (t : QueryContext) (gs : List Step) (e : ℤ) → IsPlannable t → e ≤ℤ t.query.to → AllByRecursion (IsGoodStep t) gs → reaches_end t gs e ≡ true → ReachesEnd t e
leads_good t gs e k l a h =
    by_lt_z e t.query.to
    (λ m. elim (or_cases (int_eq e t.query.to) (int_le t.mark e || starts_at e gs) h) as (λ _. ReachesEnd t e) [
      | inl q ↦ subst (ReachesEnd t) (sym ((Decides-int_eq e t.query.to).0 q)) (good_end t)
      | inr q ↦ elim (or_cases (int_le t.mark e) (starts_at e gs) q) as (λ _. ReachesEnd t e) [
        | inl q2 ↦ good_raw t e (le_from t.mark e q2) m
        | inr q2 ↦ starts_good t gs e k a q2
      ]
    ])
    (λ m. let q : t.query.to ≡ e = omega (arith, ints) in subst (ReachesEnd t) q (good_end t))

kept_all : (t : QueryContext) (b : Bool) (s : Step) (gs : List Step) → AllByRecursion (IsGoodStep t) gs → (b ≡ true → IsGoodStep t s) → AllByRecursion (IsGoodStep t) (kept_if b s gs)
kept_all t true s gs a h = (h refl, a)
kept_all t false s gs a h = a

pub kept_good : (t : QueryContext) (ss : List Step) → IsPlannable t → AllByRecursion (IsStep t) ss → AllByRecursion (IsGoodStep t) (pruned_steps t ss)
kept_good t [] k a = tt
kept_good t (x ∷ ss) k a =
    let ih = kept_good t ss k a.1 in
    kept_all t _ x _ ih (λ b. record { step = a.0; good = leads_good t (pruned_steps t ss) x.to k a.0.inside ih b })

pub steps_of_good : (t : QueryContext) (ss : List Step) → AllByRecursion (IsGoodStep t) ss → AllByRecursion (IsStep t) ss
steps_of_good t [] a = tt
steps_of_good t (s ∷ ss) a = (a.0.step, steps_of_good t ss a.1)

-- ---- and it keeps all

among_starts : (gs : List Step) (x : Step) → Among x gs → starts_at x.from gs ≡ true
among_starts [] x h = absurd h
among_starts (g ∷ gs) x (inl e) = or_left _ _ ((Decides-int_eq g.from x.from).1 (ap (λ y. y.from) (sym e)))
among_starts (g ∷ gs) x (inr h) = or_right (int_eq g.from x.from) _ (among_starts gs x h)

-- the step that an instant below the mark has if it reaches the end
pub record StepAt (t : QueryContext) (e : ℤ) : Type 0 where
  pub step : Step
  pub good : IsGoodStep t step
  pub at : step.from ≡ e

pub step_at : (t : QueryContext) (e : ℤ) → IsPlannable t → t.query.from ≤ℤ e → e <ℤ t.mark → e <ℤ t.query.to → ReachesEnd t e → StepAt t e
step_at t e k f m l g =
    let n = good_leads t e k.wide m l g in
    let s : Step = record { from = e; rule = n.n; to = n.end } in
    record { step = s; good = on_step t s k f m n.leads; at = refl }

pub good_leads_on : (t : QueryContext) (gs : List Step) (e : ℤ) → IsPlannable t → t.query.from ≤ℤ e → e ≤ℤ t.query.to → ReachesEnd t e → ((x : Step) → IsGoodStep t x → x.from ≡ e → Among x gs) → reaches_end t gs e ≡ true
good_leads_on t gs e k f l g all =
    by_lt_z e t.query.to
    (λ m. or_right (int_eq e t.query.to) _ (by_lt_z e t.mark
    (λ m2. let n = step_at t e k f m2 m g in or_right (int_le t.mark e) _ (subst (λ z. starts_at z gs ≡ true) n.at (among_starts gs n.step (all n.step n.good n.at))))
    (λ m2. or_left _ _ (le_true t.mark e m2))))
    (λ m. or_left _ _ ((Decides-int_eq e t.query.to).1 (omega (arith, ints))))

-- of each step, those that start after it are among the ones that follow
abbrev pub Closed : QueryContext → List Step → Type 0
Closed t [] = Unit {0}
Closed t (s ∷ ss) = ((x : Step) → IsStep t x → s.from <ℤ x.from → Among x ss) × Closed t ss

kept_more : (b : Bool) (s x : Step) (gs : List Step) → Among x gs → Among x (kept_if b s gs)
kept_more true s x gs h = inr h
kept_more false s x gs h = h

kept_here : (b : Bool) (s x : Step) (gs : List Step) → x ≡ s → b ≡ true → Among x (kept_if b s gs)
kept_here true s x gs e h = inl e
kept_here false s x gs e h = absurd (true≢false (sym h))

pub kept_among : (t : QueryContext) (ss : List Step) → IsPlannable t → Closed t ss → (x : Step) → IsGoodStep t x → Among x ss → Among x (pruned_steps t ss)
kept_among t [] k c x g h = h
kept_among t (y ∷ ss) k c x g (inr h) = kept_more _ y x _ (kept_among t ss k c.1 x g h)
kept_among t (y ∷ ss) k c x g (inl e) =
    let f = g.step.from in
    let up = step_up t x k g.step in
    let same : x.to ≡ y.to = ap (λ z. z.to) e in
    let same2 : x.from ≡ y.from = ap (λ z. z.from) e in
    kept_here _ y x _ e (subst (λ z. reaches_end t (pruned_steps t ss) z ≡ true) same
    (good_leads_on t (pruned_steps t ss) x.to k (omega (arith, ints)) g.step.inside g.good
    (λ z gz at. kept_among t ss k c.1 z gz (c.0 z gz.step (omega (arith, ints))))))

pub closed_from : (t : QueryContext) (c : ℤ) (ss : List Step) → Ascends ss → ((x : Step) → IsStep t x → c <ℤ x.from → Among x ss) → AllByRecursion (λ (x : Step). c ≤ℤ x.from) ss → Closed t ss
closed_from t c [] a h l = tt
closed_from t c (s ∷ ss) a h l =
    let after : (x : Step) → IsStep t x → s.from <ℤ x.from → Among x ss = λ x i m.
    let u = l.0 in
    elim (h x i (omega (arith, ints))) as (λ _. Among x ss) [
      | inl e ↦ absurd (let q : x.from ≡ s.from = ap (λ z. z.from) e in omega (arith, ints))
      | inr k ↦ k
    ] in
    (after, closed_from t s.from ss a.1 after (froms ss s a.0))
  where
    froms : (ss : List Step) (s : Step) → AllByRecursion (λ (x : Step). Upto s x) ss → AllByRecursion (λ (x : Step). s.from ≤ℤ x.from) ss
    froms [] s a = tt
    froms (x ∷ ss) s a = (a.0.from, froms ss s a.1)
