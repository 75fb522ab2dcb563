-- The steps of one rule after another, bucket by bucket, and their order once they are sorted.
use Rattle.std.proofs.Common.{◌≡◌, ℕ, ℤ, pos, ◌+◌, ◌<◌, ◌≤◌, ◌+ℤ◌, ◌-ℤ◌, ◌≤ℤ◌, ◌<ℤ◌, unsigned_abs, arith, refl, sym, ap, ◌∙◌, subst, List, [], ◌∷◌, ◌++◌, Option, Some, None, MatchOption, Bool, true, false, cond, true≢false, suc, length, get_or, Ordering, is_lt, nat_cmp}
use Rattle.std.proofs.lemmas.Int.{ints, by_lt_z}
use Rattle.std.specs.Prelude.{slice_get}
use Rattle.std.specs.List.{AllByRecursion}
use Rattle.std.specs.Ordering.{ordering_then, int_cmp}
use Rattle.ts_core.specs.lists.Members.{Among}
use Rattle.ts_core.specs.settings.Settings.{Rule}
use Rattle.ts_core.specs.plans.Pieces.{MarkedRule, QueryContext, IsBoundary, RuleServes}
use Rattle.ts_core.proofs.plans.GoodPlaces.{rule_wide, to_next, next_boundary}
use Rattle.ts_plan.specs.declared.steps.Step.{Step}
use Rattle.ts_plan.specs.Steps.{IsPlannable, IsStep, Upto, Ascends, matches_query, is_usable, IsFirstStart, IsNextInstant, step_of, with_usable_step, Adds}
use Rattle.ts_plan.proofs.WalkSteps.{in_range}
use Rattle.ts_core.proofs.lists.ListSteps.{all_push}
use Rattle.ts_plan.proofs.ListLemmas.{among_push, among_last}
use Rattle.ts_plan.proofs.RuleNumbers.{same_rule}
use Rattle.ts_plan.proofs.BucketJoins.{test_serves, serves_test, serves_columns}

-- the distance of the next time from the end
abbrev pub left_to : ℤ → Option ℤ → ℕ
left_to b None = 0
left_to b (Some p) = 1 + unsigned_abs (b -ℤ p)

-- the steps of the rule that start before the next instant are in
pub record Scanned (t : QueryContext) (n : ℕ) (r : MarkedRule) (next : Option ℤ) (old new : List Step) : Type 0 where
  pub instant : MatchOption next (Unit {0}) (λ p. IsBoundary r.rule p × (t.query.from ≤ℤ p) × (p ≤ℤ t.query.to))
  pub sound : AllByRecursion (IsStep t) old → AllByRecursion (IsStep t) new
  pub complete : (x : Step) → IsStep t x → x.rule ≡ n → MatchOption next (Among x new) (λ p. x.from <ℤ p → Among x new)
  pub before : (x : Step) → Among x old → Among x new

same_step : (x : Step) (p e : ℤ) (n : ℕ) → x.from ≡ p → x.rule ≡ n → x.to ≡ e → x ≡ step_of p n e
same_step x p e n a b c = ap (λ z. step_of z x.rule x.to) a ∙ ap (λ z. step_of p z x.to) b ∙ ap (step_of p n) c

added_sound : (t : QueryContext) (s : Step) (b : Bool) (ss : List Step) → (b ≡ true → IsStep t s) → AllByRecursion (IsStep t) ss → AllByRecursion (IsStep t) (cond b (ss ++ s ∷ []) ss)
added_sound t s true ss h a = all_push (IsStep t) ss s a (h refl)
added_sound t s false ss h a = a

added_before : (s x : Step) (b : Bool) (ss : List Step) → Among x ss → Among x (cond b (ss ++ s ∷ []) ss)
added_before s x true ss h = among_push ss s x h
added_before s x false ss h = h

added_here : (s x : Step) (b : Bool) (ss : List Step) → x ≡ s → b ≡ true → Among x (cond b (ss ++ s ∷ []) ss)
added_here s x true ss e h = among_last ss s x e
added_here s x false ss e h = absurd (true≢false (sym h))

-- a step of rule n
pub record StepOf (t : QueryContext) (r : MarkedRule) (x : Step) : Type 0 where
  pub one : x.to ≡ x.from +ℤ r.rule.interval
  pub inside : x.to ≤ℤ t.query.to
  pub serves : RuleServes t.query r x.from x.to

step_place : (t : QueryContext) (n : ℕ) (r : MarkedRule) (x : Step) → slice_get t.rules n ≡ Some r → IsStep t x → x.rule ≡ n → StepOf t r x
step_place t n r x g i e =
    let q : i.rule ≡ r = same_rule t.rules n x.rule r i.rule (sym e) g i.there in
    record { one = i.one ∙ ap (λ (z : MarkedRule). x.from +ℤ z.rule.interval) q; inside = i.inside; serves = subst (λ z. RuleServes t.query z x.from x.to) q i.serves }

pub scan_more : (t : QueryContext) (n : ℕ) (r : MarkedRule) (p : ℤ) (q : Option ℤ) (old ss new : List Step) → IsPlannable t → slice_get t.rules n ≡ Some r → matches_query t.query r.rule ≡ true → p <ℤ t.mark → IsNextInstant t r p q → new ≡ with_usable_step t r n p q ss → Scanned t n r (Some p) old ss → Scanned t n r q old new
scan_more t n r p None old ss new s g c m nx e k =
    let wide = rule_wide t.rules n r s.wide.rules g in
    subst (Scanned t n r None old) (sym e) (record {
      instant = tt;
      sound = k.sound;
      complete = λ x i y.
          let z = step_place t n r x g i y in
          let z1 = z.one in
          let z2 = z.inside in
          k.complete x i y (by_lt_z x.from p (λ l. l) (λ l. absurd (omega (arith, ints))));
      before = k.before;
    })
scan_more t n r p (Some u) old ss new s g c m nx e k =
    let wide = rule_wide t.rules n r s.wide.rules g in
    let one = nx.0 in
    let inside = nx.1 in
    let low = k.instant.1 in
    let test : Bool = is_usable t.query r p u in
    let at : IsBoundary r.rule u = subst (IsBoundary r.rule) (sym one) (next_boundary r.rule p wide k.instant.0) in
    subst (Scanned t n r (Some u) old) (sym e) (record {
      instant = (at, omega (arith, ints), inside);
      sound = λ a. added_sound t (step_of p n u) test ss
          (λ h. record { from = low; below = m; inside = inside; rule = r; there = g; one = one; serves = test_serves t.query r p u c k.instant.0 at h }) (k.sound a);
      complete = λ x i y l.
          let z = step_place t n r x g i y in
          let z1 = z.one in
          by_lt_z x.from p
          (λ b. added_before (step_of p n u) x test ss (k.complete x i y b))
          (λ b. by_lt_z p x.from
          (λ d. let far = to_next r.rule p x.from wide k.instant.0 z.serves.starts d in absurd (omega (arith, ints)))
          (λ d.
          let here : x.from ≡ p = omega (arith, ints) in
          let end : x.to ≡ u = omega (arith, ints) in
          let serves : RuleServes t.query r p u = subst (λ w. RuleServes t.query r w u) here (subst (λ w. RuleServes t.query r x.from w) end z.serves) in
          added_here (step_of p n u) x test ss (same_step x p u n here y end) (serves_test t.query r p u serves)));
      before = λ x h. added_before (step_of p n u) x test ss (k.before x h);
    })

pub scan_stop : (t : QueryContext) (n : ℕ) (r : MarkedRule) (p : ℤ) (old new : List Step) → t.mark ≤ℤ p → Scanned t n r (Some p) old new → Adds t n old new
scan_stop t n r p old new m k = record { sound = k.sound; complete = λ x i y. let b = i.below in k.complete x i y (omega (arith, ints)); before = k.before }

scan_start : (t : QueryContext) (n : ℕ) (r : MarkedRule) (next : Option ℤ) (ss : List Step) → slice_get t.rules n ≡ Some r → IsPlannable t
    → IsFirstStart r.rule t.query.from t.query.to next
    → Scanned t n r next ss ss
scan_start t n r None ss g s h = record {
  instant = tt;
  sound = λ a. a;
  complete = λ x i y.
      let z = step_place t n r x g i y in
      let z1 = z.one in
      let z2 = z.inside in
      let wide = rule_wide t.rules n r s.wide.rules g in
      let far = h x.from z.serves.starts i.from in
      absurd (omega (arith, ints));
  before = λ x a. a;
}
scan_start t n r (Some p) ss g s h = record {
  instant = (h.0, h.1, h.2);
  sound = λ a. a;
  complete = λ x i y l. let z = step_place t n r x g i y in let far = h.3 x.from z.serves.starts i.from in absurd (omega (arith, ints));
  before = λ x a. a;
}

pub scan_begin : (t : QueryContext) (n : ℕ) (r : MarkedRule) (next : Option ℤ) (ss : List Step) (u : Rule) (a b : ℤ) → slice_get t.rules n ≡ Some r → IsPlannable t → u ≡ r.rule → a ≡ t.query.from → b ≡ t.query.to → IsFirstStart u a b next → Scanned t n r next ss ss
scan_begin t n r next ss u a b g s e f l k =
    scan_start t n r next ss g s
    (subst (λ z. IsFirstStart z t.query.from t.query.to next) e (subst (λ z. IsFirstStart u z t.query.to next) f (subst (λ z. IsFirstStart u a z next) l k)))

pub scan_smaller : (t : QueryContext) (r : MarkedRule) (p : ℤ) (q : Option ℤ) → pos 1 ≤ℤ r.rule.interval → p ≤ℤ t.query.to → IsNextInstant t r p q → left_to t.query.to q < left_to t.query.to (Some p)
scan_smaller t r p None h l n = omega arith
scan_smaller t r p (Some e) h l n = let n0 = n.0 in let n1 = n.1 in omega (arith, ints)

-- a rule without the columns has no step
pub adds_none : (t : QueryContext) (n : ℕ) (r : MarkedRule) (ss : List Step) → slice_get t.rules n ≡ Some r → matches_query t.query r.rule ≡ false → Adds t n ss ss
adds_none t n r ss g w = record {
  sound = λ a. a;
  complete = λ x i e. absurd (true≢false (sym (serves_columns t.query r x.from x.to (step_place t n r x g i e).serves) ∙ w));
  before = λ x h. h;
}

-- the steps of the rules before n are in, and steps alone
pub record AllUpTo (t : QueryContext) (n : ℕ) (ss : List Step) : Type 0 where
  pub sound : AllByRecursion (IsStep t) ss
  pub complete : (x : Step) → IsStep t x → x.rule < n → Among x ss

by_next : {P : Type 0} (k n : ℕ) → k < n + 1 → (k < n → P) → (k ≡ n → P) → P
by_next k n l f g = by_lt_z (pos k) (pos n) (λ a. f (omega (arith, ints))) (λ a. g (omega (arith, ints)))

pub up_more : (t : QueryContext) (n : ℕ) (old new : List Step) → AllUpTo t n old → Adds t n old new → AllUpTo t (n + 1) new
up_more t n old new u a = record {
  sound = a.sound u.sound;
  complete = λ x i l. by_next x.rule n l (λ k. a.before x (u.complete x i k)) (λ e. a.complete x i e);
}

pub up_all : (t : QueryContext) (n : ℕ) (ss : List Step) → length t.rules ≤ n → AllUpTo t n ss → (x : Step) → IsStep t x → Among x ss
up_all t n ss l u x i = let k = in_range t.rules x.rule i.rule i.there in u.complete x i (omega arith)

-- ---- in order

abbrev step_cmp : Step → Step → Ordering
step_cmp a b = ordering_then (int_cmp a.from b.from) (ordering_then (nat_cmp a.rule b.rule) (int_cmp a.to b.to))

upto_from : (x y : Step) → is_lt (step_cmp y x) ≡ false → Upto x y
upto_from x y h = record { from = low x y h; rule = λ e. next x y h e }
  where
    low : (x y : Step) → is_lt (step_cmp y x) ≡ false → x.from ≤ℤ y.from
    low x y h = grind (arith, ints)

    next : (x y : Step) → is_lt (step_cmp y x) ≡ false → x.from ≡ y.from → x.rule ≤ y.rule
    next x y h e = grind (arith, ints)

upto_trans : (x y z : Step) → Upto x y → Upto y z → Upto x z
upto_trans x y z a b =
    let a0 = a.from in
    let b0 = b.from in
    record { from = omega (arith, ints); rule = λ e. let p : x.from ≡ y.from = omega (arith, ints) in let q : y.from ≡ z.from = omega (arith, ints) in let u = a.rule p in let v = b.rule q in omega arith }

uptos_trans : (x y : Step) (ss : List Step) → Upto x y → AllByRecursion (λ (z : Step). Upto y z) ss → AllByRecursion (λ (z : Step). Upto x z) ss
uptos_trans x y [] u a = tt
uptos_trans x y (z ∷ ss) u a = (upto_trans x y z u a.0, uptos_trans x y ss u a.1)

by_neighbours : (ss : List Step) → ((k : ℕ) (d : Step) → suc k < length ss → Upto (get_or ss k d) (get_or ss (suc k) d)) → Ascends ss
by_neighbours [] h = tt
by_neighbours (x ∷ []) h = (tt, tt)
by_neighbours (x ∷ y ∷ ss) h =
    let r = by_neighbours (y ∷ ss) (λ k d l. h (suc k) d (omega arith)) in
    let u = h 0 x (omega arith) in
    ((u, uptos_trans x y ss u r.0), r)

pub sorted_ascends : (ss : List Step) → ((k : ℕ) (d : Step) → 0 ≤ k → k + 1 < length ss → is_lt (step_cmp (get_or ss (k + 1) d) (get_or ss k d)) ≡ false) → Ascends ss
sorted_ascends ss h = by_neighbours ss (λ k d l. upto_from _ _ (subst (λ z. is_lt (step_cmp (get_or ss z d) (get_or ss k d)) ≡ false) (omega arith) (h k d (omega arith) (omega arith))))
