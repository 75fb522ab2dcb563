use Rattle.std.proofs.Common.{rules, arith, ◌≡◌, ◌+◌, ◌∙◌, refl, subst, suc}
use Rattle.ts_store.specs.retain.WholeRuns.{TakesStep}
use Rattle.ts_store.specs.declared.retain.StepAnswer.TheVariants.{Moved, Done}
use Rattle.ts_http.proofs.MaintainLemmas.{goes_on, ends}
use Rattle.ts_store.proofs.store.WholeStatesKept.{Steps, no_steps, one_step}
use Rattle.ts_http.proofs.maintaining.run_steps.Goals as goal

pub loop-taken-init : goal.loop-taken-init
loop-taken-init g c = record {
  within = omega arith;
  steps = λ s i. no_steps s c.args.store.now i;
  running = c.requires;
  marks = refl;
}

pub loop-taken-preserved : goal.loop-taken-preserved
loop-taken-preserved g c =
    let moved : c.step.result ≡ Moved = search rules in
    let did = subst (TakesStep c.loop-taken.store c.step.new.self) moved c.step.ensures in
    let next : suc c.loop-taken.taken ≡ c.loop-taken.taken + 1 = omega arith in
    record {
      within = omega (arith, c.loop-taken-test.true);
      steps = λ s i. subst (λ n. Steps s n c.step.new.self) next (one_step s c.loop-taken.taken c.loop-taken.store c.step.new.self c.loop-taken.invariant.running did (c.loop-taken.invariant.steps s i));
      running = c.step.ensures.running moved;
      marks = c.step.ensures.marks ∙ c.loop-taken.invariant.marks;
    }

pub returns-then-eq : goal.returns-then-eq
returns-then-eq g c =
    let done : c.step.result ≡ Done = search rules in
    let did = subst (TakesStep c.loop-taken.store c.step.new.self) done c.step.ensures in
    record {
      states = λ s i. ends c.args.limit s c.loop-taken.taken c.loop-taken.store c.step.new.self c.loop-taken-test.true c.loop-taken.invariant.running did (c.loop-taken.invariant.steps s i);
      marks = c.step.ensures.marks ∙ c.loop-taken.invariant.marks;
    }

pub returns : goal.returns
returns g c =
    let all : c.loop-taken.taken ≡ c.args.limit = (let within = c.loop-taken.invariant.within in omega (arith, c.loop-taken-test.false)) in
    record {
      states = λ s i. goes_on c.args.limit s c.loop-taken.store (subst (λ n. Steps s n c.loop-taken.store) all (c.loop-taken.invariant.steps s i));
      marks = c.loop-taken.invariant.marks;
    }
