use Rattle.std.proofs.Common.{rules, ◌∙◌, ◌<◌, sym, arith}
use Rattle.ts_exec.specs.GroupValues.{seen_set}
use Rattle.ts_exec.proofs.SetSteps.{some-next, no-next}
use Rattle.ts_exec.proofs.group_values.GroupValuesIterIterator.next.Goals as goal

pub returns-in-Some-clause-steps : goal.returns-in-Some-clause-steps
returns-in-Some-clause-steps c =
    let inside = c.self.inside in
    let more : inside.next < inside.end = omega arith in
    sym c.self.view_is ∙ some-next inside.next inside.end inside.given c.in-Some.value.now inside.set.now more (search rules)

pub returns-in-None-clause-steps : goal.returns-in-None-clause-steps
returns-in-None-clause-steps c =
    let inside = c.self.inside in
    let more : inside.next < inside.end = omega arith in
    sym c.self.view_is ∙ no-next inside.next inside.end (seen_set _) more (search rules)

pub returns-in-Some-clause-goes : goal.returns-in-Some-clause-goes
returns-in-Some-clause-goes c = rw (returns-in-Some-clause-steps c) record { on = λ _. (tt, tt, omega arith); keeps = tt; rests = λ _. tt }

pub returns-in-None-clause-goes : goal.returns-in-None-clause-goes
returns-in-None-clause-goes c = rw (returns-in-None-clause-steps c) record { on = λ _. (tt, tt, omega arith); keeps = tt; rests = λ _. tt }
