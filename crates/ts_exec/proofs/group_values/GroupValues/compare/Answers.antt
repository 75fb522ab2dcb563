use Rattle.std.proofs.Common.{◌∙◌, sym, ap₂, subst}
use Rattle.std.specs.Ordering.{ordering_then}
use Rattle.ts_core.specs.queries.Answers.{group_cmp}
use Rattle.ts_exec.specs.GroupValues.{AreSetValues, seen_set}
use Rattle.ts_exec.proofs.GroupValuesLemmas.{compare-set}
use Rattle.ts_exec.proofs.SetSteps.{seen-cmp, none-more}
use Rattle.ts_exec.proofs.group_values.GroupValues.compare.Goals as goal

pub returns : goal.returns
returns c =
    let us = c.self.inside.set.now in
    let vs = c.other.inside.set.now in
    c.then.ensures
    ∙ ap₂ ordering_then (c.cmp.ensures ∙ seen-cmp us vs) c.cmp-2.ensures
    ∙ sym (compare-set 0 c.self.inside.tags c.other.inside.tags (seen_set us) (seen_set vs)
    (subst (λ n. AreSetValues 0 n (seen_set us)) (sym (none-more c.self.inside.tags)) c.self.invariant) (subst (λ n. AreSetValues 0 n (seen_set vs)) (sym (none-more c.other.inside.tags)) c.other.invariant))
    ∙ ap₂ group_cmp c.self.view_is c.other.view_is
