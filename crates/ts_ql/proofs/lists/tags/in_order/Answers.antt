use Rattle.std.proofs.Common.{rules, ◌≡◌, IfOk}
use Rattle.std.proofs.lemmas.Result.{IfOk-weaker}
use Rattle.ts_ql.proofs.GroupLemmas.{sorted_as}
use Rattle.ts_ql.proofs.lists.tags.in_order.Goals as goal

pub returns-clause-order : goal.returns-clause-order
returns-clause-order g c =
    let names = c.args.tags.keys in
    let same : IfOk c.collect.result (λ list. list.items ≡ names) = search rules in
    IfOk-weaker c.collect.result _ _ (λ list e. sorted_as names list.items e c.iter-order.ensures.ordered) same
