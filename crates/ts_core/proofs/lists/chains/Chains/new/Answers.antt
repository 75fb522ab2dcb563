use Rattle.std.proofs.Common.{ap, subst, sym, List, nat_eq}
use Rattle.std.specs.Map.{lookup}
use Rattle.std.specs.HashMap.{get}
use Rattle.ts_core.specs.declared.lists.chains.Link.{Link}
use Rattle.ts_core.specs.lists.Links.{AreChained}
use Rattle.ts_core.proofs.lists.Chained.{chained_none}
use Rattle.ts_core.proofs.lists.chains.Chains.new.Goals as goal

pub invariant_of-result : goal.invariant_of-result
invariant_of-result g c =
    subst (λ (links : List Link). AreChained (get nat_eq c.new.result) links) (sym c.new-2.ensures.items)
    (chained_none (get nat_eq c.new.result) (λ q. ap (λ es. lookup (nat_eq q) es) c.new.ensures.empty))
