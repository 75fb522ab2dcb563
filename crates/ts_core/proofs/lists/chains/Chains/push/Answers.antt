use Rattle.std.proofs.Common.{◌≡◌, ℕ, ap, subst, sym, ◌∙◌, List, [], ◌∷◌, ◌++◌, length, nat_eq, Option, Some, cond, is_ok, rules}
use Rattle.std.specs.HashMap.{get}
use Rattle.ts_core.specs.declared.lists.chains.Link.{Link}
use Rattle.ts_core.specs.lists.Links.{AreChained}
use Rattle.ts_core.proofs.lists.Chained.{chained_push}
use Rattle.ts_core.proofs.lists.chains.Chains.push.Goals as goal

pub invariant_of-self-2 : goal.invariant_of-self-2
invariant_of-self-2 g c =
    let links : List Link = c.self.inside.links.items in
    let before : ℕ → Option ℕ = get nat_eq c.self.inside.newest in
    let index : c.in_ok-at.at ≡ length links = search rules in
    let link : Link = record { hash = c.args.hash; older = c.in_ok-older.older } in
    let pushed : c.push.new.self.items ≡ links ++ record { hash = c.args.hash; older = before c.args.hash } ∷ [] =
    c.push.ensures.items ∙ ap (λ r. cond (is_ok r) (c.reserve_eighth.new.list.items ++ link ∷ []) c.reserve_eighth.new.list.items) c.unwrap.ensures
    ∙ ap (λ (ls : List Link). ls ++ link ∷ []) c.in_ok-reserve_eighth.ensures.items
    ∙ ap (λ o. links ++ record { hash = c.args.hash; older = o } ∷ []) c.in_ok-older.ensures.old in
    subst (λ (ls : List Link). AreChained (get nat_eq c.insert.new.self) ls) (sym pushed)
    (chained_push before (get nat_eq c.insert.new.self) links c.args.hash c.self.invariant
    (λ q. c.in_ok-older.ensures.updates.0 q ∙ ap (λ n. cond (nat_eq c.args.hash q) (Some n) (before q)) index))
