use Rattle.std.proofs.Common.{◌≡◌, ℕ, ◌+◌, ◌<◌, List, get_or, Option, None, subst, sym, rules}
use Rattle.std.proofs.lemmas.Option.{slice_get_within}
use Rattle.ts_core.proofs.lists.ChainSearches.{IsSearched, search_at, search_newer, search_goes_on, search_ends, places_left, places_fall}
use Rattle.ts_core.proofs.lists.chains.Chains.find.Goals as goal

pub is-requires : goal.is-requires
is-requires g c =
    c.requires c.in-Some.at (search_at c.args.self.now c.args.hash _ c.in-Some.at (subst (IsSearched c.args.self.now c.args.hash _) c.in-Some.is c.loop-next.invariant))

pub returns-then-is-clause-found : goal.returns-then-is-clause-found
returns-then-is-clause-found g c =
    (search_at c.args.self.now c.args.hash _ c.in-Some.at (subst (IsSearched c.args.self.now c.args.hash _) c.in-Some.is c.loop-next.invariant), c.if-is.ensures)

pub returns-then-is-clause-newest : goal.returns-then-is-clause-newest
returns-then-is-clause-newest g c =
    search_newer c.args.self.now c.args.hash _ c.in-Some.at (subst (IsSearched c.args.self.now c.args.hash _) c.in-Some.is c.loop-next.invariant)

pub older-next-requires : goal.older-next-requires
older-next-requires g c =
    slice_get_within c.args.self.now c.in-Some.at c.args.hash (search_at c.args.self.now c.args.hash _ c.in-Some.at (subst (IsSearched c.args.self.now c.args.hash _) c.in-Some.is c.loop-next.invariant))

pub loop-next-smaller : goal.loop-next-smaller
loop-next-smaller g c =
    let hashes : List ℕ = c.args.self.now in
    subst (λ (now : Option ℕ). places_left c.older-next.result < places_left now) (sym c.in-Some.is)
    (subst (λ (next : Option ℕ). places_left next < c.in-Some.at + 1) (sym c.older-next.ensures) (places_fall hashes (get_or hashes c.in-Some.at 0) c.in-Some.at))

pub loop-next-preserved : goal.loop-next-preserved
loop-next-preserved g c =
    subst (IsSearched c.args.self.now c.args.hash _) (sym c.older-next.ensures)
    (search_goes_on c.args.self.now c.args.hash _ c.in-Some.at (subst (IsSearched c.args.self.now c.args.hash _) c.in-Some.is c.loop-next.invariant) c.if-is.ensures)

pub returns-clause-absent : goal.returns-clause-absent
returns-clause-absent g c =
    let ended : c.loop-next.next ≡ None = search rules in
    search_ends c.args.self.now c.args.hash _ (subst (IsSearched c.args.self.now c.args.hash _) ended c.loop-next.invariant)
