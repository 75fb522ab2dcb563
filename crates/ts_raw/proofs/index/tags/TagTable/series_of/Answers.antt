use Rattle.std.proofs.Common.{◌≡◌, ℕ, ◌+◌, ◌<◌, List, [], ◌∷◌, ◌++◌, length, get_or, Option, Some, None, refl, sym, ◌∙◌, ap, subst, rules}
use Rattle.ts_raw.specs.declared.index.tags.TagLink.{TagLink}
use Rattle.ts_raw.specs.TagChains.{TagChains, head_of, next_of, no_link, LeadsTo}
use Rattle.ts_raw.proofs.TagLemmas.{IsGathered, gathered_none, gathered_on, gathered_all, links_left, links_fall, same_member}
use Rattle.ts_raw.proofs.index.tags.TagTable.series_of.Goals as goal

pub loop-next-init : goal.loop-next-init
loop-next-init g c =
    let links : List TagLink = c.self.inside.links.items in
    let head : Option ℕ = head_of c.self.inside.newest.entries c.args.hash in
    let is : c.copied-next.result ≡ head = search rules in
    let empty : c.new-found.result.items ≡ [] = search rules in
    subst (λ (xs : List ℕ). IsGathered links head xs c.copied-next.result) (sym empty)
    (subst (IsGathered links head []) (sym is) (gathered_none links head (c.self.invariant c.args.hash)))

pub index-link-requires : goal.index-link-requires
index-link-requires g c =
    let links : List TagLink = c.self.inside.links.items in
    let head : Option ℕ = head_of c.self.inside.newest.entries c.args.hash in
    let before : IsGathered links head c.loop-next.found.items (Some c.in-Some.at) = subst (IsGathered links head c.loop-next.found.items) c.in-Some.is c.loop-next.invariant in
    let within : c.in-Some.at < length links = before.within c.in-Some.at (refl) in
    search rules

pub loop-next-preserved : goal.loop-next-preserved
loop-next-preserved g c =
    let links : List TagLink = c.self.inside.links.items in
    let head : Option ℕ = head_of c.self.inside.newest.entries c.args.hash in
    let found : List ℕ = c.loop-next.found.items in
    let i : ℕ = c.in-Some.at in
    let link : TagLink = get_or links i no_link in
    let before : IsGathered links head found (Some i) = subst (IsGathered links head found) c.in-Some.is c.loop-next.invariant in
    let within : i < length links = before.within i (refl) in
    let is : c.index-link.result.now ≡ link = c.index-link.ensures ∙ same_member links i c.index-link.result.now no_link within in
    let pushed : c.push.new.self.items ≡ found ++ link.series ∷ [] = c.in_ok-push.ensures.items ∙ ap (λ (l : TagLink). found ++ l.series ∷ []) is in
    let next : c.next-next.result ≡ next_of link i = c.next-next.ensures ∙ ap (λ (l : TagLink). next_of l i) is in
    subst (λ (xs : List ℕ). IsGathered links head xs c.next-next.result) (sym pushed)
    (subst (IsGathered links head (found ++ link.series ∷ [])) (sym next) (gathered_on links head found i before))

pub loop-next-smaller : goal.loop-next-smaller
loop-next-smaller g c =
    subst (λ (now : Option ℕ). links_left c.next-next.result < links_left now) (sym c.in-Some.is)
    (subst (λ (next : Option ℕ). links_left next < c.in-Some.at + 1) (sym c.next-next.ensures) (links_fall c.index-link.result.now c.in-Some.at))

pub returns : goal.returns
returns g c =
    let links : List TagLink = c.self.inside.links.items in
    let head : Option ℕ = head_of c.self.inside.newest.entries c.args.hash in
    let ended : c.loop-next.next ≡ None = search rules in
    λ n leads.
    let is : LeadsTo (record { newest = c.self.inside.newest.entries; links = links }) c.args.hash n = subst (λ (chains : TagChains). LeadsTo chains c.args.hash n) (sym c.self.view_is) leads in
    gathered_all links head c.loop-next.found.items (subst (IsGathered links head c.loop-next.found.items) ended c.loop-next.invariant) n is.0 is.1
