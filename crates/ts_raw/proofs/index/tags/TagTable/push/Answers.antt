use Rattle.std.proofs.Common.{◌≡◌, ℕ, List, ◌∷◌, [], ◌++◌, length, Some, unwrap_or, cond, nat_eq, sym, ◌∙◌, ap, subst, rules}
use Rattle.ts_raw.specs.declared.index.tags.TagLink.{TagLink}
use Rattle.ts_raw.specs.TagChains.{TagChains, head_of, LeadsTo, KeepLeads}
use Rattle.ts_raw.proofs.TagLemmas.{pushed_leads, pushed_kept}
use Rattle.ts_raw.proofs.index.tags.TagTable.push.Given.{Over}
use Rattle.ts_raw.proofs.index.tags.TagTable.push.Goals as goal

pushed : (g : Over) (c : goal.After-unwrap g) → c.push.new.self.items ≡ c.self.inside.links.items ++ record { series = c.args.series; older = c.unwrap_or-older.result; count = c.saturating_add-count.result } ∷ []
pushed g c = search rules

moved : (g : Over) (c : goal.After-unwrap g) (q : ℕ) → head_of c.insert.new.self.entries q ≡ cond (nat_eq c.args.hash q) (Some (length c.self.inside.links.items)) (head_of c.self.inside.newest.entries q)
moved g c q =
    let index : c.in_ok-at.at ≡ length c.self.inside.links.items = search rules in
    c.in_ok-older.ensures.updates.0 q ∙ ap (λ n. cond (nat_eq c.args.hash q) (Some n) (head_of c.self.inside.newest.entries q)) index

older : (g : Over) (c : goal.After-unwrap g) → c.unwrap_or-older.result ≡ unwrap_or (head_of c.self.inside.newest.entries c.args.hash) (length c.self.inside.links.items)
older g c =
    let index : c.in_ok-at.at ≡ length c.self.inside.links.items = search rules in
    c.unwrap_or-older.ensures ∙ ap (λ o. unwrap_or o c.in_ok-at.at) c.in_ok-older.ensures.old ∙ ap (unwrap_or (head_of c.self.inside.newest.entries c.args.hash)) index

pub returns-clause-kept : goal.returns-clause-kept
returns-clause-kept g c =
    let links : List TagLink = c.self.inside.links.items in
    let newest : List (ℕ × ℕ) = c.self.inside.newest.entries in
    subst (λ (before : TagChains). KeepLeads before (record { newest = c.insert.new.self.entries; links = c.push.new.self.items })) c.self.view_is
    (subst (λ (ls : List TagLink). KeepLeads (record { newest = newest; links = links }) (record { newest = c.insert.new.self.entries; links = ls })) (sym (pushed g c))
    (pushed_kept newest c.insert.new.self.entries links c.args.hash c.args.series c.unwrap_or-older.result c.saturating_add-count.result c.self.invariant (moved g c) (older g c)))

pub returns-clause-ok : goal.returns-clause-ok
returns-clause-ok g c =
    let links : List TagLink = c.self.inside.links.items in
    let newest : List (ℕ × ℕ) = c.self.inside.newest.entries in
    subst (λ (ls : List TagLink). LeadsTo (record { newest = c.insert.new.self.entries; links = ls }) c.args.hash c.args.series) (sym (pushed g c))
    (pushed_leads newest c.insert.new.self.entries links c.args.hash c.args.series c.unwrap_or-older.result c.saturating_add-count.result c.self.invariant (moved g c))
