use Rattle.std.proofs.Common.{rules, ◌≡◌, ◌∙◌, ap, sym, true, not, ◌&&◌, Bor}
use Rattle.std.specs.List.{list_all}
use Rattle.std.proofs.lemmas.List.Folds.{list_all-map}
use Rattle.ts_core.specs.facts.Facts.{Text}
use Rattle.ts_core.specs.queries.Queries.{Condition, meets}
use Rattle.ts_core.specs.text.Texts.{borrowed_pairs}
use Rattle.ts_exec.specs.Borrowed.{borrowed}
use Rattle.ts_exec.specs.SeriesTests.{SeriesTests, is_refused, meets_tests}
use Rattle.ts_exec.proofs.tag_conditions.TagConditions.are_met.Goals as goal

pub returns-then-are_allowed-clause-value : goal.returns-then-are_allowed-clause-value
returns-then-are_allowed-clause-value g c =
    let s = c.args.key.now in
    let needed = c.self.inside.needed.items in
    let refused = borrowed_pairs c.self.inside.refused.items in
    let allowed : list_all (λ (t : Text × Text). not (is_refused refused t)) s.tags ≡ true = search rules in
    let each : c.meets_each.result ≡ list_all (λ (d : Bor Condition). meets s d.now) needed = search rules in
    each
    ∙ sym (list_all-map (meets s) (λ (d : Bor Condition). d.now) needed)
    ∙ ap (λ b. b && list_all (meets s) (borrowed needed)) (sym allowed)
    ∙ ap (λ (t : SeriesTests). meets_tests t.needed t.refused s) c.self.view_is
