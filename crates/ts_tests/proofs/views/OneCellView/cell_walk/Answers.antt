use Rattle.std.proofs.Common.{rules, ◌≡◌, ◌<◌, ◌∙◌, ℕ, ℤ, List, [], ◌∷◌, true, false, ap, sym, subst, length, get_or, map, if◌then◌else◌}
use Rattle.std.proofs.lemmas.List.{get_or-map, length-map}
use Rattle.ts_core.specs.facts.Facts.{is_within}
use Rattle.ts_core.specs.store.StoreStates.{RuleCells}
use Rattle.ts_store.specs.read.ViewResults.{SeenCell, with_parts, no_rule, cells_within, view_cells_at}
use Rattle.ts_tests.proofs.views.OneCellView.cell_walk.Goals as goal

-- a rule with this cell alone
abbrev alone : SeenCell → RuleCells → RuleCells
alone c r = record { rule = r.rule; low = r.low; cells = c.cell ∷ []; parts = λ k. c.parts }

rule_there : (c : SeenCell) (rs : List RuleCells) (n : ℕ) (a b : ℤ) → n < length (map (alone c) rs) → view_cells_at (map (alone c) rs) n a b ≡ cells_within (alone c (get_or rs n no_rule)) a b
rule_there c rs n a b there = ap (λ (r : RuleCells). cells_within r a b) (get_or-map (alone c) rs n no_rule no_rule (subst (λ m. n < m) (length-map rs (alone c)) there))

cell_within : (c : SeenCell) (r : RuleCells) (a b : ℤ) → is_within a b c.cell.index ≡ true → cells_within (alone c r) a b ≡ c ∷ []
cell_within c r a b e = ap (λ z. map (with_parts (λ k. c.parts)) (if z then c.cell ∷ [] else [])) e

cell_outside : (c : SeenCell) (r : RuleCells) (a b : ℤ) → is_within a b c.cell.index ≡ false → cells_within (alone c r) a b ≡ []
cell_outside c r a b e = ap (λ z. map (with_parts (λ k. c.parts)) (if z then c.cell ∷ [] else [])) e

walk_inside : (c : SeenCell) (rs : List RuleCells) (n : ℕ) (a b : ℤ) → n < length (map (alone c) rs) → is_within a b c.cell.index ≡ true → c ∷ [] ≡ view_cells_at (map (alone c) rs) n a b
walk_inside c rs n a b there e = sym (rule_there c rs n a b there ∙ cell_within c (get_or rs n no_rule) a b e)

walk_outside : (c : SeenCell) (rs : List RuleCells) (n : ℕ) (a b : ℤ) → n < length (map (alone c) rs) → is_within a b c.cell.index ≡ false → [] ≡ view_cells_at (map (alone c) rs) n a b
walk_outside c rs n a b there e = sym (rule_there c rs n a b there ∙ cell_outside c (get_or rs n no_rule) a b e)

pub returns-then-is_within : goal.returns-then-is_within
returns-then-is_within g c =
    let here : is_within c.args.from.now c.args.to.now c.args.self.now.cell.cell.index ≡ true = search rules in
    c.from_slice.ensures ∙ c.from_ref.ensures.value ∙ walk_inside c.args.self.now.cell _ _ _ _ c.requires here

pub returns-else-is_within : goal.returns-else-is_within
returns-else-is_within g c =
    let here : is_within c.args.from.now c.args.to.now c.args.self.now.cell.cell.index ≡ false = search rules in
    c.from_slice-else-is_within.ensures ∙ walk_outside c.args.self.now.cell _ _ _ _ c.requires here
