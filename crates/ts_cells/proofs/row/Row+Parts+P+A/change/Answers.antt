use Rattle.std.proofs.Common.{rules, arith, true, false, ◌^◌, ap₂, ◌≡◌, ◌<◌, ◌≤◌, ◌==◌, ℕ, List, Some, length, set, nat_lt, option_map, ◌+◌, refl, cond, sym, ◌∙◌, ap, subst}
use Rattle.std.proofs.lemmas.Bool.Decides.{nat_tests}
use Rattle.std.specs.List.{slice_get}
use Rattle.std.proofs.lemmas.Option.{slice_get-get_or}
use Rattle.ts_core.specs.lists.Changes.{joined_within}
use Rattle.ts_core.specs.store.TwoParts.{PartsOf}
use Rattle.ts_cells.specs.CellChanges.{parts_after}
use Rattle.ts_cells.specs.FrozenCounts.{frozen_one, frozen_at}
use Rattle.ts_cells.specs.Grids.{RowOf, held}
use Rattle.ts_cells.specs.Rows.{slot_of, by_series}
use Rattle.ts_cells.proofs.RowLemmas.{length-by_series, held_at, none_held, none_put, part_put}
use Rattle.ts_cells.proofs.row.Row+Parts+P+A.change.Goals.{After-frozen_count, in-Freeze, in-Add, in-Correct}
use Rattle.ts_cells.proofs.row.Row+Parts+P+A.change.Given.{Over}
use Rattle.ts_cells.proofs.row.Row+Parts+P+A.change.Goals as goal

-- the parts of the cell after the change
after : (g : Over) (c : After-frozen_count g) → c.match-change.parts ≡ parts_after g.P.Partial.size g.P.Partial.join c.args.change c.index_mut-parts.result.now
after g c = elim c.match-change.branch [ in-Freeze w ↦ search rules | in-Add w ↦ search rules | in-Correct w ↦ search rules ]

-- its parts before it
before : (g : Over) (c : After-frozen_count g) → held (by_series c.self.inside.parts.items c.self.inside.slots) c.args.series ≡ Some c.index_mut-parts.result.now
before g c =
    let parts : List (PartsOf g.row.P.Denot) = c.self.inside.parts.items in
    let within : c.find_slot-slot.result < length parts = search rules in
    held_at parts c.self.inside.slots c.args.series c.self.invariant.few ∙ ap (slice_get parts) (sym c.find_slot-slot.ensures) ∙ slice_get-get_or parts c.find_slot-slot.result c.index_mut-parts.result.now within ∙ ap Some (sym c.index_mut-parts.ensures.value)

-- a merged part has no fewer facts
no_fewer : {P : Type 0} (size : P → ℕ) (join : P → P → P) → ((x y : P) → size (join x y) ≡ size x + size y) → (part kept : P) → size kept ≤ size (joined_within size join part kept)
no_fewer size join add part kept =
    let h = add kept part in
    elim (nat_lt (2 ^ 62) (size kept + size part)) as (λ b. size kept ≤ size (cond b kept (join kept part))) [ true ↦ omega arith | false ↦ omega arith ]

-- the frozen part has no fewer facts
rises : (g : Over) (c : After-frozen_count g) → g.P.Partial.size c.index_mut-parts.result.now.frozen ≤ g.P.Partial.size c.match-change.parts.frozen
rises g c = elim c.match-change.branch [ in-Freeze w ↦ (let h = no_fewer g.P.Partial.size g.P.Partial.join g.met.P.Partial.laws.count_merge w.in-Freeze.part c.parts.inside.frozen in search rules) | in-Add w ↦ search rules | in-Correct w ↦ search rules ]

-- counts the first facts
first : (n m : ℕ) → n ≤ m → cond (nat_lt 0 n) 1 0 + cond (nat_lt (cond (nat_lt 0 n) 1 0) (cond (nat_lt 0 m) 1 0)) 1 0 ≡ cond (nat_lt 0 m) 1 0
first n m h = grind (arith, nat_tests)

pub returns-clause-cells : goal.returns-clause-cells
returns-clause-cells g c = λ j.
    let parts : List (PartsOf g.row.P.Denot) = c.self.inside.parts.items in
    let slots : List (ℕ × ℕ) = c.self.inside.slots in
    let series : ℕ = c.args.series in
    let f : PartsOf g.row.P.Denot → PartsOf g.row.P.Denot = parts_after g.P.Partial.size g.P.Partial.join c.args.change in
    let within : c.find_slot-slot.result < length parts = search rules in
    let now : Some c.match-change.parts ≡ option_map f (held (by_series parts slots) series) = ap Some (after g c.before) ∙ ap (option_map f) (sym (before g c.before)) in
    subst (λ (s : RowOf (PartsOf g.row.P.Denot)). held (by_series (set parts c.find_slot-slot.result c.match-change.parts) slots) j ≡ cond (j == series) (option_map f (held s.1 series)) (held s.1 j)) c.self.view_is
    (part_put parts slots c.self.inside.series_of_slot.items series c.find_slot-slot.result c.match-change.parts c.self.invariant c.find_slot-slot.ensures within j ∙ ap (λ o. cond (j == series) o (held (by_series parts slots) j)) now)

pub returns-then-slot-len-clause-cells : goal.returns-then-slot-len-clause-cells
returns-then-slot-len-clause-cells g c = λ j.
    let parts : List (PartsOf g.row.P.Denot) = c.self.inside.parts.items in
    let slots : List (ℕ × ℕ) = c.self.inside.slots in
    let series : ℕ = c.args.series in
    let f : PartsOf g.row.P.Denot → PartsOf g.row.P.Denot = parts_after g.P.Partial.size g.P.Partial.join c.args.change in
    let slot : c.find_slot-slot.result ≡ slot_of slots series = c.find_slot-slot.ensures in
    let past : length parts ≤ c.find_slot-slot.result = search rules in
    subst (λ (s : RowOf (PartsOf g.row.P.Denot)). held s.1 j ≡ cond (j == series) (option_map f (held s.1 series)) (held s.1 j)) c.self.view_is
    (none_put (by_series parts slots) series j f (none_held parts slots series c.self.invariant.few (omega arith)))

pub returns-clause-len : goal.returns-clause-len
returns-clause-len g c =
    let parts : List (PartsOf g.row.P.Denot) = c.self.inside.parts.items in
    let slots : List (ℕ × ℕ) = c.self.inside.slots in
    let after : List (PartsOf g.row.P.Denot) = set parts c.find_slot-slot.result c.match-change.parts in
    subst (λ (s : RowOf (PartsOf g.row.P.Denot)). length (by_series after slots) ≡ length s.1) c.self.view_is (length-by_series after slots ∙ sym (length-by_series parts slots))

pub returns-clause-first : goal.returns-clause-first
returns-clause-first g c =
    let size : g.row.P.Denot → ℕ = g.P.Partial.size in
    let f : PartsOf g.row.P.Denot → PartsOf g.row.P.Denot = parts_after size g.P.Partial.join c.args.change in
    subst (λ o. frozen_at size o + cond (nat_lt c.frozen_count-before.result c.frozen_count.result) 1 0 ≡ frozen_at size (option_map f o)) (sym (before g c.before) ∙ ap (λ (s : RowOf (PartsOf g.row.P.Denot)). held s.1 c.args.series) c.self.view_is)
    (ap₂ (λ a b. frozen_one size c.index_mut-parts.result.now + cond (nat_lt a b) 1 0) c.frozen_count-before.ensures c.frozen_count.ensures ∙ first _ _ (rises g c.before) ∙ ap (frozen_one size) (after g c.before))

pub returns-then-slot-len-clause-first : goal.returns-then-slot-len-clause-first
returns-then-slot-len-clause-first g c =
    let parts : List (PartsOf g.row.P.Denot) = c.self.inside.parts.items in
    let slots : List (ℕ × ℕ) = c.self.inside.slots in
    let series : ℕ = c.args.series in
    let size : g.row.P.Denot → ℕ = g.P.Partial.size in
    let f : PartsOf g.row.P.Denot → PartsOf g.row.P.Denot = parts_after size g.P.Partial.join c.args.change in
    let slot : c.find_slot-slot.result ≡ slot_of slots series = c.find_slot-slot.ensures in
    let past : length parts ≤ c.find_slot-slot.result = search rules in
    subst (λ o. frozen_at size o + 0 ≡ frozen_at size (option_map f o)) (sym (none_held parts slots series c.self.invariant.few (omega arith)) ∙ ap (λ (s : RowOf (PartsOf g.row.P.Denot)). held s.1 series) c.self.view_is) refl
