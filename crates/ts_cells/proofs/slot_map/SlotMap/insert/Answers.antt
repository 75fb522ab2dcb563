use Rattle.std.proofs.Common.{◌≡◌, ◌≤◌, ◌+◌, ◌==◌, max, ℕ, List, cond, set, insert, sym, ◌∙◌, ap, subst}
use Rattle.ts_cells.specs.Rows.{slot_of, slots_width}
use Rattle.ts_cells.proofs.SlotLemmas.{SlotPut, slots_set, slots_new}
use Rattle.ts_cells.proofs.slot_map.SlotMap.insert.Given.{Over}
use Rattle.ts_cells.proofs.slot_map.SlotMap.insert.Goals as goal

-- the entry that changed
changed : (g : Over) (c : goal.After-self-1 g) → SlotPut c.self.inside.slots.items (set c.self.inside.slots.items c.in-Ok.at (c.index_mut.result.now.0, c.args.slot)) c.args.series c.args.slot
changed g c =
    let es : List (ℕ × ℕ) = c.self.inside.slots.items in
    let bound = rw c.as_slice.ensures.value at c.in-Ok.ensures.bound in
    let slot = rw c.as_slice.ensures.value at c.in-Ok.ensures.slot in
    let was : ℕ × ℕ = c.index_mut.result.now in
    subst (λ (x : ℕ × ℕ). SlotPut es (set es c.in-Ok.at (x.0, c.args.slot)) c.args.series c.args.slot) (sym c.index_mut.ensures.value)
    (slots_set es c.args.series c.args.slot c.in-Ok.at was c.self.invariant bound (slot was))

-- the entry that is new
made : (g : Over) (c : goal.In_ok-insert-in-Err g) → SlotPut c.self.inside.slots.items c.insert.new.self.items c.args.series c.args.slot
made g c =
    let es : List (ℕ × ℕ) = c.self.inside.slots.items in
    let bound = rw c.as_slice.ensures.value at c.in-Err.ensures.bound in
    let slot = rw c.as_slice.ensures.value at c.in-Err.ensures.slot in
    let items : c.insert.new.self.items ≡ insert es c.in-Err.at (c.args.series, c.args.slot) = c.in_ok-insert-in-Err.ensures.items ∙ ap (λ xs. insert xs c.in-Err.at (c.args.series, c.args.slot)) c.reserve_eighth.ensures.items in
    subst (λ xs. SlotPut es xs c.args.series c.args.slot) (sym items) (slots_new es c.args.series c.args.slot c.in-Err.at c.self.invariant bound slot)

pub invariant_of-self : goal.invariant_of-self
invariant_of-self g c = (changed g c).sorted

pub invariant_of-self-in-Continue-branch-2 : goal.invariant_of-self-in-Continue-branch-2
invariant_of-self-in-Continue-branch-2 g c = (made g c).sorted

pub returns-in-Ok-clause-ok : goal.returns-in-Ok-clause-ok
returns-in-Ok-clause-ok g c = λ j. (changed g c).put j ∙ ap (λ (s : List (ℕ × ℕ)). cond (j == c.args.series) c.args.slot (slot_of s j)) c.self.view_is

pub returns-in-Ok-clause-len : goal.returns-in-Ok-clause-len
returns-in-Ok-clause-len g c =
    subst (λ (s : List (ℕ × ℕ)). slots_width (set c.self.inside.slots.items c.in-Ok.at (c.index_mut.result.now.0, c.args.slot)) ≤ max (slots_width s) (c.args.series + 1)) c.self.view_is (changed g c).narrow

pub returns-in_ok-insert-in-Err-clause-ok : goal.returns-in_ok-insert-in-Err-clause-ok
returns-in_ok-insert-in-Err-clause-ok g c = λ j. (made g c).put j ∙ ap (λ (s : List (ℕ × ℕ)). cond (j == c.args.series) c.args.slot (slot_of s j)) c.self.view_is

pub returns-in_ok-insert-in-Err-clause-len : goal.returns-in_ok-insert-in-Err-clause-len
returns-in_ok-insert-in-Err-clause-len g c = subst (λ (s : List (ℕ × ℕ)). slots_width c.insert.new.self.items ≤ max (slots_width s) (c.args.series + 1)) c.self.view_is (made g c).narrow
