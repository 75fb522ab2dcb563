use Rattle.std.proofs.Common.{◌≡◌, ◌≤◌, ◌==◌, ℕ, List, cond, set, true, false, sym, ◌∙◌, ap, subst, refl}
use Rattle.ts_cells.specs.Rows.{no_slot, slot_of, slots_width}
use Rattle.ts_cells.proofs.SlotLemmas.{SlotPut, slots_set, set_narrow, slot_missing}
use Rattle.ts_cells.proofs.RowLemmas.{same_number}
use Rattle.ts_cells.proofs.slot_map.SlotMap.remove.Given.{Over}
use Rattle.ts_cells.proofs.slot_map.SlotMap.remove.Goals as goal

-- the entry that changed
changed : (g : Over) (c : goal.After-self-1 g) → SlotPut c.self.inside.slots.items (set c.self.inside.slots.items c.in-Ok.at (c.index_mut.result.now.0, no_slot)) c.args.series no_slot
changed g c =
    let es : List (ℕ × ℕ) = c.self.inside.slots.items in
    let bound = rw c.as_slice.ensures.value at c.in-Ok.ensures.bound in
    let slot = rw c.as_slice.ensures.value at c.in-Ok.ensures.slot in
    let was : ℕ × ℕ = c.index_mut.result.now in
    subst (λ (x : ℕ × ℕ). SlotPut es (set es c.in-Ok.at (x.0, no_slot)) c.args.series no_slot) (sym c.index_mut.ensures.value)
    (slots_set es c.args.series no_slot c.in-Ok.at was c.self.invariant bound (slot was))

pub invariant_of-self : goal.invariant_of-self
invariant_of-self g c = (changed g c).sorted

pub returns-in-Ok-clause-slots : goal.returns-in-Ok-clause-slots
returns-in-Ok-clause-slots g c = λ j. (changed g c).put j ∙ ap (λ (s : List (ℕ × ℕ)). cond (j == c.args.series) no_slot (slot_of s j)) c.self.view_is

pub returns-in-Ok-clause-len : goal.returns-in-Ok-clause-len
returns-in-Ok-clause-len g c =
    let es : List (ℕ × ℕ) = c.self.inside.slots.items in
    let was : ℕ × ℕ = c.index_mut.result.now in
    subst (λ (s : List (ℕ × ℕ)). slots_width (set es c.in-Ok.at (was.0, no_slot)) ≤ slots_width s) c.self.view_is
    (subst (λ (x : ℕ × ℕ). slots_width (set es c.in-Ok.at (x.0, no_slot)) ≤ slots_width es) (sym c.index_mut.ensures.value) (set_narrow es c.in-Ok.at no_slot was))

pub returns-in_default-clause-slots : goal.returns-in_default-clause-slots
returns-in_default-clause-slots g c = λ j.
    let es : List (ℕ × ℕ) = c.self.inside.slots.items in
    let bound = rw c.as_slice.ensures.value at c.in_default.ensures.bound in
    let slot = rw c.as_slice.ensures.value at c.in_default.ensures.slot in
    let none : slot_of es c.args.series ≡ no_slot = slot_missing es c.args.series c.in_default.field-0 bound slot in
    subst (λ (s : List (ℕ × ℕ)). slot_of s j ≡ cond (j == c.args.series) no_slot (slot_of s j)) c.self.view_is
    (elim (j == c.args.series) as (λ b. (j == c.args.series) ≡ b → slot_of es j ≡ cond b no_slot (slot_of es j)) [
      | true ↦ λ e. ap (slot_of es) (same_number j c.args.series e) ∙ none
      | false ↦ λ e. refl
    ] refl)
