use Rattle.std.proofs.Common.{◌≡◌, ℕ, List, sym, ◌∙◌, ap, subst}
use Rattle.ts_cells.specs.Rows.{no_slot, slot_of}
use Rattle.ts_cells.proofs.SlotLemmas.{slot_here, slot_missing}
use Rattle.ts_cells.proofs.slot_map.SlotMap.get.Goals as goal

pub returns-in-Ok : goal.returns-in-Ok
returns-in-Ok g c =
    let bound = rw c.as_slice.ensures.value at c.in-Ok.ensures.bound in
    let slot = rw c.as_slice.ensures.value at c.in-Ok.ensures.slot in
    let e : ℕ × ℕ = c.index.result.now in
    subst (λ (s : List (ℕ × ℕ)). e.1 ≡ slot_of s c.args.series) c.self.view_is
    (ap (λ (x : ℕ × ℕ). x.1) c.index.ensures ∙ sym (slot_here c.self.inside.slots.items c.args.series c.in-Ok.at e c.self.invariant bound (slot e)))

pub returns-in-Err : goal.returns-in-Err
returns-in-Err g c =
    let bound = rw c.as_slice.ensures.value at c.in-Err.ensures.bound in
    let slot = rw c.as_slice.ensures.value at c.in-Err.ensures.slot in
    subst (λ (s : List (ℕ × ℕ)). no_slot ≡ slot_of s c.args.series) c.self.view_is (sym (slot_missing c.self.inside.slots.items c.args.series c.in-Err.field-0 bound slot))
