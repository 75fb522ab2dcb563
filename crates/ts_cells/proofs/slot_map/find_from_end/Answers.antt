use Rattle.std.proofs.Common.{rules, ◌≡◌, ◌<◌, ◌-◌, ℕ, length, get_or, Less, sym}
use Rattle.std.specs.Cmp.{nat_cmp_is}
use Rattle.ts_cells.proofs.SlotLemmas.{past_last}
use Rattle.ts_cells.proofs.slot_map.find_from_end.Goals as goal

pub returns-in_default-clause-slot : goal.returns-in_default-clause-slot
returns-in_default-clause-slot c =
    let below : c.in-Some.last.now.0 < c.args.series = search rules in
    let last : (d : ℕ × ℕ) → get_or c.args.slots.now (length c.args.slots.now - 1) d ≡ c.in-Some.last.now = λ d. search rules in
    past_last c.args.slots.now c.args.series c.in-Some.last.now c.requires last (sym (nat_cmp_is c.in-Some.last.now.0 c.args.series Less below))
