use Rattle.std.proofs.Common.{rules, arith, ◌≡◌, ◌<◌, ◌≤◌, ℕ, List, Some, None, length, get_or, sym, ◌∙◌, ap, subst}
use Rattle.std.specs.List.{slice_get}
use Rattle.std.proofs.lemmas.Option.{slice_get-get_or}
use Rattle.ts_cells.specs.Grids.{RowOf, held}
use Rattle.ts_cells.specs.Rows.{slot_of}
use Rattle.ts_cells.proofs.RowLemmas.{held_at, none_held}
use Rattle.ts_cells.proofs.row.Row.get_near.Goals as goal

pub returns-then-slot-len-clause-found : goal.returns-then-slot-len-clause-found
returns-then-slot-len-clause-found g c =
    let parts : List g.row.P.Denot = c.self.inside.parts.items in
    let slots : List (ℕ × ℕ) = c.self.inside.slots in
    let slot : c.find_slot-slot.result ≡ slot_of slots c.args.series = c.find_slot-slot.ensures in
    let within : c.find_slot-slot.result < length parts = search rules in
    let was : c.index.result.now ≡ get_or parts c.find_slot-slot.result c.index.result.now = search rules in
    subst (λ (s : RowOf g.row.P.Denot). held s.1 c.args.series ≡ Some c.index.result.now) c.self.view_is
    (held_at parts slots c.args.series c.self.invariant.few ∙ ap (slice_get parts) (sym slot) ∙ slice_get-get_or parts c.find_slot-slot.result c.index.result.now within ∙ ap Some (sym was))

pub returns-else-slot-len-clause-none : goal.returns-else-slot-len-clause-none
returns-else-slot-len-clause-none g c =
    let parts : List g.row.P.Denot = c.self.inside.parts.items in
    let slots : List (ℕ × ℕ) = c.self.inside.slots in
    let slot : c.find_slot-slot.result ≡ slot_of slots c.args.series = c.find_slot-slot.ensures in
    let past : length parts ≤ c.find_slot-slot.result = search rules in
    subst (λ (s : RowOf g.row.P.Denot). held s.1 c.args.series ≡ None) c.self.view_is (none_held parts slots c.args.series c.self.invariant.few (omega arith))
