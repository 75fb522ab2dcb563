use Rattle.std.proofs.Common.{arith, ◌≡◌, ◌<◌, ◌≤◌, ℕ, List, None, length, get_or, subst, ⊎_elim}
use Rattle.std.proofs.lemmas.Bool.{cases_lt}
use Rattle.ts_cells.specs.Grids.{RowOf, held}
use Rattle.ts_cells.specs.Rows.{slot_of, by_series}
use Rattle.ts_cells.proofs.RowLemmas.{none_held}
use Rattle.ts_cells.proofs.row.Row.next_rank.Goals as goal

pub returns-clause-skipped : goal.returns-clause-skipped
returns-clause-skipped g c = λ j a b d.
    let parts : List g.row.P.Denot = c.self.inside.parts.items in
    let slots : List (ℕ × ℕ) = c.self.inside.slots in
    let series_of_slot : List ℕ = c.self.inside.series_of_slot.items in
    let ranks : List ℕ = c.args.ranks.now in
    subst (λ (s : RowOf g.row.P.Denot). held s.1 j ≡ None) c.self.view_is
    (⊎_elim {C = held (by_series parts slots) j ≡ None}
    (λ (l : slot_of slots j < length parts).
    let lowest = rw c.as_slice.ensures.value at c.lowest.ensures.lowest in
    let many : length series_of_slot ≡ length parts = c.self.invariant.as_many in
    let within = lowest (slot_of slots j) (omega arith) in
    let above : c.lowest.result ≤ get_or ranks j 0 = subst (λ q. q < length ranks → c.args.from ≤ get_or ranks q 0 → c.lowest.result ≤ get_or ranks q 0) (c.self.invariant.back j l) within a b in
    absurd (omega arith))
    (λ (k : length parts ≤ slot_of slots j). none_held parts slots j c.self.invariant.few k)
    (cases_lt (slot_of slots j) (length parts)))
