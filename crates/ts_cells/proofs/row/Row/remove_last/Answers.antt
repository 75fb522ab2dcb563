use Rattle.std.proofs.Common.{rules, arith, ◌≡◌, ◌≤◌, ◌+◌, ℕ, List, [], ◌∷◌, ◌++◌, None, length, take, sym, ◌∙◌, ap, subst}
use Rattle.std.specs.List.{slice_get}
use Rattle.ts_cells.specs.Grids.{RowOf, held, HasLost}
use Rattle.ts_cells.specs.Rows.{by_series}
use Rattle.ts_cells.proofs.RowLemmas.{length-by_series, last_part, none_held, gone_mapped, part_lost}
use Rattle.ts_cells.proofs.row.Row.remove_last.Goals as goal

pub returns-in_default-clause-none : goal.returns-in_default-clause-none
returns-in_default-clause-none g c =
    let parts : List g.row.P.Denot = c.self.inside.parts.items in
    let slots : List (ℕ × ℕ) = c.self.inside.slots in
    let no_series : length c.self.inside.series_of_slot.items ≡ 0 = search rules in
    let none : length parts ≡ 0 = sym c.self.invariant.as_many ∙ no_series in (
      λ j. subst (λ (s : RowOf g.row.P.Denot). held s.1 j ≡ None) c.self.view_is (none_held parts slots j c.self.invariant.few (omega arith)),
      ap (λ (s : RowOf g.row.P.Denot). s.1) c.self.view_is,
    )

pub invariant_of-self-2 : goal.invariant_of-self-2
invariant_of-self-2 g c =
    let many : length c.pop-2.new.self.items + 1 ≡ length c.self.inside.parts.items = search rules in
    gone_mapped c.self.inside.slots c.self.inside.series_of_slot.items c.pop.new.self.items c.in-Some.series (length c.self.inside.parts.items) c.self.invariant c.in-Some.ensures.items c.remove.new.self c.remove.ensures.slots (length c.pop-2.new.self.items) many

pub returns-clause-removed : goal.returns-clause-removed
returns-clause-removed g c =
    let parts : List g.row.P.Denot = c.self.inside.parts.items in
    let slots : List (ℕ × ℕ) = c.self.inside.slots in
    let left : List g.row.P.Denot = c.pop-2.new.self.items in
    let part : g.row.P.Denot = c.unwrap-part.result in
    let many : length left + 1 ≡ length parts = search rules in
    let front : left ≡ take (length left) parts = search rules in
    let all : parts ≡ left ++ part ∷ [] = search rules in
    subst (λ (s : RowOf g.row.P.Denot). HasLost part s.1 (by_series left c.remove.new.self)) c.self.view_is
    (subst (λ ps. HasLost part (by_series parts slots) (by_series ps c.remove.new.self)) (sym front)
    (part_lost parts slots c.self.inside.series_of_slot.items c.pop.new.self.items c.remove.new.self c.in-Some.series (length left) part c.self.invariant c.in-Some.ensures.items many
    (ap (λ ps. slice_get ps (length left)) all ∙ last_part left part) c.remove.ensures.slots))

pub returns-clause-len : goal.returns-clause-len
returns-clause-len g c =
    let parts : List g.row.P.Denot = c.self.inside.parts.items in
    let slots : List (ℕ × ℕ) = c.self.inside.slots in
    let left : List g.row.P.Denot = c.pop-2.new.self.items in
    let narrow = c.remove.ensures.len in
    let a = length-by_series left c.remove.new.self in
    let b = length-by_series parts slots in
    subst (λ (s : RowOf g.row.P.Denot). length (by_series left c.remove.new.self) ≤ length s.1) c.self.view_is (omega arith)
