use Rattle.std.proofs.Common.{rules, ◌≡◌, ◌+◌, ◌<◌, ◌≤◌, ◌∷◌, ◌∙◌, List, length, map, drop, ap, sym, arith, SFits, w64, to_z-of_z}
use Rattle.std.specs.Int.{w128}
use Rattle.ts_core.specs.declared.queries.value.Function.{Function}
use Rattle.ts_core.specs.facts.Facts.{Text}
use Rattle.ts_core.specs.aggregates.Aggregates.{Aggregate}
use Rattle.ts_core.specs.queries.Fills.{FilledGroup, filled_rows}
use Rattle.ts_core.proofs.lists.Remaining.{first_left}
use Rattle.ts_exec.specs.Fillings.{functions_of, rows_at, group_at}
use Rattle.ts_exec.proofs.FillSteps.{ends-fit}
use Rattle.ts_exec.proofs.filling.FilledGroupsIterator.next.Goals as goal

pub new-rows-requires : goal.new-rows-requires
new-rows-requires g c =
    let inside = c.self.inside in
    let s : SFits w128 inside.start = search rules in
    let i : SFits w64 inside.interval = search rules in
    let short : length c.rows.result.now ≤ 18446744073709551615 = search rules in
    rw (to_z-of_z s, to_z-of_z i) (ends-fit inside.interval inside.start c.rows.result.now c.self.invariant i short)

pub returns-clause-steps : goal.returns-clause-steps
returns-clause-steps g c =
    let inside = c.self.inside in
    let fs : List Function = functions_of inside.columns.now in
    let gs : List (List Text × List Aggregate) = inside.groups.now in
    let given : List Text × List Aggregate = c.index-self-self.result in
    let there : inside.given < length gs = omega arith in
    let start : SFits w128 inside.start = search rules in
    let interval : SFits w64 inside.interval = search rules in
    let values : given.0 ≡ c.values.result = ap (λ (p : List Text × List Aggregate). p.0) c.index-self-self.is ∙ sym c.values.ensures in
    let own : given.1 ≡ c.rows.result.now = ap (λ (p : List Text × List Aggregate). p.1) c.index-self-self.is ∙ sym c.rows.ensures in
    let rows : filled_rows inside.fill fs (rows_at inside.interval inside.start given.1) ≡ c.new.result =
    (λ j. filled_rows inside.fill fs (rows_at (sym (to_z-of_z interval) j) (sym (to_z-of_z start) j) (own j))) ∙ sym (c.new.ensures ∙ ap (filled_rows inside.fill fs) c.new-rows.ensures) in
    let f : List Text × List Aggregate → FilledGroup = group_at inside.fill fs inside.interval inside.start in
    let item : f given ≡ record { values = c.values.result; rows = c.new.result } = (λ j. record { values = values j; rows = rows j }) in
    sym c.self.view_is ∙ first_left f gs inside.given given there c.index-self-self.is ∙ ap (λ (x : FilledGroup). x ∷ map f (drop (inside.given + 1) gs)) item
