use Rattle.std.proofs.Common.{rules, arith, ◌≡◌, ◌+◌, min, true, cond, get_or, List, [], ◌∷◌, ◌∙◌, sym, ap, subst, SFits, w64, to_z-of_z}
use Rattle.std.specs.List.{AllByRecursion}
use Rattle.ts_core.specs.facts.Facts.{is_within}
use Rattle.ts_core.specs.store.Marks.{index_of}
use Rattle.ts_core.specs.queries.Queries.{Query}
use Rattle.ts_core.specs.settings.Settings.{Rule}
use Rattle.ts_core.specs.store.StoreStates.{RuleCells, total_in}
use Rattle.ts_store.specs.read.ViewResults.{SeenCell, no_rule, view_cells_at}
use Rattle.ts_exec.specs.GroupTables.{is_cell_taken}
use Rattle.ts_exec.proofs.Walked.{cells-within}
use Rattle.ts_exec.proofs.CountSteps.{counted, taken_shares, counted-cell, counted-all, counted-none}
use Rattle.ts_exec.proofs.counting.rollup_points.Goals as goal

pub loop-cell-init : goal.loop-cell-init
loop-cell-init g c =
    let q : Query = c.args.query.now.query in
    let r : Rule = c.args.rule.now in
    let rs : List RuleCells = (g.V.View.seen c.args.view.now).rules in
    let f : SFits w64 c.args.from = search rules in
    let t : SFits w64 c.args.to = search rules in
    let first : c.into_iter-cell-iterator.result ≡ view_cells_at rs c.args.number (index_of r c.args.from) (index_of r c.args.to) = search rules in
    rw (to_z-of_z f, to_z-of_z t) (
      tt,
      tt,
      ap (λ (cs : List SeenCell). counted 0 (taken_shares q r c.args.from c.args.to cs)) first,
      subst (AllByRecursion (λ (x : SeenCell). is_within (index_of r c.args.from) (index_of r c.args.to) x.cell.index ≡ true)) (sym first) (cells-within (get_or rs c.args.number no_rule) (index_of r c.args.from) (index_of r c.args.to)),
      omega arith,
    )

pub loop-cell-preserved : goal.loop-cell-preserved
loop-cell-preserved g c =
    let q : Query = c.args.query.now.query in
    let r : Rule = c.args.rule.now in
    let f : SFits w64 c.args.from = search rules in
    let t : SFits w64 c.args.to = search rules in
    let k : SeenCell = c.in-Some.cell in
    let left : c.loop-cell.cell-iterator ≡ k ∷ c.next.new.self = search rules in
    let sum : c.saturating_add-count.result ≡ min (c.loop-cell.count + cond (is_cell_taken q r c.args.from c.args.to k) (total_in k.parts).count 0) 18446744073709551615 = search rules in
    let so_far = rw (to_z-of_z f, to_z-of_z t) at c.loop-cell.invariant in
    rw (to_z-of_z f, to_z-of_z t) (
      tt,
      tt,
      counted-cell q r c.args.from c.args.to k c.next.new.self c.loop-cell.count c.saturating_add-count.result sum
          ∙ ap (λ (cs : List SeenCell). counted c.loop-cell.count (taken_shares q r c.args.from c.args.to cs)) (sym left)
          ∙ so_far.2,
      (subst (AllByRecursion (λ (x : SeenCell). is_within (index_of r c.args.from) (index_of r c.args.to) x.cell.index ≡ true)) left so_far.3).1,
      omega (arith, sum),
    )

pub returns : goal.returns
returns g c =
    let q : Query = c.args.query.now.query in
    let r : Rule = c.args.rule.now in
    let rs : List RuleCells = (g.V.View.seen c.args.view.now).rules in
    let f : SFits w64 c.args.from = search rules in
    let t : SFits w64 c.args.to = search rules in
    let none : c.loop-cell.cell-iterator ≡ [] = search rules in
    let so_far = rw (to_z-of_z f, to_z-of_z t) at c.loop-cell.invariant in
    counted-all c.loop-cell.count so_far.4
    ∙ ap (λ (cs : List SeenCell). counted c.loop-cell.count (taken_shares q r c.args.from c.args.to cs)) (sym none)
    ∙ so_far.2
    ∙ counted-none (taken_shares q r c.args.from c.args.to (view_cells_at rs c.args.number (index_of r c.args.from) (index_of r c.args.to)))
