use Rattle.std.proofs.Common.{rules, ◌≡◌, true, Bool, ◌&&◌, ◌∷◌, ◌∙◌, get_or, refl, sym, subst, ap, List, SFits, w64, to_z-of_z}
use Rattle.std.specs.List.{list_all, AllByRecursion}
use Rattle.ts_core.specs.facts.Facts.{is_within}
use Rattle.ts_core.specs.store.Marks.{index_of}
use Rattle.ts_core.specs.queries.Queries.{Query}
use Rattle.ts_core.specs.settings.Settings.{Rule}
use Rattle.ts_core.specs.store.StoreStates.{RuleCells}
use Rattle.ts_store.specs.read.ViewResults.{SeenCell, no_rule, view_cells_at}
use Rattle.ts_exec.specs.GroupTables.{with_cell_parts}
use Rattle.ts_exec.specs.JoinedPieces.{is_small}
use Rattle.ts_exec.proofs.Reduced.{and_assoc}
use Rattle.ts_exec.proofs.Walked.{cells-within}
use Rattle.ts_exec.proofs.cell_piece.add_cells.Goals as goal
use Rattle.ts_exec.proofs.cell_piece.add_cells.Goals.{then-small, else-small}

pub loop-cell-init : goal.loop-cell-init
loop-cell-init g c =
    let q : Query = c.args.scan.now in
    let r : Rule = c.args.rule.now in
    let rs : List RuleCells = (g.V.View.seen c.args.view.now).rules in
    let f : SFits w64 c.args.from = search rules in
    let t : SFits w64 c.args.to = search rules in
    let first : c.cell_walk-cells.result ≡ view_cells_at rs c.args.number (index_of r c.args.from) (index_of r c.args.to) = search rules in
    rw (to_z-of_z f, to_z-of_z t) (
      ap (λ (cs : List SeenCell). with_cell_parts q r c.args.from c.args.to cs c.args.groups.now) first,
      ap (list_all is_small) first,
      subst (AllByRecursion (λ (x : SeenCell). is_within (index_of r c.args.from) (index_of r c.args.to) x.cell.index ≡ true)) (sym first) (cells-within (get_or rs c.args.number no_rule) (index_of r c.args.from) (index_of r c.args.to)),
      refl,
    )

pub loop-cell-preserved : goal.loop-cell-preserved
loop-cell-preserved g c =
    let rest : List SeenCell = c.next-found.new.self in
    let next : c.loop-cell.cells ≡ c.in-Some.cell ∷ rest = search rules in
    let both : c.if-small.small ≡ (c.loop-cell.small && is_small c.in-Some.cell) = elim c.if-small.branch [ then-small w ↦ search rules | else-small w ↦ search rules ] in
    let small =
    ap (λ (z : Bool). z && list_all is_small rest) both
    ∙ and_assoc c.loop-cell.small (is_small c.in-Some.cell) (list_all is_small rest)
    ∙ ap (λ (cs : List SeenCell). c.loop-cell.small && list_all is_small cs) (sym next) in
    search rules

pub returns-clause-small : goal.returns-clause-small
returns-clause-small g c =
    let f : SFits w64 c.args.from = search rules in
    let t : SFits w64 c.args.to = search rules in
    let all = rw (to_z-of_z f, to_z-of_z t) at c.loop-cell.invariant in
    search rules

pub returns-clause-value : goal.returns-clause-value
returns-clause-value g c =
    let f : SFits w64 c.args.from = search rules in
    let t : SFits w64 c.args.to = search rules in
    let all = rw (to_z-of_z f, to_z-of_z t) at c.loop-cell.invariant in
    search rules
