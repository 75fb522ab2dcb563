use Rattle.std.proofs.Common.{rules, ◌≡◌, ◌<◌, ◌∷◌, subst, sym}
use Rattle.std.specs.List.{AllByRecursion}
use Rattle.std.proofs.lemmas.Result.{err_from_is_err_and}
use Rattle.ts_image.specs.Images.{image_cell}
use Rattle.ts_store.specs.image.SavedContent.{FrozenCell}
use Rattle.ts_image.specs.SavedParts.{image_rule_of}
use Rattle.ts_image.specs.Saving.{FitsCell, image_cell_of}
use Rattle.ts_image.proofs.Putting.{going_starts, going_on, going_stops, going_ends}
use Rattle.ts_image.proofs.write.store_cells.put_frozen_cells.Goals as goal

pub loop-cell-init : goal.loop-cell-init
loop-cell-init g c =
    let e : c.into_iter-cell-iterator.result ≡ c.args.cells = search rules in
    record {
      going = going_starts (image_cell (image_rule_of c.args.rule.now)) image_cell_of c.args.sink.now c.args.out.now c.args.cells c.into_iter-cell-iterator.result e;
      fit = subst (AllByRecursion (FitsCell c.args.rule.now)) (sym e) c.requires.fit;
      some = subst (AllByRecursion (λ (x : FrozenCell). 0 < x.frozen.count)) (sym e) c.requires.some;
    }

pub put_frozen_cell-requires : goal.put_frozen_cell-requires
put_frozen_cell-requires g c =
    let left : c.loop-cell.cell-iterator ≡ c.in-Some.cell ∷ c.next.new.self = search rules in
    record {
      fit = (subst (AllByRecursion (FitsCell c.args.rule.now)) left c.loop-cell.invariant.fit).0;
      some = (subst (AllByRecursion (λ (x : FrozenCell). 0 < x.frozen.count)) left c.loop-cell.invariant.some).0;
    }

pub returns-in_err-put_frozen_cell : goal.returns-in_err-put_frozen_cell
returns-in_err-put_frozen_cell g c =
    let left : c.loop-cell.cell-iterator ≡ c.in-Some.cell ∷ c.next.new.self = search rules in
    let p = err_from_is_err_and c.from_residual.result c.from_residual.ensures.1 in
    rw p.1 (going_stops (image_cell (image_rule_of c.args.rule.now)) image_cell_of c.args.sink.now c.args.out.now c.args.cells c.loop-cell.cell-iterator c.next.new.self c.in-Some.cell c.loop-cell.sink c.put_frozen_cell.new.sink c.loop-cell.out c.put_frozen_cell.new.out _ _ left c.loop-cell.invariant.going c.in_err-put_frozen_cell.ensures)

pub loop-cell-preserved : goal.loop-cell-preserved
loop-cell-preserved g c =
    let left : c.loop-cell.cell-iterator ≡ c.in-Some.cell ∷ c.next.new.self = search rules in
    let fit = subst (AllByRecursion (FitsCell c.args.rule.now)) left c.loop-cell.invariant.fit in
    let some = subst (AllByRecursion (λ (x : FrozenCell). 0 < x.frozen.count)) left c.loop-cell.invariant.some in
    record {
      going = going_on (image_cell (image_rule_of c.args.rule.now)) image_cell_of c.args.sink.now c.args.out.now c.args.cells c.loop-cell.cell-iterator c.next.new.self c.in-Some.cell c.loop-cell.sink c.put_frozen_cell.new.sink c.loop-cell.out c.put_frozen_cell.new.out left c.loop-cell.invariant.going c.in_ok-put_frozen_cell.ensures;
      fit = fit.1;
      some = some.1;
    }

pub returns : goal.returns
returns g c = going_ends (image_cell (image_rule_of c.args.rule.now)) image_cell_of c.args.sink.now c.args.out.now c.args.cells c.loop-cell.cell-iterator c.loop-cell.sink c.loop-cell.out c.in-None.ensures.steps.0 c.loop-cell.invariant.going
