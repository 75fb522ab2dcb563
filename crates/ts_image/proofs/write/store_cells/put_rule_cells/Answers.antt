use Rattle.std.proofs.Common.{◌≡◌, ◌<◌, List, length, map, sym, subst, ◌∙◌}
use Rattle.std.specs.Int.{w64}
use Rattle.std.specs.List.{AllByRecursion}
use Rattle.std.proofs.lemmas.List.{length-map}
use Rattle.std.proofs.lemmas.Result.{err_from_is_err_and}
use Rattle.ts_core.specs.store.StoreData.{StoreData}
use Rattle.ts_core.proofs.lists.Indices.{item_at}
use Rattle.ts_image.specs.Images.{image_cell}
use Rattle.ts_image.specs.FieldWriting.{PutsAll}
use Rattle.ts_store.specs.image.SavedContent.{FrozenCell}
use Rattle.ts_image.specs.SavedParts.{image_rule_of}
use Rattle.ts_image.specs.Saving.{FitsCell, saved_cells_at, image_cell_of}
use Rattle.ts_image.proofs.Putting.{puts_at, list_puts, list_stops}
use Rattle.ts_image.proofs.SavedOf.{frozen_some, saved_at}
use Rattle.ts_image.proofs.write.store_cells.put_rule_cells.Goals as goal

pub put_frozen_cells-requires : goal.put_frozen_cells-requires
put_frozen_cells-requires g c =
    let k : StoreData = c.args.store.now in
    let its = item_at k.rules c.args.number c.requires.rule in
    let given = c.frozen_cells.ensures its.0 its.1 in
    record {
      fit = subst (AllByRecursion (FitsCell c.args.rule.now)) (saved_at k c.args.number its.0 its.1 ∙ sym given) c.requires.fit;
      some = subst (AllByRecursion (λ (x : FrozenCell). 0 < x.frozen.count)) (sym given) (frozen_some its.0.low its.0.cells);
    }

pub returns-in_err-put_u64 : goal.returns-in_err-put_u64
returns-in_err-put_u64 g c =
    let cs : List FrozenCell = saved_cells_at c.args.store.now c.args.number in
    let n : c.args.count ≡ length (map image_cell_of cs) = c.requires.count ∙ sym (length-map cs image_cell_of) in
    let p = err_from_is_err_and c.from_residual.result c.from_residual.ensures.1 in
    rw p.1 (list_stops w64 (image_cell (image_rule_of c.args.rule.now)) (map image_cell_of cs) _ (puts_at n c.in_err-put_u64.ensures))

pub returns : goal.returns
returns g c =
    let cs : List FrozenCell = saved_cells_at c.args.store.now c.args.number in
    let n : c.args.count ≡ length (map image_cell_of cs) = c.requires.count ∙ sym (length-map cs image_cell_of) in
    let its = item_at c.args.store.now.rules c.args.number c.requires.rule in
    list_puts w64 (image_cell (image_rule_of c.args.rule.now)) (puts_at n c.in_ok-put_u64.ensures)
    (subst (λ (xs : List FrozenCell). PutsAll (image_cell (image_rule_of c.args.rule.now)) (map image_cell_of xs) c.put_u64.new.sink c.put_u64.new.out c.put_frozen_cells.result c.put_frozen_cells.new.sink c.put_frozen_cells.new.out) (c.frozen_cells.ensures its.0 its.1 ∙ sym (saved_at c.args.store.now c.args.number its.0 its.1)) c.put_frozen_cells.ensures)
