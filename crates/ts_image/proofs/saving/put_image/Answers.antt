use Rattle.std.proofs.Common.{[], ◌∷◌, ◌++◌}
use Rattle.std.proofs.lemmas.Result.{err_from_is_err_and}
use Rattle.ts_core.specs.facts.Facts.{Text}
use Rattle.ts_core.specs.store.StoreData.{StoreData}
use Rattle.ts_image.specs.declared.version.Version.TheVariants.{V2}
use Rattle.ts_image.specs.Formats.{spelling}
use Rattle.ts_image.specs.Images.{image, image_mark, version_byte}
use Rattle.ts_image.specs.Saving.{store_image}
use Rattle.ts_image.proofs.SavedWholes.{flushed, head_refused, body_refused}
use Rattle.ts_image.proofs.saving.put_image.Goals as goal

abbrev head : Text
head = image_mark ++ version_byte V2 ∷ []

pub returns-in_err-put_head-clause-sent : goal.returns-in_err-put_head-clause-sent
returns-in_err-put_head-clause-sent g c =
    let k : StoreData = c.args.store.now in
    let p = err_from_is_err_and c.from_residual.result c.from_residual.ensures.1 in
    rw p.1 (head_refused c.args.sink.now c.put_head.new.sink c.args.out.now c.put_head.new.out _ _ head (spelling (image V2) (store_image k c.args.all.now)) c.requires.empty c.in_err-put_head.ensures)

pub returns-in_err-put_data-clause-sent : goal.returns-in_err-put_data-clause-sent
returns-in_err-put_data-clause-sent g c =
    let k : StoreData = c.args.store.now in
    let p = err_from_is_err_and c.from_residual-in_err-put_data.result c.from_residual-in_err-put_data.ensures.1 in
    rw p.1 (body_refused c.args.sink.now c.put_head.new.sink c.put_data.new.sink c.args.out.now c.put_head.new.out c.put_data.new.out _ _ head (spelling (image V2) (store_image k c.args.all.now)) c.requires.empty c.in_ok-put_head.ensures c.in_err-put_data.ensures.sent)

pub returns-clause-sent : goal.returns-clause-sent
returns-clause-sent g c =
    let k : StoreData = c.args.store.now in
    flushed c.args.sink.now c.put_head.new.sink c.put_data.new.sink c.flush.new.sink c.args.out.now c.put_head.new.out c.put_data.new.out c.flush.new.self head (spelling (image V2) (store_image k c.args.all.now)) c.flush.result c.requires.empty c.in_ok-put_head.ensures c.in_ok-put_data.ensures.sent c.flush.ensures.buffered c.flush.ensures.empty
