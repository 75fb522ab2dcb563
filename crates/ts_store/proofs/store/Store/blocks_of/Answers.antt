use Rattle.std.proofs.Common.{subst}
use Rattle.std.specs.Prelude.{slice_index_or}
use Rattle.ts_core.specs.store.StoreData.{StoreData}
use Rattle.ts_raw.specs.BlockColumns.{AreHeld, points_in_texts}
use Rattle.ts_store.specs.read.ViewResults.{no_points}
use Rattle.ts_store.proofs.store.Store.blocks_of.Goals as goal

pub returns : goal.returns
returns g c =
    subst (λ (k : StoreData). AreHeld (slice_index_or k.columns c.args.column no_points).points c.blocks_of.result (points_in_texts c.blocks_of.result)) c.self.view_is c.blocks_of.ensures
