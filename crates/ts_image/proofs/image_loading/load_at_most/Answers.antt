use Rattle.std.proofs.lemmas.Result.{err_from_is_err_and}
use Rattle.ts_image.proofs.Loading.{no_store, store_loaded, no_memory_for_store, as_saved}
use Rattle.ts_image.proofs.image_loading.load_at_most.Goals as goal

pub returns-in_err-image : goal.returns-in_err-image
returns-in_err-image g c =
    let p = err_from_is_err_and c.from_residual.result c.from_residual.ensures.1 in
    rw (p.1, p.2) (record { loads = no_store c.args.source.now c.args.reads c.load_parts.new.source g.row.A.Denot _ c.in_err-image.ensures; stands = tt })

pub returns-in_err-store : goal.returns-in_err-store
returns-in_err-store g c =
    let p = err_from_is_err_and c.from_residual-in_err-store.result c.from_residual-in_err-store.ensures.1 in
    rw (p.1, p.2) (record { loads = no_memory_for_store c.args.source.now c.args.reads c.load_parts.new.source g.row.A.Denot c.in_ok-image.image c.in_ok-image.ensures; stands = tt })

pub returns : goal.returns
returns g c = record {
  loads = store_loaded c.args.source.now c.args.reads c.load_parts.new.source g.row.A.Denot c.in_ok-image.image c.in_ok-image.ensures c.in_ok-store.store c.in_ok-store.ensures;
  stands = as_saved c.args.source.now c.args.reads c.load_parts.new.source g.row.A.Denot c.in_ok-image.image c.in_ok-image.ensures c.in_ok-store.store c.in_ok-store.ensures;
}
