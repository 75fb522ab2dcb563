use Rattle.ts_store.proofs.store.WholeStatesKept.{line_written}
use Rattle.ts_http.proofs.batch.write_in.Goals as goal

pub returns : goal.returns
returns g c = line_written c.args.precision c.args.now c.args.text.now c.write_text-outcome.result c.args.store.now c.write_text-outcome.new.self c.write_text-outcome.ensures.written c.write_text-outcome.ensures.inventory
