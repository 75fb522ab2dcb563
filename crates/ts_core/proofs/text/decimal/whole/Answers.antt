use Rattle.ts_core.proofs.text.NumberLemmas.{not_whole}
use Rattle.ts_core.proofs.text.decimal.whole.Goals as goal

pub returns-in-Err : goal.returns-in-Err
returns-in-Err c = not_whole c.args.text.now c.requires c.in-Err.ensures.value.0
