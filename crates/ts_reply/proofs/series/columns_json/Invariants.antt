use Rattle.std.proofs.Common.{◌≡◌, ◌∷◌, map, take, codes}
use Rattle.serde_json.specs.Data.{string}
use Rattle.serde_json.specs.View.{view}
use Rattle.ts_reply.specs.Replies.{column_data}
use Rattle.ts_reply.proofs.series.columns_json.Given as goal

abbrev pub invariant-loop-column : goal.invariant-loop-column
invariant-loop-column g l = map view l.names.items ≡ string (codes "time") ∷ map column_data (take l.column-index l.columns)
