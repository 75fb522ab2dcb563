use Rattle.std.proofs.Common.{◌<◌, length, map, subst, arith}
use Rattle.std.proofs.lemmas.List.{length-map}
use Rattle.ts_raw.specs.IndexParts.{column_named}
use Rattle.ts_raw.specs.Indexed.{Indexed}
use Rattle.ts_raw.proofs.index.Index.guessed.Goals as goal

pub is_column-requires : goal.is_column-requires
is_column-requires g c =
    let many = length-map c.self.inside.columns.columns (column_named c.self.inside.series c.self.inside.fields) in
    let there : c.in_ok-guess.guess < length (map (column_named c.self.inside.series c.self.inside.fields) c.self.inside.columns.columns) =
    omega (arith, c.if-number-len.true, c.number.ensures, c.len.ensures.value, many) in
    subst (λ (i : Indexed). c.in_ok-guess.guess < length i.columns) c.self.view_is there
