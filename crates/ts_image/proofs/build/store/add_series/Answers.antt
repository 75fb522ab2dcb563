use Rattle.std.proofs.Common.{◌≡◌, List, map, ap, subst, ◌∙◌}
use Rattle.std.specs.Prelude.{OnOk}
use Rattle.ts_core.specs.facts.Facts.{Series}
use Rattle.ts_core.specs.lists.Members.{Among}
use Rattle.ts_core.specs.store.StoreStates.{ColumnPoints, column_of}
use Rattle.ts_core.proofs.lists.NumberedLemmas.{at_within, same_at}
use Rattle.ts_store.specs.image.Building.{Built}
use Rattle.ts_image.specs.SeriesParts.{column_parts_of, key_of, series_of_parts}
use Rattle.ts_image.specs.StoresMade.{with_image_columns}
use Rattle.ts_image.proofs.SeriesMaking.{series_added}
use Rattle.ts_image.proofs.build.store.add_series.Goals as goal

pub add_columns-requires-clause-registered : goal.add_columns-requires-clause-registered
add_columns-requires-clause-registered g c = at_within c.add_key.new.builder.series c.in_ok-series.series (key_of c.args.parts.key) c.in_ok-series.ensures.number

pub add_columns-requires-clause-none : goal.add_columns-requires-clause-none
add_columns-requires-clause-none g c s at k a e =
    let b = c.args.builder.now in
    let same : s ≡ key_of c.args.parts.key = same_at c.add_key.new.builder.series c.in_ok-series.series s (key_of c.args.parts.key) at c.in_ok-series.ensures.number in
    let columns : c.add_key.new.builder.columns ≡ b.columns = ap (λ (z : Built). z.columns) c.in_ok-series.ensures.ok in
    c.requires.absent (subst (λ (x : Series). Among x b.series) (e ∙ same) (c.requires.registered k (subst (λ (cs : List ColumnPoints). Among k (map column_of cs)) columns a)))

pub returns : goal.returns
returns g c =
    let key = key_of c.args.parts.key in
    let e = ap (λ (z : Built). with_image_columns key (column_parts_of c.args.parts.columns) z) c.in_ok-series.ensures.ok ∙ series_added (series_of_parts c.args.parts) c.args.builder.now in
    subst (λ (z : Built). OnOk c.add_columns.result (c.add_columns.new.builder ≡ z)) e (c.add_columns.ensures key c.in_ok-series.ensures.number)
