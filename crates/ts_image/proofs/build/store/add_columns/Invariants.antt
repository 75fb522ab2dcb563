use Rattle.std.proofs.Common.{◌≡◌, ◌++◌, length, map}
use Rattle.std.specs.Vec.Iter.{into_iter_items, into_iter_len}
use Rattle.ts_core.specs.facts.Facts.{Series}
use Rattle.ts_core.specs.lists.Numbered.{IsAt}
use Rattle.ts_image.specs.SeriesParts.{column_of_parts}
use Rattle.ts_image.specs.StoresMade.{with_image_columns}
use Rattle.ts_image.proofs.build.store.add_columns.Given as goal

abbrev pub invariant-loop-parts : goal.invariant-loop-parts
invariant-loop-parts g l =
    record {
      split : l.yielded ++ into_iter_items l.parts-iterator ≡ into_iter_items l.initial.parts-iterator;
      len : into_iter_len l.parts-iterator ≡ length (into_iter_items l.parts-iterator);
      built : (s : Series) → IsAt l.initial.builder.series l.series s → l.builder ≡ with_image_columns s (map column_of_parts l.yielded) l.initial.builder;
    }
