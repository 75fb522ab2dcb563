use Rattle.std.proofs.Common.{◌≡◌, ◌++◌, length, map}
use Rattle.std.specs.Vec.Iter.{into_iter_items, into_iter_len}
use Rattle.ts_image.specs.SeriesParts.{series_of_parts}
use Rattle.ts_image.specs.StoresMade.{with_all_series}
use Rattle.ts_image.proofs.build.store.add_all_series.Given as goal

abbrev pub invariant-loop-parts : goal.invariant-loop-parts
invariant-loop-parts g l =
    record {
      split : l.yielded ++ into_iter_items l.parts-iterator ≡ into_iter_items l.initial.parts-iterator;
      len : into_iter_len l.parts-iterator ≡ length (into_iter_items l.parts-iterator);
      built : l.builder ≡ with_all_series (map series_of_parts l.yielded) l.initial.builder;
    }
