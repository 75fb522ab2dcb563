use Rattle.std.proofs.Common.{rules, ◌≡◌, ◌≤◌, ◌∷◌, [], List, length, map, refl, sym, ap, subst, ◌∙◌, arith}
use Rattle.std.proofs.lemmas.List.{map-append}
use Rattle.std.specs.List.{AllByRecursion}
use Rattle.std.specs.Vec.Iter.{into_iter_items}
use Rattle.ts_core.specs.facts.Facts.{series_cmp}
use Rattle.ts_store.specs.image.Building.{Built}
use Rattle.ts_image.specs.declared.read.series.SeriesParts.{SeriesParts}
use Rattle.ts_image.specs.Images.{ImageSeries}
use Rattle.ts_store.specs.image.SavedContent.{AreRising}
use Rattle.ts_image.specs.SeriesParts.{series_of_parts}
use Rattle.ts_image.specs.StoresMade.{IsAddedSeries, key_in, with_all_series}
use Rattle.ts_image.proofs.Rising.{all_mid}
use Rattle.ts_image.proofs.ColumnMaking.{split_next, split_more, split_all}
use Rattle.ts_image.proofs.SeriesMaking.{no_series, series_more, series_absent, series_few, all_registered}
use Rattle.ts_image.proofs.build.store.add_all_series.Goals as goal

pub add_series-requires-clause-absent : goal.add_series-requires-clause-absent
add_series-requires-clause-absent g c =
    let at = c.loop-parts in
    let rest = into_iter_items c.next.new.self in
    let w = split_next at.yielded (into_iter_items at.parts-iterator) rest _ c.args.series.items c.in-Some.parts c.in-Some.ensures.steps.0 at.invariant.split c.into_iter-parts-iterator.ensures.into_iter_gives.0 in
    series_absent series_of_parts at.yielded c.in-Some.parts rest c.args.builder.now at.builder c.requires.none at.invariant.built
    (subst (λ (ps : List (SeriesParts g.row.A.Denot)). AreRising series_cmp (map key_in (map series_of_parts ps))) w c.requires.rising)

pub add_series-requires-clause-few : goal.add_series-requires-clause-few
add_series-requires-clause-few g c =
    let at = c.loop-parts in
    let rest = into_iter_items c.next.new.self in
    let w = split_next at.yielded (into_iter_items at.parts-iterator) rest _ c.args.series.items c.in-Some.parts c.in-Some.ensures.steps.0 at.invariant.split c.into_iter-parts-iterator.ensures.into_iter_gives.0 in
    series_few series_of_parts at.yielded c.in-Some.parts rest c.args.builder.now at.builder c.requires.none at.invariant.built
    (subst (λ (ps : List (SeriesParts g.row.A.Denot)). length (map series_of_parts ps) ≤ 1000000) w c.requires.few)

pub add_series-requires-clause-registered : goal.add_series-requires-clause-registered
add_series-requires-clause-registered g c = all_registered (map series_of_parts c.loop-parts.yielded) c.args.builder.now c.loop-parts.builder c.requires.none c.requires.empty c.loop-parts.invariant.built

pub add_series-requires-clause-series : goal.add_series-requires-clause-series
add_series-requires-clause-series g c =
    let at = c.loop-parts in
    let rest = into_iter_items c.next.new.self in
    let w = split_next at.yielded (into_iter_items at.parts-iterator) rest _ c.args.series.items c.in-Some.parts c.in-Some.ensures.steps.0 at.invariant.split c.into_iter-parts-iterator.ensures.into_iter_gives.0 in
    all_mid IsAddedSeries series_of_parts at.yielded c.in-Some.parts rest (subst (λ (ps : List (SeriesParts g.row.A.Denot)). AllByRecursion IsAddedSeries (map series_of_parts ps)) w c.requires.series)

pub loop-parts-init : goal.loop-parts-init
loop-parts-init g c = record { split = refl; len = search rules; built = no_series c.args.builder.now }

pub loop-parts-preserved : goal.loop-parts-preserved
loop-parts-preserved g c =
    let at = c.loop-parts in
    let x = c.in-Some.parts in
    let b = c.args.builder.now in
    let steps : into_iter_items at.parts-iterator ≡ x ∷ into_iter_items c.next.new.self = c.in-Some.ensures.steps.0 in
    record {
      split = split_more at.yielded x _ _ _ steps at.invariant.split;
      len =
          let was = at.invariant.len in
          let gone = c.in-Some.ensures.steps.1 in
          let short = ap length steps in
          omega (arith, was, gone, short);
      built =
          c.in_ok-add_series.ensures ∙ ap (λ (z : Built). with_all_series (series_of_parts x ∷ []) z) at.invariant.built ∙ series_more (map series_of_parts at.yielded) (series_of_parts x ∷ []) b
          ∙ ap (λ (ss : List ImageSeries). with_all_series ss b) (sym (map-append series_of_parts at.yielded (x ∷ [])));
    }

pub returns : goal.returns
returns g c =
    let at = c.loop-parts in
    let empty = sym at.invariant.len ∙ c.in-None.ensures.steps.0 in
    let all = split_all at.yielded _ _ empty at.invariant.split ∙ c.into_iter-parts-iterator.ensures.into_iter_gives.0 in
    at.invariant.built ∙ ap (λ (ps : List (SeriesParts g.row.A.Denot)). with_all_series (map series_of_parts ps) c.args.builder.now) all
