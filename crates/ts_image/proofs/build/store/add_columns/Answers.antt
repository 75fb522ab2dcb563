use Rattle.std.proofs.Common.{rules, ◌≡◌, ◌∷◌, [], List, length, map, refl, sym, ap, subst, ◌∙◌, arith}
use Rattle.std.proofs.lemmas.List.{map-append}
use Rattle.std.specs.Vec.Iter.{into_iter_items}
use Rattle.ts_core.specs.facts.Facts.{Series, text_cmp}
use Rattle.ts_core.specs.lists.Numbered.{IsAt}
use Rattle.ts_core.proofs.lists.Indices.{item_at}
use Rattle.ts_store.specs.image.Building.{Built, with_built_column}
use Rattle.ts_image.specs.declared.read.series.ColumnParts.{ColumnParts}
use Rattle.ts_image.specs.Images.{ImageColumn}
use Rattle.ts_store.specs.image.SavedContent.{AreRising}
use Rattle.ts_image.specs.Pictures.{image_points_in}
use Rattle.ts_image.specs.SeriesParts.{column_of_parts}
use Rattle.ts_image.specs.StoresMade.{IsAddedColumn, AreAddedColumns, is_column_waiting, with_image_columns}
use Rattle.ts_image.proofs.Rising.{all_mid}
use Rattle.ts_image.proofs.ColumnMaking.{split_next, split_more, split_all, no_columns, columns_more, column_absent}
use Rattle.ts_image.proofs.build.store.add_columns.Goals as goal

pub add_column-requires-clause-registered : goal.add_column-requires-clause-registered
add_column-requires-clause-registered g c =
    let s = item_at c.args.builder.now.series c.args.series c.requires.registered in
    let e : c.loop-parts.builder.series ≡ c.args.builder.now.series = ap (λ (b : Built). b.series) (c.loop-parts.invariant.built s.0 s.1) in
    let n = ap length e in
    omega (arith, n, c.requires.registered)

pub add_column-requires-clause-absent : goal.add_column-requires-clause-absent
add_column-requires-clause-absent g c s at =
    let b = c.args.builder.now in
    let x = item_at b.series c.args.series c.requires.registered in
    let e : c.loop-parts.builder.series ≡ b.series = ap (λ (z : Built). z.series) (c.loop-parts.invariant.built x.0 x.1) in
    let here = subst (λ (ss : List Series). IsAt ss c.args.series s) e at in
    let w = split_next c.loop-parts.yielded (into_iter_items c.loop-parts.parts-iterator) (into_iter_items c.next.new.self) _ c.args.columns.items c.in-Some.parts c.in-Some.ensures.steps.0 c.loop-parts.invariant.split c.into_iter-parts-iterator.ensures.into_iter_gives.0 in
    column_absent column_of_parts s c.loop-parts.yielded c.in-Some.parts (into_iter_items c.next.new.self) b c.loop-parts.builder
    (λ k a q. c.requires.none s here k a q)
    (subst (λ (ps : List (ColumnParts g.row.A.Denot)). AreRising text_cmp (map (λ (z : ImageColumn). z.field) (map column_of_parts ps))) w c.requires.columns.rising)
    (c.loop-parts.invariant.built s here)

pub add_column-requires-clause-column : goal.add_column-requires-clause-column
add_column-requires-clause-column g c =
    let w = split_next c.loop-parts.yielded (into_iter_items c.loop-parts.parts-iterator) (into_iter_items c.next.new.self) _ c.args.columns.items c.in-Some.parts c.in-Some.ensures.steps.0 c.loop-parts.invariant.split c.into_iter-parts-iterator.ensures.into_iter_gives.0 in
    all_mid IsAddedColumn column_of_parts c.loop-parts.yielded c.in-Some.parts (into_iter_items c.next.new.self)
    (subst (λ (ps : List (ColumnParts g.row.A.Denot)). AreAddedColumns (map column_of_parts ps)) w c.requires.columns).each

pub loop-parts-init : goal.loop-parts-init
loop-parts-init g c = record {
  split = refl;
  len = search rules;
  built = λ s at. no_columns s c.args.builder.now;
}

pub loop-parts-preserved : goal.loop-parts-preserved
loop-parts-preserved g c =
    let at = c.loop-parts in
    let x = c.in-Some.parts in
    let steps : into_iter_items at.parts-iterator ≡ x ∷ into_iter_items c.next.new.self = c.in-Some.ensures.steps.0 in
    record {
      split = split_more at.yielded x _ _ _ steps at.invariant.split;
      len =
          let was = at.invariant.len in
          let gone = c.in-Some.ensures.steps.1 in
          let short = ap length steps in
          omega (arith, was, gone, short);
      built = λ s here.
          let b = c.args.builder.now in
          let so_far = at.invariant.built s here in
          let there = subst (λ (ss : List Series). IsAt ss c.args.series s) (sym (ap (λ (z : Built). z.series) so_far)) here in
          c.in_ok-add_column.ensures s there ∙ ap (λ (z : Built). with_built_column (image_points_in s (column_of_parts x)) (is_column_waiting (column_of_parts x)) z) so_far
          ∙ columns_more s (map column_of_parts at.yielded) (column_of_parts x) b ∙ ap (λ (cs : List ImageColumn). with_image_columns s cs b) (sym (map-append column_of_parts at.yielded (x ∷ [])));
    }

pub returns : goal.returns
returns g c s here =
    let at = c.loop-parts in
    let empty = sym at.invariant.len ∙ c.in-None.ensures.steps.0 in
    let all = split_all at.yielded _ _ empty at.invariant.split ∙ c.into_iter-parts-iterator.ensures.into_iter_gives.0 in
    at.invariant.built s here ∙ ap (λ (ps : List (ColumnParts g.row.A.Denot)). with_image_columns s (map column_of_parts ps) c.args.builder.now) all
