use Rattle.std.proofs.Common.{rules, ◌≡◌, ◌≤◌, ◌*◌, ℕ, List, [], ◌∷◌, ◌++◌, ◌+◌, ◌∙◌, min, length, refl, ap, subst, arith}
use Rattle.std.specs.FinMap as finmap
use Rattle.std.proofs.lemmas.List.{take_all}
use Rattle.std.proofs.lemmas.List.Sums.{sum_by_more, sum_by-take-le, sum_by_push}
use Rattle.ts_core.specs.store.StoreStates.{ColumnPoints}
use Rattle.ts_raw.specs.Columns.{ColumnState}
use Rattle.ts_raw.specs.BlockColumns.{AreHeld, points_in_texts}
use Rattle.ts_store.specs.store.ColumnStates.{StoreContent}
use Rattle.ts_store.specs.store.BlocksHeld.{HoldColumns}
use Rattle.ts_store.specs.read.PointsRead.{number_of_points}
use Rattle.ts_store.proofs.store.ColumnsLemmas.{HoldStates, next_held, columns_held, its_points, its_columns}
use Rattle.ts_store.proofs.store.column_facts.ColumnFacts.held_points.Goals as goal

pub loop-column-init : goal.loop-column-init
loop-column-init g c = record {
  all = let e : 0 ≤ 0 = omega arith in e;
  blocks = ([], tt, refl);
  few_more = let e : 0 ≤ 0 + 256 * 0 = omega arith in e;
}

pub loop-column-preserved : goal.loop-column-preserved
loop-column-preserved g c =
    let all = its_points _ _ _ _ c.self.invariant c.self.view_is in
    let lent = ap number_of_points c.deref-column-items.ensures.value in
    let more = sum_by_more (λ (s : ColumnState). finmap.len s.points) c.deref-column-items.result.now c.loop-column.column-index c.column-item.result c.loop-column-test.true in
    let within = sum_by-take-le (λ (s : ColumnState). finmap.len s.points) c.deref-column-items.result.now (c.loop-column.column-index + 1) in
    let one = ap (λ (s : ColumnState). finmap.len s.points) c.column-item.is in
    let added : c.saturating_add-count.result ≡ min (c.loop-column.count + c.held.result) 18446744073709551615 = search rules in
    let before = c.loop-column.invariant in
    let ss : List ColumnState = c.deref-column-items.result.now in
    let i : ℕ = c.loop-column.column-index in
    let texts : List (List ℕ) = c.held.ensures.blocks.0 in
    let held : AreHeld (finmap.entries c.column-item.result.points) texts (points_in_texts texts) = record { parts = c.held.ensures.blocks.1.parts; hold = c.held.ensures.blocks.1.hold; count_is = refl } in
    record {
      all = omega (arith, all, lent, more, within, one, added, before.all, c.held.ensures.all, c.requires);
      blocks = (c.loop-column.invariant.blocks.0 ++ texts ∷ [], next_held ss i c.column-item.result c.loop-column.invariant.blocks.0 texts c.loop-column-test.true c.column-item.is c.loop-column.invariant.blocks.1 held, let push = sum_by_push points_in_texts c.loop-column.invariant.blocks.0 texts in let old = c.loop-column.invariant.blocks.2 in let n = c.held.ensures.blocks.1.count_is in omega (arith, added, push, old, n));
      few_more = omega (arith, all, lent, more, within, one, added, before.few_more, c.held.ensures.few, c.requires);
    }

pub returns-clause-all : goal.returns-clause-all
returns-clause-all g c =
    let all = its_points _ _ _ _ c.self.invariant c.self.view_is in
    let done = ap number_of_points (take_all c.loop-column.column-index c.deref-column-items.result.now (omega (arith, c.loop-column-test.false))) in
    let lent = ap number_of_points c.deref-column-items.ensures.value in
    omega (arith, all, done, lent, c.loop-column.invariant.all)

pub returns-clause-few_more : goal.returns-clause-few_more
returns-clause-few_more g c =
    let all = its_points _ _ _ _ c.self.invariant c.self.view_is in
    let many = its_columns _ _ _ _ c.self.invariant c.self.view_is in
    let done = ap number_of_points (take_all c.loop-column.column-index c.deref-column-items.result.now (omega (arith, c.loop-column-test.false))) in
    let lent = ap number_of_points c.deref-column-items.ensures.value in
    let lents = ap length c.deref-column-items.ensures.value in
    omega (arith, all, many, done, lent, lents, c.loop-column.invariant.few_more, c.loop-column.auto.column-index-end)

pub returns-clause-blocks : goal.returns-clause-blocks
returns-clause-blocks g c =
    let all : List (List (List ℕ)) = c.loop-column.invariant.blocks.0 in
    let done = take_all c.loop-column.column-index c.deref-column-items.result.now (omega (arith, c.loop-column-test.false)) in
    let held = subst (λ (ss : List ColumnState). HoldStates ss all) (done ∙ c.deref-column-items.ensures.value) c.loop-column.invariant.blocks.1 in
    let shown = subst (λ (cs : List ColumnPoints). HoldColumns cs all) (ap (λ (h : StoreContent). h.columns) c.self.view_is) (columns_held c.self.inside.index.columns c.self.inside.columns.items all c.self.invariant.each held) in
    (all, shown, c.loop-column.invariant.blocks.2)
