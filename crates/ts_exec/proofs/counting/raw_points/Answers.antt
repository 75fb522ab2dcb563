use Rattle.std.proofs.Common.{rules, arith, ◌≡◌, ◌+◌, ◌<◌, min, true, length, List, [], ◌∷◌, ◌∙◌, sym, ap, subst, SFits, w64, to_z, of_z, to_z-of_z}
use Rattle.std.specs.List.{list_all, AllByRecursion}
use Rattle.ts_core.specs.facts.Facts.{is_of}
use Rattle.ts_core.specs.queries.Queries.{Query, meets}
use Rattle.ts_core.specs.store.StoreStates.{ColumnPoints}
use Rattle.ts_store.specs.read.ViewResults.{ColumnRef, column_refs_where, points_at}
use Rattle.ts_store.proofs.read.ColumnRefLemmas.{column_refs-there}
use Rattle.ts_exec.specs.Shares.{column_refs_shares}
use Rattle.ts_exec.proofs.CountSteps.{counted, counted-column_ref, counted-all, counted-none}
use Rattle.ts_exec.proofs.counting.raw_points.Goals as goal

pub loop-column-init : goal.loop-column-init
loop-column-init g c =
    let q : Query = c.args.query.now.query in
    let cs : List ColumnPoints = (g.V.View.seen c.args.view.now).columns in
    let first : c.into_iter-column-iterator.result ≡ column_refs_where (is_of q.measurement q.field) cs = search rules in (
      tt,
      tt,
      ap (λ (ss : List ColumnRef). counted 0 (column_refs_shares q cs (to_z w64 (of_z w64 c.args.from)) (to_z w64 (of_z w64 c.args.to)) ss)) first,
      subst (AllByRecursion (λ (s : ColumnRef). s.number < length cs)) (sym first) (column_refs-there (is_of q.measurement q.field) cs),
      omega arith,
    )

pub loop-column-preserved-then-are_met : goal.loop-column-preserved-then-are_met
loop-column-preserved-then-are_met g c =
    let q : Query = c.args.query.now.query in
    let cs : List ColumnPoints = (g.V.View.seen c.args.view.now).columns in
    let f : SFits w64 c.args.from = search rules in
    let t : SFits w64 c.args.to = search rules in
    let s : ColumnRef = c.in-Some.column in
    let left : c.loop-column.column-iterator ≡ s ∷ c.next.new.self = search rules in
    let met : list_all (meets s.series) q.conditions ≡ true = search rules in
    let sum : c.saturating_add-count.result ≡ min (c.loop-column.count + length (points_at cs s.number c.args.from c.args.to)) 18446744073709551615 = search rules in
    let so_far = rw (to_z-of_z f, to_z-of_z t) at c.loop-column.invariant in
    rw (to_z-of_z f, to_z-of_z t) (
      tt,
      tt,
      counted-column_ref q cs c.args.from c.args.to s c.next.new.self c.loop-column.count c.saturating_add-count.result met sum
          ∙ ap (λ (ss : List ColumnRef). counted c.loop-column.count (column_refs_shares q cs c.args.from c.args.to ss)) (sym left)
          ∙ so_far.2,
      (subst (AllByRecursion (λ (x : ColumnRef). x.number < length cs)) left so_far.3).1,
      omega (arith, sum),
    )

pub returns : goal.returns
returns g c =
    let q : Query = c.args.query.now.query in
    let cs : List ColumnPoints = (g.V.View.seen c.args.view.now).columns in
    let f : SFits w64 c.args.from = search rules in
    let t : SFits w64 c.args.to = search rules in
    let none : c.loop-column.column-iterator ≡ [] = search rules in
    let so_far = rw (to_z-of_z f, to_z-of_z t) at c.loop-column.invariant in
    counted-all c.loop-column.count so_far.4
    ∙ ap (λ (ss : List ColumnRef). counted c.loop-column.count (column_refs_shares q cs c.args.from c.args.to ss)) (sym none)
    ∙ so_far.2
    ∙ counted-none (column_refs_shares q cs c.args.from c.args.to (column_refs_where (is_of q.measurement q.field) cs))
