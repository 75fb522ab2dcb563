use Rattle.std.proofs.Common.{rules, ◌≡◌, ◌+◌, ℕ, ℤ, Bool, true, cond, to_z, of_z, w64, ap, ap₂, ◌∙◌, subst, sym, List, ◌∷◌, length, drop, SFits, to_z-of_z}
use Rattle.std.specs.List.{list_all, AllByRecursion}
use Rattle.std.proofs.lemmas.List.{at_drop_all, drop_more}
use Rattle.ts_core.specs.facts.Facts.{Text, is_of}
use Rattle.ts_core.specs.queries.Queries.{Query, meets}
use Rattle.ts_core.specs.store.StoreStates.{ColumnPoints}
use Rattle.ts_core.specs.facts.Tags.{tag_values}
use Rattle.ts_ql.specs.Selects.{texts}
use Rattle.ts_store.specs.read.ViewResults.{ColumnRef, column_refs_where, points_at}
use Rattle.ts_store.proofs.read.ColumnRefLemmas.{column_refs-there}
use Rattle.ts_exec.specs.RowParts.{BucketGrid, bucket_grid}
use Rattle.ts_exec.specs.GroupTables.{Table, IsScanOf, width, with_column_parts, with_column_refs, selected_column_refs}
use Rattle.ts_exec.proofs.Selected.{IsSelected, all_selected, selected_give}
use Rattle.ts_exec.proofs.raw_piece.add_raw.Goals as goal

pub loop-column-init : goal.loop-column-init
loop-column-init g c =
    let q : Query = c.args.scan.now in
    let cs : List ColumnPoints = (g.V.View.seen c.args.view.now).columns in
    let all : List ColumnRef = column_refs_where (is_of q.measurement q.field) cs in
    let a : ℤ = to_z w64 (of_z w64 c.args.from) in
    let b : ℤ = to_z w64 (of_z w64 c.args.to) in
    let chosen : c.deref-column-items.result.now ≡ selected_column_refs q.conditions all =
    c.deref-column-items.ensures.value
    ∙ subst (λ (x : Query). c.in_ok-columns.columns.items ≡ selected_column_refs x.conditions (column_refs_where (is_of x.measurement x.field) cs)) c.scan.view_is c.in_ok-columns.ensures in
    record {
      value = ap₂ (λ (ss : List ColumnRef) (t : Table). with_column_refs c.args.parts q cs a b ss t) chosen c.insert_groups.ensures ∙ selected_give c.args.parts q cs a b all c.args.groups.now;
      selected = subst (AllByRecursion (IsSelected (length cs) q.conditions)) (sym chosen) (all_selected (length cs) q.conditions all (column_refs-there (is_of q.measurement q.field) cs));
      query = c.scan.view_is;
      scan = c.scan.invariant;
    }

pub loop-column-preserved : goal.loop-column-preserved
loop-column-preserved g c =
    let q : Query = c.args.scan.now in
    let cs : List ColumnPoints = (g.V.View.seen c.args.view.now).columns in
    let a : ℤ = to_z w64 (of_z w64 c.args.from) in
    let b : ℤ = to_z w64 (of_z w64 c.args.to) in
    let items : List ColumnRef = c.deref-column-items.result.now in
    let i : ℕ = c.loop-column.column-index in
    let s : ColumnRef = c.column-item.result in
    let rest : List ColumnRef = drop (i + 1) items in
    let groups : Table = c.loop-column.groups in
    let next : drop i items ≡ s ∷ rest = drop_more items i _ c.loop-column-test.true ∙ ap (λ (x : ColumnRef). x ∷ rest) (sym c.column-item.is) in
    let here : AllByRecursion (IsSelected (length cs) q.conditions) (s ∷ rest) = subst (AllByRecursion (IsSelected (length cs) q.conditions)) next c.loop-column.invariant.selected in
    let met : list_all (meets s.series) q.conditions ≡ true = here.0.1 in
    let tags : texts c.group_tags-tags.result.now ≡ q.group_tags = c.group_tags-tags.ensures.value ∙ ap (λ (x : Query). x.group_tags) c.scan.view_is in
    let read : c.read_series.new.self ≡ tag_values (texts c.group_tags-tags.result.now) s.series = search rules in
    let own : c.values-values.result ≡ tag_values q.group_tags s.series = c.values-values.ensures ∙ read ∙ ap (λ (ts : List Text). tag_values ts s.series) tags in
    let given : Table = with_column_parts c.args.parts (bucket_grid q) (width q) (tag_values q.group_tags s.series) (points_at cs s.number a b) groups in
    let added : c.add_points.new.self ≡ given = search rules in
    record {
      value = ap (λ (t : Table). with_column_refs c.args.parts q cs a b rest t) (added ∙ ap (λ (v : Bool). cond v given groups) (sym met))
          ∙ ap (λ (ss : List ColumnRef). with_column_refs c.args.parts q cs a b ss groups) (sym next)
          ∙ c.loop-column.invariant.value;
      selected = here.1;
      query = c.loop-column.invariant.query;
      scan = subst (λ (b : BucketGrid). IsScanOf c.loop-column.scan-inside.query.now.query c.loop-column.scan-inside.width b c.loop-column.scan-inside.tests) (sym c.in_ok-add_points.ensures.same) c.loop-column.invariant.scan;
    }

pub returns-clause-value : goal.returns-clause-value
returns-clause-value g c =
    let q : Query = c.args.scan.now in
    let cs : List ColumnPoints = (g.V.View.seen c.args.view.now).columns in
    let from : SFits w64 c.args.from = search rules in
    let to : SFits w64 c.args.to = search rules in
    let value = rw (to_z-of_z from, to_z-of_z to) at c.loop-column.invariant.value in
    sym (at_drop_all (λ (ss : List ColumnRef). with_column_refs c.args.parts q cs c.args.from c.args.to ss c.loop-column.groups) c.deref-column-items.result.now c.loop-column.column-index c.loop-column-test.false) ∙ value
