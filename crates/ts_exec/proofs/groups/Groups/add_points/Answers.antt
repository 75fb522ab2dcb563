use Rattle.std.proofs.Common.{rules, ◌≡◌, ◌≢◌, [], ◌∷◌, ◌∙◌, ap, refl, sym, length, List, ℕ, ℤ}
use Rattle.std.specs.FinMap.{put}
use Rattle.std.proofs.lemmas.Result.{on_ok_weaker}
use Rattle.ts_core.specs.facts.Facts.{Text}
use Rattle.ts_core.specs.store.StoreStates.{ColumnPoints}
use Rattle.ts_core.specs.queries.Answers.{group_cmp}
use Rattle.ts_store.specs.read.ViewResults.{points_at}
use Rattle.ts_exec.specs.declared.aggregate_parts.AggregateParts.{AggregateParts}
use Rattle.ts_exec.specs.RowParts.{BucketGrid, with_point_parts}
use Rattle.ts_exec.specs.Slots.{Slots}
use Rattle.ts_exec.specs.GroupTables.{Table, rows_for, with_column_parts}
use Rattle.ts_exec.proofs.Slotted.{written-slots, written-made}
use Rattle.ts_exec.proofs.groups.Groups.add_points.Goals as goal

pub invariant_of-self-2 : goal.invariant_of-self-2
invariant_of-self-2 g c =
    written-slots c.slot_near.new.slots.items c.slot_near.ensures.slots c.args.values.now c.in_ok-at.at c.in_ok-at.ensures.slot c.index_mut.result.now c.add_points.new.self c.index_mut.ensures.value c.add_points.ensures.key

-- points insert their group
some_points : (parts : AggregateParts) (grid : BucketGrid) (n : ℕ) (g : List Text) (ps : List (ℤ × ℤ)) (t : Table) → length ps ≢ 0 → put group_cmp g (with_point_parts parts grid ps (rows_for n g t)) t ≡ with_column_parts parts grid n g ps t
some_points parts grid n g [] t some = absurd (some refl)
some_points parts grid n g (p ∷ ps) t some = refl

pub returns-clause-value : goal.returns-clause-value
returns-clause-value g c =
    let parts : AggregateParts = c.args.parts in
    let grid : BucketGrid = c.args.buckets.now in
    let n : ℕ = c.args.width in
    let k : List Text = c.args.values.now in
    let t : Slots = c.slot_near.new.slots.items in
    let all : List (ℤ × ℤ) = c.raw_range-points.result in
    let cs : List ColumnPoints = (g.V.View.seen c.args.range.now.view.now).columns in
    let points : List (ℤ × ℤ) = points_at cs c.args.range.now.column c.args.range.now.from c.args.range.now.to in
    let is : points ≡ all = search rules in
    let some : length all ≢ 0 = search rules in
    on_ok_weaker c.add_points.result (λ rows.
    written-made t c.slot_near.ensures.slots k c.in_ok-at.at c.in_ok-at.ensures.slot c.index_mut.result.now c.add_points.new.self c.index_mut.ensures.value c.add_points.ensures.key (with_point_parts parts grid all) n rows
    ∙ ap (λ (x : Table). put group_cmp k (with_point_parts parts grid all (rows_for n k x)) x) (c.slot_near.ensures.made ∙ c.self.view_is)
    ∙ some_points parts grid n k all c.args.self.now some
    ∙ sym (ap (λ (ps : List (ℤ × ℤ)). with_column_parts parts grid n k ps c.args.self.now) is)) c.add_points.ensures.rows
