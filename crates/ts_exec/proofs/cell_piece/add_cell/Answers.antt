use Rattle.std.proofs.Common.{rules, arith, ◌≡◌, ◌≤◌, ℤ, pos, ◌≤ℤ◌, true, false, cond, min, List, ◌∙◌, ap, ap₂, sym, subst, OnOk, SFits, w64, to_z, of_z, to_z-of_z, map, zip}
use Rattle.std.specs.Int.{w128}
use Rattle.ts_core.specs.facts.Facts.{Text}
use Rattle.ts_core.specs.settings.Settings.{Rule}
use Rattle.ts_core.specs.queries.Queries.{Query, group_of}
use Rattle.ts_core.specs.facts.Tags.{value_among}
use Rattle.ts_core.specs.plans.Pieces.{start_of}
use Rattle.ts_core.specs.plans.Assembly.{representative}
use Rattle.ts_core.specs.store.StoreStates.{total_in}
use Rattle.ts_core.proofs.queries.Boundaries.{within_parts}
use Rattle.ts_ql.specs.Selects.{texts}
use Rattle.ts_store.specs.read.ViewResults.{SeenCell}
use Rattle.ts_exec.specs.GroupValues.{kept_indices}
use Rattle.ts_exec.specs.RowParts.{BucketGrid, bucket_grid, row_index_at}
use Rattle.ts_exec.specs.GroupTables.{Table, width, is_cell_taken, with_cell_part, with_rule_cell}
use Rattle.ts_exec.proofs.Walked.{within_fits, taken-within}
use Rattle.ts_exec.proofs.Widths.{row_index-within}
use Rattle.ts_exec.proofs.cell_piece.add_cell.Goals as goal

pub returns-then-not-is_taken-clause-value : goal.returns-then-not-is_taken-clause-value
returns-then-not-is_taken-clause-value g c =
    let q : Query = c.args.scan.now in
    let r : Rule = c.args.rule.now in
    let k : SeenCell = c.args.cell.now in
    let e : is_cell_taken q r c.args.from c.args.to k ≡ false = search rules in
    sym (ap (λ b. cond b (with_cell_part (width q) (group_of q (representative r k.cell)) (row_index_at (bucket_grid q) (start_of r k.cell.index)) (total_in k.parts) c.args.groups.now) c.args.groups.now) e)

pub overflow_cast-start : goal.overflow_cast-start
overflow_cast-start g c =
    let q : Query = c.args.scan.now in
    let r : Rule = c.args.rule.now in
    let k : SeenCell = c.args.cell.now in
    let e : is_cell_taken q r c.args.from c.args.to k ≡ true = search rules in
    let s : to_z w128 (of_z w128 c.bucket_start-start.result) ≡ start_of r k.cell.index = search rules in
    subst (SFits w64) (sym s) (within_fits c.args.from c.args.to (start_of r k.cell.index) c.ranges.from c.ranges.to (taken-within q r c.args.from c.args.to k e).1)

pub returns-clause-value : goal.returns-clause-value
returns-clause-value g c =
    let q : Query = c.args.scan.now in
    let at : c.scan.inside.query.now.query ≡ q = c.scan.view_is in
    let r : Rule = c.args.rule.now in
    let k : SeenCell = c.args.cell.now in
    let t : ℤ = start_of r k.cell.index in
    let e : is_cell_taken q r c.args.from c.args.to k ≡ true = search rules in
    let wide : pos 1 ≤ℤ q.interval = search rules in
    let within = within_parts q.from q.to t (taken-within q r c.args.from c.args.to k e).0 in
    let near = row_index-within q t wide within.0 within.1 in
    let short : width q ≤ 18446744073709551615 = search rules in
    let start : to_z w128 (of_z w128 c.bucket_start-start.result) ≡ t = search rules in
    let fits : SFits w64 t = within_fits c.args.from c.args.to t c.ranges.from c.ranges.to (taken-within q r c.args.from c.args.to k e).1 in
    let cast : to_z w64 (of_z w64 (to_z w128 (of_z w128 c.bucket_start-start.result))) ≡ t = ap (λ x. to_z w64 (of_z w64 x)) start ∙ to_z-of_z fits in
    let s : c.row_index-row_index.result ≡ min (row_index_at (bucket_grid q) t) 18446744073709551615 =
    c.row_index-row_index.ensures.value ∙ ap₂ (λ (b : BucketGrid) x. min (row_index_at b x) 18446744073709551615) (c.scan.invariant.grid ∙ ap bucket_grid at) cast in
    let p : c.row_index-row_index.result ≡ row_index_at (bucket_grid q) t = omega arith in
    let group : texts c.cell.inside.group.now ≡ k.cell.group = search rules in
    let tags : texts c.group_tags.result.now ≡ q.group_tags = c.group_tags.ensures.value ∙ ap (λ (x : Query). x.group_tags) at in
    let are : c.args.kept.now ≡ kept_indices 0 (texts c.group_tags.result.now) r.kept_tags = c.requires.kept ∙ ap (λ (ts : List Text). kept_indices 0 ts r.kept_tags) (sym tags) in
    let read : c.read_cell.new.self ≡ map (value_among (zip r.kept_tags (texts c.cell.inside.group.now))) (texts c.group_tags.result.now) = search rules in
    let v : c.values.result ≡ group_of q (representative r k.cell) =
    c.values.ensures ∙ read ∙ ap₂ (λ (ks : List Text) (ts : List Text). map (value_among (zip r.kept_tags ks)) ts) group tags in
    let put : with_cell_part (width q) c.values.result c.row_index-row_index.result (total_in k.parts) c.args.groups.now ≡ with_rule_cell q r c.args.from c.args.to k c.args.groups.now =
    ap₂ (λ (x : List Text) i. with_cell_part (width q) x i (total_in k.parts) c.args.groups.now) v p
    ∙ sym (ap (λ b. cond b (with_cell_part (width q) (group_of q (representative r k.cell)) (row_index_at (bucket_grid q) t) (total_in k.parts) c.args.groups.now) c.args.groups.now) e) in
    subst (λ (z : Table). OnOk c.add_part.result (c.add_part.new.self ≡ z)) put (search rules)
