use Rattle.std.proofs.Common.{◌<◌, ℕ, List, ap, sym, ◌∙◌, subst, map, length, replicate}
use Rattle.std.specs.List.{AllByRecursion}
use Rattle.std.proofs.lemmas.List.{length-replicate}
use Rattle.ts_core.specs.facts.Facts.{Column, is_of}
use Rattle.ts_raw.specs.Columns.{PointMap}
use Rattle.ts_store.specs.read.ViewResults.{column_ref_in}
use Rattle.ts_store.proofs.read.ColumnRefLemmas.{numbers-column_refs, numbers-below}
use Rattle.ts_tests.proofs.many_series.VisitedView.columns_of.Goals as goal

pub new-requires : goal.new-requires
new-requires g c =
    let cs : List Column = c.args.self.now.index.now.columns in
    subst (AllByRecursion (λ n. n < length cs)) (sym c.columns_of.ensures) (numbers-below (is_of c.args.measurement.now c.args.field.now) cs)

pub returns : goal.returns
returns g c =
    let cs : List Column = c.args.self.now.index.now.columns in
    let points : PointMap = c.args.self.now.points.points in
    c.new.ensures
    ∙ ap (λ (ns : List ℕ). map (column_ref_in cs) ns) c.columns_of.ensures
    ∙ numbers-column_refs (is_of c.args.measurement.now c.args.field.now) cs (replicate (length cs) points) (length-replicate (length cs) points)
