use Rattle.std.proofs.Common.{◌<◌, List, length, sym, subst}
use Rattle.std.specs.List.{AllByRecursion}
use Rattle.ts_core.specs.facts.Facts.{Column, is_of}
use Rattle.ts_store.proofs.read.ColumnRefLemmas.{numbers-below}
use Rattle.ts_store.proofs.read.view_columns.Columns.all_of.Goals as goal

pub invariant_of-result : goal.invariant_of-result
invariant_of-result g c =
    let cs : List Column = c.args.index.now.columns in
    record {
      there = subst (AllByRecursion (λ n. n < length cs)) (sym c.columns_of.ensures) (numbers-below (is_of c.args.measurement.now c.args.field.now) cs);
      all = λ is. record { measurement = c.args.measurement.now; field = c.args.field.now; are = c.columns_of.ensures };
    }
