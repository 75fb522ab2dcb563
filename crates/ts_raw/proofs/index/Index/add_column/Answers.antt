use Rattle.std.proofs.Common.{◌≡◌, ap, inl, rules}
use Rattle.ts_core.specs.facts.Facts.{Column}
use Rattle.ts_core.proofs.lists.NumberedLemmas.{at_among}
use Rattle.ts_raw.specs.Indexed.{Indexed, column_in}
use Rattle.ts_raw.proofs.index.Index.add_column.Goals as goal

pub returns-in-Some-clause-registered : goal.returns-in-Some-clause-registered
returns-in-Some-clause-registered g c =
    let column : Column = column_in c.args.self.now c.args.series c.args.field.now in
    let same : c.find_column.new.self.columns ≡ c.args.self.now.columns = ap (λ (i : Indexed). i.columns) c.find_column.ensures.unchanged in
    record {
      number = search rules;
      gains = inl (at_among c.args.self.now.columns c.in-Some.column column c.in-Some.ensures.found, same);
      known = search rules;
      kept = search rules;
    }
