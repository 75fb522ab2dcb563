use Rattle.std.proofs.Common.{◌≡◌, List, ap, inl, refl, subst, sym}
use Rattle.ts_core.specs.facts.Facts.{Column}
use Rattle.ts_core.specs.lists.Members.{Among}
use Rattle.ts_core.specs.lists.Numbered.{IsAt}
use Rattle.ts_core.proofs.lists.NumberedLemmas.{at_among}
use Rattle.ts_raw.specs.Indexed.{Indexed, IsSoundIndex, column_in}
use Rattle.ts_store.proofs.write.columns.column_for.Goals as goal

pub returns-in-Some-clause-column : goal.returns-in-Some-clause-column
returns-in-Some-clause-column g c =
    let column : Column = column_in c.args.index.now c.args.series c.args.field.now in
    let same : c.find_column.new.self.columns ≡ c.args.index.now.columns = ap (λ (i : Indexed). i.columns) c.find_column.ensures.unchanged in
    record {
      number = subst (λ (cs : List Column). IsAt cs c.in-Some.column column) (sym same) c.in-Some.ensures.found;
      grown = inl (at_among c.args.index.now.columns c.in-Some.column column c.in-Some.ensures.found, same, refl);
      kept = tt;
      series = ap (λ (i : Indexed). i.series) c.find_column.ensures.unchanged;
      sound = λ sound. subst IsSoundIndex (sym c.find_column.ensures.unchanged) sound;
    }

pub make_column-requires-clause-absent : goal.make_column-requires-clause-absent
make_column-requires-clause-absent g c =
    subst (λ (i : Indexed). Among (column_in i c.args.series c.args.field.now) i.columns → ⊥) (sym c.find_column.ensures.unchanged) c.in-None.ensures.absent
