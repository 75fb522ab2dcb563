use Rattle.std.proofs.Common.{inl, rules}
use Rattle.ts_core.specs.facts.Facts.{Series}
use Rattle.ts_core.proofs.lists.NumberedLemmas.{at_among}
use Rattle.ts_raw.proofs.index.series.SeriesTable.register.Goals as goal

pub returns-in-Some-clause-registered : goal.returns-in-Some-clause-registered
returns-in-Some-clause-registered g c = record {
  number = search rules;
  gains = inl (at_among c.args.self.now c.in-Some.series c.args.key.now c.in-Some.ensures, c.self.view_is);
  known = search rules;
  kept = search rules;
}

pub returns-in-Some-clause-full : goal.returns-in-Some-clause-full
returns-in-Some-clause-full g c =
    let key : Series = c.args.key.now in
    (λ e. absurd (cc), λ p. absurd (p.1 (at_among c.args.self.now c.in-Some.series key c.in-Some.ensures)))
