use Rattle.std.proofs.Common.{◌≡◌, ◌<◌, List, [], ◌∷◌, ◌++◌, length, map, OnOk, inr, sym, ◌∙◌, ap, subst}
use Rattle.std.proofs.lemmas.Result.{on_err_weaker, on_ok_weaker}
use Rattle.ts_core.specs.facts.Facts.{Series}
use Rattle.ts_core.specs.lists.Members.{Among}
use Rattle.ts_raw.specs.FieldKeys.{FieldKey}
use Rattle.ts_raw.specs.IndexParts.{column_named, IsIndexOfParts}
use Rattle.ts_raw.specs.Indexed.{Indexed, column_in}
use Rattle.ts_core.specs.lists.Numbered.{IsAt}
use Rattle.ts_raw.proofs.IndexLemmas.{measurement_of, index_sound}
use Rattle.ts_raw.proofs.IndexSteps.{IsMaking, index_can_grow, made_room, made_absent, made_more, made_same, made_at, made_pushes}
use Rattle.ts_core.proofs.lists.NumberedLemmas.{outcome, ok_with}
use Rattle.ts_raw.proofs.index.Index.make_column.Given.{Over}
use Rattle.ts_raw.proofs.index.Index.make_column.Goals.{After-series}
use Rattle.ts_raw.proofs.index.Index.make_column.Goals as goal

pub invariant_of-self : goal.invariant_of-self
invariant_of-self g c =
    index_can_grow c.self.inside.series c.self.inside.fields c.self.inside.columns c.add_missing_field.new.self c.self.invariant c.add_missing_field.ensures.columns c.add_missing_field.ensures.more

pub returns-in_err-add_missing_field-clause-sound : goal.returns-in_err-add_missing_field-clause-sound
returns-in_err-add_missing_field-clause-sound g c = index_sound c.self.inside.series c.self.inside.fields c.add_missing_field.new.self (invariant_of-self g c)

pub invariant_of-self-in_err-field : goal.invariant_of-self-in_err-field
invariant_of-self-in_err-field g c =
    let series : List Series = c.self.inside.series in
    subst (λ (fs : List FieldKey). IsIndexOfParts series fs c.add_missing_field.new.self) (sym c.in_err-field.ensures.registered.kept)
    (index_can_grow series c.self.inside.fields c.self.inside.columns c.add_missing_field.new.self c.self.invariant c.add_missing_field.ensures.columns c.add_missing_field.ensures.more)

pub returns-in_err-field-clause-sound : goal.returns-in_err-field-clause-sound
returns-in_err-field-clause-sound g c = index_sound c.self.inside.series c.register.new.self c.add_missing_field.new.self (invariant_of-self-in_err-field g c)

-- before the column is pushed
making : (g : Over) (c : After-series g)
    → IsMaking c.self.inside.series c.self.inside.fields c.register.new.self c.self.inside.columns c.add_missing_field.new.self c.args.series c.measurement-measurement.result.now c.args.field.now c.in_ok-field.field
making g c = record {
  is = c.self.invariant;
  there = subst (λ (i : Indexed). c.args.series < length i.series) (sym c.self.view_is) c.requires.series;
  of = measurement_of c.self.inside.series c.args.series c.key.result.now c.measurement-measurement.result.now c.key.ensures c.measurement-measurement.ensures;
  same = c.add_missing_field.ensures.columns;
  spare = subst (λ n. n < c.add_missing_field.new.self.fields) c.len.ensures.value c.in_ok-add_missing_field.ensures.ok;
  more = c.in_ok-field.ensures.registered.gains;
  once = c.in_ok-field.ensures.once;
  at = c.in_ok-field.ensures.registered.number;
}

pub push-requires-clause-field : goal.push-requires-clause-field
push-requires-clause-field g c =
    made_room c.self.inside.series c.self.inside.fields c.register.new.self c.self.inside.columns c.add_missing_field.new.self c.args.series c.measurement-measurement.result.now c.args.field.now
    c.in_ok-field.field (making g (goal.at.push-requires-clause-field g c).After-series)

pub push-requires-clause-absent : goal.push-requires-clause-absent
push-requires-clause-absent g c =
    let absent = subst (λ (i : Indexed). Among (column_in i c.args.series c.args.field.now) i.columns → ⊥) (sym c.self.view_is) c.requires.absent in
    subst (λ s. Among (s, c.in_ok-field.field) c.add_missing_field.new.self.columns → ⊥) (sym c.series.view_is)
    (made_absent c.self.inside.series c.self.inside.fields c.register.new.self c.self.inside.columns c.add_missing_field.new.self c.args.series c.measurement-measurement.result.now c.args.field.now
    c.in_ok-field.field (making g (goal.at.push-requires-clause-absent g c).After-series) absent)

pushed : (g : Over) (c : goal.After-push g) → OnOk c.push.result (c.push.new.self.columns ≡ c.add_missing_field.new.self.columns ++ (c.args.series, c.in_ok-field.field) ∷ [])
pushed g c =
    on_ok_weaker c.push.result (λ e. e ∙ ap (λ s. c.add_missing_field.new.self.columns ++ (s, c.in_ok-field.field) ∷ []) c.series.view_is) c.push.ensures.ok

pub invariant_of-self-2 : goal.invariant_of-self-2
invariant_of-self-2 g c =
    let absent = subst (λ (i : Indexed). Among (column_in i c.args.series c.args.field.now) i.columns → ⊥) (sym c.self.view_is) c.requires.absent in
    made_pushes c.self.inside.series c.self.inside.fields c.register.new.self c.self.inside.columns c.add_missing_field.new.self c.args.series c.measurement-measurement.result.now c.args.field.now
    c.in_ok-field.field (making g (goal.at.invariant_of-self-2 g c).After-series) c.push.new.self absent (outcome c.push.result (pushed g c) c.push.ensures.err) c.push.ensures.fields

pub returns-clause-registered : goal.returns-clause-registered
returns-clause-registered g c =
    let m = making g (goal.at.returns-clause-registered g c).After-series in
    let series : List Series = c.self.inside.series in
    let absent : Among (column_in c.args.self.now c.args.series c.args.field.now) c.args.self.now.columns → ⊥ = c.requires.absent in
    record {
      number = ok_with c.push.result
          (λ n e p.
          subst (λ (i : Indexed). IsAt (map (column_named series c.register.new.self) c.push.new.self.columns) n (column_in i c.args.series c.args.field.now)) c.self.view_is
          (made_at series c.self.inside.fields c.register.new.self c.self.inside.columns c.add_missing_field.new.self c.args.series c.measurement-measurement.result.now c.args.field.now c.in_ok-field.field
          m c.push.new.self n e p))
          c.push.ensures.number (pushed g c);
      gains = on_ok_weaker c.push.result
          (λ p.
          inr (
            absent,
            made_more series c.self.inside.fields c.register.new.self c.self.inside.columns c.add_missing_field.new.self c.args.series c.measurement-measurement.result.now c.args.field.now c.in_ok-field.field
                m c.push.new.self p
                ∙ ap (λ (i : Indexed). i.columns ++ column_in i c.args.series c.args.field.now ∷ []) c.self.view_is,
          ))
          (pushed g c);
      known = λ there. absurd (absent there);
      kept = on_err_weaker c.push.result
          (λ kept.
          made_same series c.self.inside.fields c.register.new.self c.self.inside.columns c.add_missing_field.new.self c.args.series c.measurement-measurement.result.now c.args.field.now
          c.in_ok-field.field m c.push.new.self kept
          ∙ ap (λ (i : Indexed). i.columns) c.self.view_is)
          c.push.ensures.err;
    }

pub returns-clause-sound : goal.returns-clause-sound
returns-clause-sound g c = index_sound c.self.inside.series c.register.new.self c.push.new.self (invariant_of-self-2 g c)
