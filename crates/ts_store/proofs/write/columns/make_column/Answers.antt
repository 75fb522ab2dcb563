use Rattle.std.proofs.Common.{◌≡◌, ◌∙◌, ℕ, Result, Ok, Err, List, [], ◌∷◌, ◌++◌, map, ap, sym, subst, inr, cond, is_ok, refl, true≢false, rules}
use Rattle.std.specs.Result.{IsErr}
use Rattle.std.proofs.lemmas.Option.{get_or_from_slice_get}
use Rattle.ts_core.specs.facts.Facts.{Column}
use Rattle.ts_raw.specs.Columns.{ColumnState}
use Rattle.ts_raw.specs.Indexed.{Indexed, IsSoundIndex, no_series, column_in}
use Rattle.ts_store.specs.store.ColumnStates.{no_column, IsColumnFor}
use Rattle.ts_store.specs.rollup.Rollups.{RollupState, AreRollups, HaveNext, with_next, cells_of}
use Rattle.ts_store.proofs.rollup.RollupsGrow.{rollups-length, rollups_kept, cells_kept, rollups_made, cells_made, ready_to_make, made_behind}
use Rattle.ts_store.proofs.write.columns.make_column.Goals as goal

pub prepare_rollups-requires : goal.prepare_rollups-requires
prepare_rollups-requires g c = rollups-length c.args.rules.now c.args.index.now.columns c.args.rollups.now c.requires.rollups

pub returns-in_err-column-clause-rollups : goal.returns-in_err-column-clause-rollups
returns-in_err-column-clause-rollups g c =
    subst (λ (cs : List Column). AreRollups c.args.rules.now cs c.prepare_rollups.new.rollups) (sym c.in_err-column.ensures.registered.kept)
    (rollups_kept _ _ c.args.rollups.now _ c.requires.rollups c.prepare_rollups.ensures.kept)

pub commit_rollups-requires : goal.commit_rollups-requires
commit_rollups-requires g c =
    let column : Column = column_in c.args.index.now c.args.series c.args.field.now in
    let named : record { series = c.key_of.result.now; field = c.args.field.now } ≡ column =
    λ i. record { series = sym (get_or_from_slice_get c.args.index.now.series c.args.series c.key_of.result.now no_series c.key_of.ensures) i; field = c.args.field.now } in
    ready_to_make c.args.rules.now c.args.index.now.columns column c.in_ok-column.column c.prepare_rollups.new.rollups
    (rollups_kept _ _ c.args.rollups.now _ c.requires.rollups c.prepare_rollups.ensures.kept)
    (subst (λ (d : Column). HaveNext c.args.rules.now d c.prepare_rollups.new.rollups) named c.in_ok-prepare_rollups.ensures.next)
    (made_behind c.args.index.now.columns c.add_column.new.self.columns column c.in_ok-column.column c.requires.absent c.in_ok-column.ensures.registered.gains c.in_ok-column.ensures.registered.number).1

pub returns-clause-column : goal.returns-clause-column
returns-clause-column g c =
    let column : Column = column_in c.args.index.now c.args.series c.args.field.now in
    let before : List ColumnState = c.reserve_eighth.new.list.items in
    let empty : c.new.result ≡ no_column = λ i. record { points = c.new.ensures.points i; staged = c.new.ensures.none_staged i } in
    let pushed : c.push.new.self.items ≡ c.args.columns.now.items ++ no_column ∷ [] =
    c.push.ensures.items ∙ ap (λ r. cond (is_ok r) (before ++ c.new.result ∷ []) before) c.unwrap.ensures
    ∙ ap (λ (xs : List ColumnState). xs ++ c.new.result ∷ []) c.in_ok-reserve_eighth.ensures.items ∙ ap (λ (s : ColumnState). c.args.columns.now.items ++ s ∷ []) empty in
    let made = made_behind c.args.index.now.columns c.add_column.new.self.columns column c.in_ok-column.column c.requires.absent c.in_ok-column.ensures.registered.gains c.in_ok-column.ensures.registered.number in
    record {
      number = c.in_ok-column.ensures.registered.number;
      grown = inr (c.requires.absent, made.0, pushed);
      kept = search rules;
      series = c.add_column.ensures.series;
      sound = λ before. c.add_column.ensures.sound;
    }

pub returns-clause-rollups : goal.returns-clause-rollups
returns-clause-rollups g c =
    let column : Column = column_in c.args.index.now c.args.series c.args.field.now in
    let named : record { series = c.key_of.result.now; field = c.args.field.now } ≡ column =
    λ i. record { series = sym (get_or_from_slice_get c.args.index.now.series c.args.series c.key_of.result.now no_series c.key_of.ensures) i; field = c.args.field.now } in
    let made = rollups_made c.args.rules.now c.args.index.now.columns column c.prepare_rollups.new.rollups
    (rollups_kept _ _ c.args.rollups.now _ c.requires.rollups c.prepare_rollups.ensures.kept)
    (subst (λ (d : Column). HaveNext c.args.rules.now d c.prepare_rollups.new.rollups) named c.in_ok-prepare_rollups.ensures.next) in
    subst (λ (ss : List RollupState). AreRollups c.args.rules.now c.add_column.new.self.columns ss) (sym c.commit_rollups.ensures)
    (subst (λ (cs : List Column). AreRollups c.args.rules.now cs (map with_next c.prepare_rollups.new.rollups))
    (sym (made_behind c.args.index.now.columns c.add_column.new.self.columns column c.in_ok-column.column c.requires.absent c.in_ok-column.ensures.registered.gains c.in_ok-column.ensures.registered.number).0) made)

pub returns-clause-cells : goal.returns-clause-cells
returns-clause-cells g c =
    ap cells_of c.commit_rollups.ensures ∙ cells_made c.prepare_rollups.new.rollups ∙ cells_kept c.args.rollups.now c.prepare_rollups.new.rollups c.prepare_rollups.ensures.kept

-- a refusal that changed no column
refused : {E : Type 0} (c : Column) (before : Indexed) (states : List ColumnState) (after : Indexed) (states' : List ColumnState) (r : Result ℕ E) → IsErr r → (after.columns ≡ before.columns) × (states' ≡ states) → after.series ≡ before.series
    → (IsSoundIndex before → IsSoundIndex after) → IsColumnFor c before states after states' r
refused c before states after states' (Ok n) e kept series sound = absurd (true≢false (sym e))
refused c before states after states' (Err x) e kept series sound = record { number = tt; grown = tt; kept = kept; series = series; sound = sound }

pub returns-in_err-reserve_eighth-clause-column : goal.returns-in_err-reserve_eighth-clause-column
returns-in_err-reserve_eighth-clause-column g c =
    refused (column_in c.args.index.now c.args.series c.args.field.now) c.args.index.now c.args.columns.now.items c.args.index.now c.reserve_eighth.new.list.items c.from_residual.result c.from_residual.ensures.0
    (refl, c.in_err-reserve_eighth.ensures.items) refl (λ sound. sound)

pub returns-in_err-prepare_rollups-clause-column : goal.returns-in_err-prepare_rollups-clause-column
returns-in_err-prepare_rollups-clause-column g c =
    refused (column_in c.args.index.now c.args.series c.args.field.now) c.args.index.now c.args.columns.now.items c.args.index.now c.reserve_eighth.new.list.items c.from_residual-in_err-prepare_rollups.result c.from_residual-in_err-prepare_rollups.ensures.0
    (refl, c.in_ok-reserve_eighth.ensures.items) refl (λ sound. sound)

pub returns-in_err-column-clause-column : goal.returns-in_err-column-clause-column
returns-in_err-column-clause-column g c =
    refused (column_in c.args.index.now c.args.series c.args.field.now) c.args.index.now c.args.columns.now.items c.add_column.new.self c.reserve_eighth.new.list.items c.from_residual-in_err-column.result c.from_residual-in_err-column.ensures.0
    (c.in_err-column.ensures.registered.kept, c.in_ok-reserve_eighth.ensures.items) c.add_column.ensures.series (λ sound. c.add_column.ensures.sound)
