use Rattle.std.proofs.Common.{◌∙◌, ap, sym, subst, rules, List, ℤ, SFits, w64, to_z-of_z}
use Rattle.std.proofs.lemmas.Option.{get_or_from_slice_get}
use Rattle.ts_core.specs.store.StoreStates.{ColumnPoints}
use Rattle.ts_store.specs.read.PointsRead.{points_between, AreLatestOf, AreRawOf}
use Rattle.ts_store.specs.read.ViewResults.{no_points, points_at}
use Rattle.ts_store.proofs.store.Stands.{range_stands, raw_between}
use Rattle.ts_store.proofs.store.StoreView.raw_range.Goals as goal

pub returns-clause-points : goal.returns-clause-points
returns-clause-points g c =
    let from : SFits w64 c.args.from = search rules in
    let to : SFits w64 c.args.to = search rules in
    c.raw_range.ensures.points
    ∙ (λ i. points_at (c.self.view_is i).columns c.args.column (to_z-of_z from i) (to_z-of_z to i))

pub returns-clause-facts : goal.returns-clause-facts
returns-clause-facts g c = λ s at opening h st.
    let points = returns-clause-points g c ∙ ap (λ (x : ColumnPoints). points_between c.args.from c.args.to x.points) (get_or_from_slice_get c.args.self.now.columns c.args.column s no_points at) in
    subst (λ (ps : List (ℤ × ℤ)). AreLatestOf s.column c.args.from c.args.to ps opening h) (sym points)
    (range_stands opening h c.args.self.now c.args.column s c.args.from c.args.to at st)

pub returns-clause-raw : goal.returns-clause-raw
returns-clause-raw g c = λ s at opening h st.
    let points = returns-clause-points g c ∙ ap (λ (x : ColumnPoints). points_between c.args.from c.args.to x.points) (get_or_from_slice_get c.args.self.now.columns c.args.column s no_points at) in
    subst (λ (ps : List (ℤ × ℤ)). AreRawOf c.args.self.now.waiting s.column c.args.from c.args.to ps opening h) (sym points)
    (raw_between opening h c.args.self.now c.args.column s c.args.from c.args.to at st)
