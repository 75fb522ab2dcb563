use Rattle.std.proofs.Common.{◌∙◌, ◌++◌, [], ◌∷◌, ap, sym, subst}
use Rattle.ts_core.specs.lists.Members.{Among}
use Rattle.ts_store.specs.store.ColumnStates.{StoreContent}
use Rattle.ts_store.proofs.image.PartsBuilt.{series_added, series_refused}
use Rattle.ts_store.proofs.store.column_facts.ColumnFacts.add_series.Goals as goal

pub returns-clause-ok : goal.returns-clause-ok
returns-clause-ok g c =
    series_added c.self.inside.index c.register.new.self c.self.inside.columns.items c.self.inside.rollups.items c.args.key.now (subst (λ (h : StoreContent). Among c.args.key.now h.series → ⊥) (sym c.self.view_is) c.requires.absent) c.in-Ok.ensures.registered.gains c.register.ensures.columns
    ∙ ap (λ (h : StoreContent). record { series = h.series ++ c.args.key.now ∷ []; columns = h.columns; rollups = h.rollups }) c.self.view_is

pub returns-in-Err-clause-err : goal.returns-in-Err-clause-err
returns-in-Err-clause-err g c = series_refused c.self.inside.index c.register.new.self c.self.inside.columns.items c.self.inside.rollups.items c.in-Err.ensures.registered.kept c.register.ensures.columns ∙ c.self.view_is
