use Rattle.std.proofs.Common.{subst}
use Rattle.std.specs.List.{AllByRecursion}
use Rattle.ts_core.specs.settings.Settings.{IsPossibleRule, Settings}
use Rattle.ts_core.specs.store.StoreData.{StoreData, AreLive}
use Rattle.ts_store.specs.store.CellCounts.{HoldFew}
use Rattle.ts_store.specs.store.PossibleCells.{HavePossibleCells}
use Rattle.ts_store.specs.store.SizedStores.{IsSized}
use Rattle.ts_store.proofs.store.Store.laws.Goals as goal

pub returns-clause-sized : goal.returns-clause-sized
returns-clause-sized g c = subst IsSized c.self.view_is c.self.invariant.sized

pub returns-clause-counts : goal.returns-clause-counts
returns-clause-counts g c = subst (λ (k : StoreData). HoldFew k.accepted k.columns k.rules) c.self.view_is c.self.invariant.counts

pub returns-clause-live : goal.returns-clause-live
returns-clause-live g c = subst (λ (k : StoreData). AreLive k.columns k.rules) c.self.view_is c.self.invariant.live

pub returns-clause-possible : goal.returns-clause-possible
returns-clause-possible g c = subst (λ (k : StoreData). HavePossibleCells k.rules) c.self.view_is c.self.invariant.possible

pub returns-clause-rules : goal.returns-clause-rules
returns-clause-rules g c = subst (λ (s : Settings). AllByRecursion IsPossibleRule s.rules) c.settings.ensures.value c.rules.ensures.possible
